-- The doors on a picture with sides up to 160. Cells: cells-few. The picture door: picture-passes, mapped, tray-sides. Regions:
-- tray-region. A kept region's outline: points-below, points-few, region-lines-short; its numbers: part-outlined, region-stored. Assumes
-- nothing.
use mathlib.Core.Path.{◌≡◌, sym, ap, ◌∙◌, subst}
use mathlib.Core.List.{List}
use Prim.Native.Nat.{ℕ, ◌*◌, ◌≤◌, ◌<◌}
use native.Mathlib.Nat.{mul-le-mul}
use native.Mathlib.Omega.{arith}
use lib.ListN.{length, length-append}
use lib.Ieee.{Float}
use borrow.Author.Tests.{le-leb, eq-eqb}
use Rattle.hull.proofs.Floats.{length-floats}
use Rattle.laws.specs.Move.{Box}
use Rattle.laws.specs.Plane.{Plane, plane}
use Rattle.levels.specs.Level.{cells}
use Rattle.labels.specs.Cells.{cells8, cells_of}
use Rattle.regions.specs.Kept.{kept_count}
use Rattle.picture_checks.specs.Picture.{Sides}
use Rattle.picture.specs.Door.{check_grids, levels_after, labels_after}
use Rattle.regions.specs.Regions.{region_fields, region, box_in}
use Rattle.regions.specs.declared.answer.Region.{Region}
use Rattle.regions.proofs.Inside.{label-le, cells-le}
use Rattle.hull.specs.Points.{floats_of}
use Rattle.boundary.specs.Boundary.{is_member}
use Rattle.boundary.proofs.Boundary.{Within}
use Rattle.boundary.proofs.Outlines.{boundary-within}
use Rattle.outline.proofs.Doors.{points-le}
use Rattle.region_outline.specs.Region.{region_points, Gridded}
use Rattle.region_outline.proofs.Points.{gridded, kept-boxed}
use Rattle.text.specs.Text.{line_of}
use Rattle.traylist_text.specs.Listing.{region_word, outline_lines, region_lines}
use Rattle.laws.specs.Lent.{Stored}
use Rattle.traylist_text.specs.Inner.{OutlinePoints, lines_by, TrayPicture, TrayRegion}
use Rattle.laws.proofs.Stores.{stored-append, stored-ext}
use Rattle.traylist_text.proofs.Numbers.{line-short}
use Rattle.traylist_text.proofs.Outlines.{near-floats, lines_are}
use Rattle.traylist_text.proofs.Pieces.{region-short}
use Rattle.traylist_text.proofs.Lengths.{Below, below-small, outline-short}

-- ---- cells
pub cells-few : (w h : ℕ) → w ≤ 160 → h ≤ 160 → (cells w * cells h ≤ 100) × (cells_of w h ≤ 400)
cells-few w h a b = (
  mul-le-mul {n₁ = cells w} {m₁ = cells h} {n₂ = 10} {m₂ = 10} (omega arith) (omega arith),
  mul-le-mul {n₁ = cells8 h} {m₁ = cells8 w} {n₂ = 20} {m₂ = 20} (omega arith) (omega arith),
)

module _ (s : List ℕ) (w h : ℕ) (t : TrayPicture s w h) where
  -- ---- the picture door passes
  pub picture-passes : (grid labels stack : ℕ) → 100 ≤ grid → 400 ≤ labels → 400 ≤ stack → check_grids w h (length s) grid labels stack ≡ 0
  picture-passes grid labels stack a b c =
      let f = cells-few w h t.wide t.high in
      rw (
        le-leb 1 w t.some_wide,
        le-leb w 4096 (omega (arith, t.wide)),
        le-leb 1 h t.some_high,
        le-leb h 4096 (omega (arith, t.high)),
        eq-eqb (length s) (w * h) t.bytes,
        le-leb (cells w * cells h) grid (omega arith),
        le-leb (cells_of w h) labels (omega arith),
        le-leb (cells_of w h) stack (omega arith),
      )

  -- what it leaves in the lent grids
  pub mapped : (n : ℕ) (old₁ old₂ levels labels : List ℕ) → n ≡ 0 → 100 ≤ length levels → 400 ≤ length labels
      → levels ≡ levels_after n s w h old₁ → labels ≡ labels_after n s w h old₂ → Gridded s w h levels labels
  mapped n old₁ old₂ levels labels z a b e f =
      let c = cells-few w h t.wide t.high in
      let x : cells w * cells h ≤ length levels = omega (arith, a, c.0) in
      let y : cells_of w h ≤ length labels = omega (arith, b, c.1) in
      gridded s w h n old₁ old₂ levels labels z x y e f

  pub tray-sides : Sides w h (length s)
  tray-sides = record {
    w-low = t.some_wide;
    w-high = omega (arith, t.wide);
    h-low = t.some_high;
    h-high = omega (arith, t.high);
    count = t.bytes;
  }

  -- ---- kept regions
  abbrev p : Plane
  p = plane w s

  pub tray-region : (i : ℕ) → i < kept_count p w h → TrayRegion w h (region p w h i)
  unfolding region
  tray-region i l =
      let f = cells-few w h t.wide t.high in
      record {
        label = omega (arith, label-le p w h i);
        cells = omega (arith, cells-le p w h i);
        boxed = kept-boxed p w h i (omega (arith, t.some_wide)) l;
      }

  -- ---- the outline door
  module _ (r : Region) (g : TrayRegion w h r) where
    abbrev box : Box
    box = box_in r

    within : Within box w h
    within = record { across' = omega (arith, g.boxed.across); down' = omega (arith, g.boxed.down); wide = g.boxed.right; high = g.boxed.bottom }

    -- the points of the region
    abbrev points : List (ℕ × ℕ)
    points = region_points p w h r

    pub points-below : Below points
    points-below q i =
        let b = boundary-within 4 w h (is_member p w h r.label) box within q i in
        (omega (arith, b.0, t.wide), omega (arith, b.1, t.high))

    pub points-few : length points ≤ 640
    points-few = omega (arith, points-le 4 (is_member p w h r.label) box, t.wide, t.high, g.boxed.right, g.boxed.bottom)

    pub region-lines-short : length (region_lines p w h r) ≤ 116
    unfolding region_lines
    region-lines-short =
        let ns : List ℕ = region_fields r in
        omega (
          arith,
          length-append (line_of region_word ns) (outline_lines points),
          line-short region_word ns (region-short w h r g t.wide t.high),
          outline-short points points-below points-few,
        )

    -- ---- numbers that are those of its points
    module _ (part : List Float) (e : part ≡ floats_of points) where
      pub part-outlined : OutlinePoints part
      part-outlined = subst (λ (l : List Float). OutlinePoints l) (sym e) (record {
        few = omega (arith, length-floats points, points-few);
        near = near-floats points points-below;
      })

      pub region-stored : {at next k : ℕ} {l l' l'' : List ℕ}
          → Stored at (line_of region_word (region_fields r)) l l' next
          → Stored next (lines_by part) l' l'' k → Stored at (region_lines p w h r) l l'' k
      unfolding region_lines
      region-stored v u =
          stored-append v
          (stored-ext (lines_by part) (outline_lines points) (ap lines_by e ∙ lines_are points (below-small points points-below)) u)
