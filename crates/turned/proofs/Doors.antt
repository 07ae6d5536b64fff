-- The doors carry demand 3: the claim, read through what accepted calls leave and answer.
--     shapes, up, up', alike, doors-moved
-- Assumes nothing.
use mathlib.Core.Path.{◌≡◌, refl, sym, ap, ap₂, ◌∙◌, subst}
use mathlib.Core.Logic.{◌↔◌}
use mathlib.Core.Bool.{Bool, true, false, cond}
use mathlib.Core.List.{List, []}
use Prim.Native.Nat.{ℕ, zero, suc, ◌*◌, ◌/◌, ◌<◌, ◌≤◌}
use native.Mathlib.Omega.{arith}
use lib.Dec.{ltb}
use lib.Ieee.{Float}
use Rattle.laws.specs.Plane.{Plane, plane, Alike}
use Rattle.laws.specs.Move.{Move, wide_of, high_of, moved, place_of, Box, moved_bytes}
use Rattle.laws.proofs.Planes.{plane-drawn}
use Rattle.laws.proofs.Moves.{place-within, sides-times}
use Rattle.levels.specs.Level.{cells, ink_of, ink_at}
use Rattle.labels.specs.Labels.{label}
use Rattle.labels.specs.Cells.{cells8, cell, ink_cell, cell_label, label_at, groups_of}
use Rattle.regions.specs.Kept.{kept_count, kept_label}
use Rattle.regions.specs.Boxes.{region_box}
use Rattle.regions.specs.Regions.{region, kept_regions}
use Rattle.regions.specs.declared.answer.Kept.{Kept}
use Rattle.regions.specs.declared.answer.Region.{Region}
use Rattle.hull.specs.Points.{floats_of, UpTo}
use Rattle.boundary.specs.Boundary.{outline_of}
use Rattle.boundary.proofs.Boundary.{Within, box-within}
use Rattle.boundary.proofs.Points.{region-within}
use Rattle.turned.specs.Taken.{Taken, NoTies, Way, in_floats, in_wholes}
use Rattle.turned.specs.Claims.{Moved, SameThresholds, SameInk, SameInkCells, SameGroups, SameRegion, SamePoints, SameHull, SameQuad}
use Rattle.turned.specs.Calls.{Pictured, region_of, Outlined, numbers_listed}
use Rattle.turned.specs.Outlines.{ShapesAlike, ByFloats, ByWholes}
use Rattle.turned.specs.Doors.{RegionsAlike, DoorsAlike, PictureDoorsMoved, DoorsMoved}
use Rattle.turned.proofs.Answers.{by-floats, marks-moved}
use Rattle.turned.proofs.Wholes.{by-wholes}
use Rattle.turned.proofs.Shapes.{Exact, small, small'}
use Rattle.turned.proofs.Calls.{regions-is, grid-at, label-at, region-is, points-is, listed-is}
use Rattle.turned.proofs.Turned.{untied, moved-is, floats-exact, wholes-exact}

-- a label is 0 exactly where the cell is no ink cell
label-none : (p : Plane) (w h x y : ℕ) → label_at p w h x y ≡ 0 → ink_cell p w h (cell (cells8 w) x y) ≡ false
unfolding label_at cell_label label
label-none p w h x y e = go (ink_cell p w h (cell (cells8 w) x y)) _ e
  where
    go : (b : Bool) (n : ℕ) → cond b (suc n) zero ≡ 0 → b ≡ false
    go true n e = absurd (omega arith)
    go false n e = refl

none-label : (p : Plane) (w h x y : ℕ) → ink_cell p w h (cell (cells8 w) x y) ≡ false → label_at p w h x y ≡ 0
unfolding label_at cell_label label
none-label p w h x y e = rw e

some-label : (p : Plane) (w h x y : ℕ) → 0 < label_at p w h x y → ink_cell p w h (cell (cells8 w) x y) ≡ true
some-label p w h x y l = go (ink_cell p w h (cell (cells8 w) x y)) refl
  where
    go : (b : Bool) → ink_cell p w h (cell (cells8 w) x y) ≡ b → b ≡ true
    go true e = refl
    go false e = absurd (let z = none-label p w h x y e in omega arith)

-- an equation on either side of an equivalence exchanged
swap : (a b c d a' b' c' d' : ℕ) → a ≡ a' → b ≡ b' → c ≡ c' → d ≡ d' → (a' ≡ b') ↔ (c' ≡ d') → (a ≡ b) ↔ (c ≡ d)
swap a b c d a' b' c' d' ea eb ec ed f =
    (λ e. ec ∙ f.0 (sym ea ∙ e ∙ eb) ∙ sym ed, λ e. ea ∙ f.1 (sym ec ∙ e ∙ ed) ∙ sym eb)

-- how many regions were answered in all
all-is : (s : List ℕ) (w h : ℕ) (c : Pictured s w h) → c.regions.all ≡ groups_of (plane w s) w h
all-is s w h c = ap (λ (k : Kept). k.all) (regions-is s w h c) ∙ unfold kept_regions in refl

module _ (n : ℕ) (way : Way) (exact : Exact n way) (m : Move) (W H : ℕ) (s : List ℕ) (c : Pictured s (16 * W) (16 * H)) (s' : List ℕ)
    (c' : Pictured s' (wide_of m (16 * W) (16 * H)) (high_of m (16 * W) (16 * H))) (most : ℕ) (fit : 2 * most ≤ n) (t : Taken most W H s)
    (ties : NoTies (plane (16 * W) s) (16 * W) (16 * H))
    (same : Alike (wide_of m (16 * W) (16 * H)) (high_of m (16 * W) (16 * H)) (plane (wide_of m (16 * W) (16 * H)) s')
    (moved m (16 * W) (16 * H) (plane (16 * W) s))) where
  abbrev w : ℕ
  w = 16 * W

  abbrev h : ℕ
  h = 16 * H

  abbrev w' : ℕ
  w' = wide_of m w h

  abbrev h' : ℕ
  h' = high_of m w h

  abbrev p : Plane
  p = plane w s

  abbrev p' : Plane
  p' = plane w' s'

  less_w : 2 * (16 * W) ≤ n
  less_w = let a = t.wide-most in omega arith

  less_h : 2 * (16 * H) ≤ n
  less_h = let a = t.high-most in omega arith

  claim : Moved m W H p p' way
  claim = moved-is n way exact m W H p p' t.wide t.high less_w less_h same ties

  -- as many level cells and region cells as the moved sides have
  level-cells : (cells w' ≡ wide_of m W H) × (cells h' ≡ high_of m W H)
  level-cells = let e = sides-times m 16 W H in (omega (arith, e.0), omega (arith, e.1))

  region-cells : (cells8 w' ≡ wide_of m (cells8 w) (cells8 h)) × (cells8 h' ≡ high_of m (cells8 w) (cells8 h))
  region-cells =
      let a : cells8 w ≡ 2 * W = omega arith in
      let b : cells8 h ≡ 2 * H = omega arith in
      let e = sides-times m 16 W H in
      let f = sides-times m 2 W H in
      let x : cells8 w' ≡ wide_of m (2 * W) (2 * H) = omega (arith, e.0, f.0) in
      let y : cells8 h' ≡ high_of m (2 * W) (2 * H) = omega (arith, e.1, f.1) in
      (x ∙ ap₂ (λ (i j : ℕ). wide_of m i j) (sym a) (sym b), y ∙ ap₂ (λ (i j : ℕ). high_of m i j) (sym a) (sym b))

  -- labels left at a cell and at the cell where it goes
  label-there : (x y : ℕ) → x < cells8 w → y < cells8 h → plane (cells8 w) c.labels x y ≡ label_at p w h x y
  label-there x y lx ly = label-at s w h c x y lx ly

  label-there' : (x y : ℕ) → x < cells8 w → y < cells8 h
      → plane (cells8 w') c'.labels (place_of m (cells8 w) (cells8 h) x y).0 (place_of m (cells8 w) (cells8 h) x y).1
      ≡ label_at p' w' h' (place_of m (cells8 w) (cells8 h) x y).0 (place_of m (cells8 w) (cells8 h) x y).1
  label-there' x y lx ly =
      let i = place-within m (cells8 w) (cells8 h) x y lx ly in
      let e = region-cells in
      label-at s' w' h' c' _ _ (subst (λ (n : ℕ). (place_of m (cells8 w) (cells8 h) x y).0 < n) (sym e.0) i.0)
      (subst (λ (n : ℕ). (place_of m (cells8 w) (cells8 h) x y).1 < n) (sym e.1) i.1)

  kept-is : c.regions.kept ≡ kept_count p w h
  kept-is = ap (λ (k : Kept). k.kept) (regions-is s w h c) ∙ unfold kept_regions in refl

  kept-is' : c'.regions.kept ≡ kept_count p' w' h'
  kept-is' = ap (λ (k : Kept). k.kept) (regions-is s' w' h' c') ∙ unfold kept_regions in refl

  thresholds : (x y : ℕ) → x < W → y < H
      → plane (cells w') c'.grid (place_of m W H x y).0 (place_of m W H x y).1 ≡ plane (cells w) c.grid x y
  unfolding SameThresholds
  thresholds x y lx ly =
      let i = place-within m W H x y lx ly in
      let e = level-cells in
      grid-at s' w' h' c' _ _ (subst (λ (n : ℕ). (place_of m W H x y).0 < n) (sym e.0) i.0)
      (subst (λ (n : ℕ). (place_of m W H x y).1 < n) (sym e.1) i.1)
      ∙ claim.thresholds x y lx ly
      ∙ sym (grid-at s w h c x y (omega arith) (omega arith))

  ink : (x y : ℕ) → x < w → y < h
      → ink_of p' (plane (cells w') c'.grid) (place_of m w h x y).0 (place_of m w h x y).1 ≡ ink_of p (plane (cells w) c.grid) x y
  unfolding SameInk ink_of ink_at
  ink x y lx ly =
      let i = place-within m w h x y lx ly in
      let X = (place_of m w h x y).0 in
      let Y = (place_of m w h x y).1 in
      ap (λ (n : ℕ). ltb (p' X Y) n) (grid-at s' w' h' c' (X / 16) (Y / 16) (omega (arith, i.0)) (omega (arith, i.1)))
      ∙ claim.ink x y lx ly
      ∙ sym (ap (λ (n : ℕ). ltb (p x y) n) (grid-at s w h c (x / 16) (y / 16) (omega arith) (omega arith)))

  unlabelled : (x y : ℕ) → x < cells8 w → y < cells8 h
      → (plane (cells8 w) c.labels x y ≡ 0)
      ↔ (plane (cells8 w') c'.labels (place_of m (cells8 w) (cells8 h) x y).0 (place_of m (cells8 w) (cells8 h) x y).1 ≡ 0)
  unfolding SameInkCells
  unlabelled x y lx ly =
      let e = claim.ink_cells x y lx ly in
      let X = (place_of m (cells8 w) (cells8 h) x y).0 in
      let Y = (place_of m (cells8 w) (cells8 h) x y).1 in (
        λ z. label-there' x y lx ly ∙ none-label p' w' h' X Y (e ∙ label-none p w h x y (sym (label-there x y lx ly) ∙ z)),
        λ z. label-there x y lx ly ∙ none-label p w h x y (sym e ∙ label-none p' w' h' X Y (sym (label-there' x y lx ly) ∙ z)),
      )

  groups : (x y u v : ℕ) → x < cells8 w → y < cells8 h → u < cells8 w → v < cells8 h
      → 0 < plane (cells8 w) c.labels x y → 0 < plane (cells8 w) c.labels u v
      → (plane (cells8 w) c.labels x y ≡ plane (cells8 w) c.labels u v)
      ↔ (plane (cells8 w') c'.labels (place_of m (cells8 w) (cells8 h) x y).0 (place_of m (cells8 w) (cells8 h) x y).1
      ≡ plane (cells8 w') c'.labels (place_of m (cells8 w) (cells8 h) u v).0 (place_of m (cells8 w) (cells8 h) u v).1)
  unfolding SameGroups
  groups x y u v lx ly lu lv some some' =
      swap _ _ _ _ _ _ _ _ (label-there x y lx ly) (label-there u v lu lv) (label-there' x y lx ly) (label-there' u v lu lv)
      (claim.groups x y u v lx ly lu lv (some-label p w h x y (subst (λ (n : ℕ). 0 < n) (label-there x y lx ly) some))
      (some-label p w h u v (subst (λ (n : ℕ). 0 < n) (label-there u v lu lv) some')))

  -- ---- the i-th region
  module _ (i : ℕ) (l : i < kept_count p w h) where
    l' : i < kept_count p' w' h'
    l' = subst (λ (n : ℕ). i < n) (sym claim.kept) l

    within : Within (region_box p w h (kept_label p w h i)) w h
    within = region-within m W H t.wide t.high p p' same (untied p w h ties) i l

    within' : Within (region_box p' w' h' (kept_label p' w' h' i)) w' h'
    unfolding SameRegion
    within' = subst (λ (b : Box). Within b w' h') (sym (claim.regions i l).1)
        (box-within m w h (region_box p w h (kept_label p w h i)) within)

    regions : RegionsAlike m W H s c s' c' (region_of s w h c i) (region_of s' w' h' c' i)
    regions =
        subst (λ (r : Region). RegionsAlike m W H s c s' c' r (region_of s' w' h' c' i)) (sym (region-is s w h c i l))
        (subst (λ (r : Region). RegionsAlike m W H s c s' c' (region p w h i) r) (sym (region-is s' w' h' c' i l')) alike)
      where
        alike : RegionsAlike m W H s c s' c' (region p w h i) (region p' w' h' i)
        alike = unfold region SameRegion in record {
          group = λ x y lx ly.
              swap _ _ _ _ _ _ _ _ (label-there x y lx ly) refl (label-there' x y lx ly) refl ((claim.regions i l).0 x y lx ly);
          box = (claim.regions i l).1;
          count = (claim.regions i l).2;
        }

    abbrev L : List (ℕ × ℕ)
    L = outline_of 4 p w h (kept_label p w h i)

    abbrev L' : List (ℕ × ℕ)
    L' = outline_of 4 p' w' h' (kept_label p' w' h' i)

    module _ (o : Outlined s w h c (region_of s w h c i)) (o' : Outlined s' w' h' c' (region_of s' w' h' c' i)) where
      stored : numbers_listed o.answer o.list ≡ floats_of L
      stored = listed-is s w h c (region_of s w h c i) o ∙ ap floats_of (points-is s w h c i l within)

      stored' : numbers_listed o'.answer o'.list ≡ floats_of L'
      stored' = listed-is s' w' h' c' (region_of s' w' h' c' i) o' ∙ ap floats_of (points-is s' w' h' c' i l' within')

    pub shapes : ShapesAlike m w h L L' (way.hull_of_points L) (way.hull_of_points L') (way.quad_of_hull (way.hull_of_points L))
        (way.quad_of_hull (way.hull_of_points L'))
    unfolding SamePoints SameHull SameQuad
    shapes = record { boundary = claim.boundary i l; hull = claim.hulls i l; quad = claim.quads i l }

    pub up : UpTo n L
    up = small n way exact m W H p p' t.wide t.high less_w less_h same (untied p w h ties) i l

    pub up' : UpTo n L'
    up' = small' n way exact m W H p p' t.wide t.high less_w less_h same (untied p w h ties) i l

  -- what the numbers of a region's points and of the moved one's give, is given for every region answered
  pub alike : (A : List Float → List Float → Type 0)
      → ((i : ℕ) (l : i < kept_count p w h) (r r' : List Float) → r ≡ floats_of (L i l) → r' ≡ floats_of (L' i l) → A r r')
      → DoorsAlike m W H s c s' c' A
  alike A each = record {
    thresholds = thresholds;
    ink = ink;
    unlabelled = unlabelled;
    groups = groups;
    all = all-is s' w' h' c' ∙ claim.many ∙ sym (all-is s w h c);
    kept = kept-is' ∙ claim.kept ∙ sym kept-is;
    regions = λ i l. regions i (subst (λ (k : ℕ). i < k) kept-is l);
    outlines = λ i l o o'.
        let l' = subst (λ (k : ℕ). i < k) kept-is l in
        each i l' (numbers_listed o.answer o.list) (numbers_listed o'.answer o'.list) (stored i l' o o') (stored' i l' o o');
  }

same-as : (m : Move) (W H : ℕ) (s : List ℕ)
    → Alike (wide_of m (16 * W) (16 * H)) (high_of m (16 * W) (16 * H)) (plane (wide_of m (16 * W) (16 * H)) (moved_bytes m (16 * W) (16 * H) s))
    (moved m (16 * W) (16 * H) (plane (16 * W) s))
same-as m W H s =
    plane-drawn (wide_of m (16 * W) (16 * H)) (high_of m (16 * W) (16 * H)) (moved m (16 * W) (16 * H) (plane (16 * W) s)) []

pictures-moved : PictureDoorsMoved 1024 ByFloats
unfolding PictureDoorsMoved
pictures-moved W H s t ties m c c' =
    alike 2048 in_floats floats-exact m W H s c (moved_bytes m (16 * W) (16 * H) s) c' 1024 (omega arith) t ties (same-as m W H s)
    (ByFloats m (16 * W) (16 * H))
    (λ i l r r' e e'. by-floats m (16 * W) (16 * H) _ _ r r' e e'
    (shapes 2048 in_floats floats-exact m W H s c (moved_bytes m (16 * W) (16 * H) s) c' 1024 (omega arith) t ties (same-as m W H s) i l))

large-moved : PictureDoorsMoved 4096 ByWholes
unfolding PictureDoorsMoved
large-moved W H s t ties m c c' =
    alike 8192 in_wholes wholes-exact m W H s c (moved_bytes m (16 * W) (16 * H) s) c' 4096 (omega arith) t ties (same-as m W H s)
    (ByWholes m (16 * W) (16 * H))
    (λ i l r r' e e'. by-wholes m (16 * W) (16 * H) _ _ r r' e e'
    (up 8192 in_wholes wholes-exact m W H s c (moved_bytes m (16 * W) (16 * H) s) c' 4096 (omega arith) t ties (same-as m W H s) i l)
    (up' 8192 in_wholes wholes-exact m W H s c (moved_bytes m (16 * W) (16 * H) s) c' 4096 (omega arith) t ties (same-as m W H s) i l)
    (shapes 8192 in_wholes wholes-exact m W H s c (moved_bytes m (16 * W) (16 * H) s) c' 4096 (omega arith) t ties (same-as m W H s) i l))

pub doors-moved : DoorsMoved
doors-moved = record { pictures = pictures-moved; large = large-moved; marks = marks-moved }
