-- A region's outline by the doors. The picture door: gridded. Kept regions: count-four, listed, kept-boxed. The outline door: points-few,
-- never-refused, points-room, points-part, points-past.
--     what the picture door leaves in the lent grids: gridded
--     kept regions: count-four, listed, kept-boxed
--     the outline door: points-few, never-refused, points-room, points-part, points-past
-- Assumes nothing.
use mathlib.Core.Path.{◌≡◌, refl, sym, ap, ◌∙◌, subst}
use Rattle.std.specs.Result.{IsOk}
use mathlib.Core.List.{List}
use Prim.Native.Nat.{ℕ, zero, suc, ◌+◌, ◌-◌, ◌*◌, ◌≤◌, ◌<◌}
use native.Mathlib.Nat.{mul_comm}
use native.Mathlib.Omega.{arith}
use lib.ListN.{length, get_or, take, drop}
use lib.Seq.{take_at}
use lib.Ieee.{Float}
use borrow.Author.Tests.{lt-ltb, le-leb, eq-eqb}
use Rattle.hull.proofs.Floats.{length-floats}
use Rattle.laws.specs.Move.{Box}
use Rattle.laws.specs.Plane.{Plane, plane, drawn}
use Rattle.laws.specs.Lent.{UntouchedPast, laid}
use Rattle.laws.proofs.Past.{past-front}
use Rattle.laws.proofs.Planes.{plane-drawn}
use Rattle.picture_checks.specs.Picture.{Sides}
use Rattle.levels.specs.Level.{cells, level}
use Rattle.labels.specs.Cells.{cells8, cells_of, label_at}
use Rattle.regions.specs.Kept.{kept_count, kept_of}
use Rattle.regions.specs.Regions.{no_region, region, region_at, kept_regions, box_in}
use Rattle.picture.specs.Door.{levels_after, labels_after}
use Rattle.regions.specs.declared.answer.Region.{Region}
use Rattle.regions.proofs.Inside.{kept-inside}
use Rattle.hull.specs.Points.{floats_of}
use Rattle.boundary.specs.Boundary.{member_at, is_member}
use Rattle.boundary.proofs.Boundary.{Within, boundary-same}
use Rattle.boundary.proofs.Members.{member-lists}
use Rattle.outline.specs.Door.{check_outline, door_points, list_after}
use Rattle.std.proofs.Common.{Result, Ok}
use Rattle.refusal.specs.Numbers.{said, answered}
use Rattle.refusal.specs.declared.Refusal.{Refusal}
use Rattle.refusal.proofs.Numbers.{said-give}
use Rattle.outline.proofs.Doors.{points-le}
use Rattle.region_outline.specs.Region.{region_points, need_of, Gridded, Boxed}

-- ---- what the picture door leaves in the lent grids
pub gridded : (s : List ℕ) (w h n : ℕ) (old₁ old₂ levels labels : List ℕ) → n ≡ 0 → cells w * cells h ≤ length levels
    → cells_of w h ≤ length labels
    → levels ≡ levels_after n s w h old₁ → labels ≡ labels_after n s w h old₂ → Gridded s w h levels labels
gridded s w h n old₁ old₂ levels labels z a b e f =
    let e₀ : levels ≡ drawn (cells w) (cells h) (level (plane w s) w h) old₁ = e ∙ rw z in
    let f₀ : labels ≡ drawn (cells8 w) (cells8 h) (label_at (plane w s) w h) old₂ = f ∙ rw z in
    record {
      level_room = a;
      region_room = b;
      levels_are = λ x y lx ly. ap (λ (l : List ℕ). plane (cells w) l x y) e₀ ∙ plane-drawn (cells w) (cells h) (level (plane w s) w h)
          old₁ x y lx ly;
      labels_are = λ x y lx ly. ap (λ (l : List ℕ). plane (cells8 w) l x y) f₀ ∙ plane-drawn (cells8 w) (cells8 h) (label_at (plane w s)
          w h) old₂ x y lx ly;
    }

-- ---- kept regions
module _ (p : Plane) (w h : ℕ) where
  pub count-four : kept_count p w h ≤ 4
  unfolding kept_count kept_of
  count-four = omega arith

  pub listed : (i : ℕ) → i < kept_count p w h → get_or (kept_regions p w h).list i no_region ≡ region p w h i
  unfolding kept_regions region_at
  listed zero l = rw (lt-ltb 0 (kept_count p w h) l)
  listed (suc zero) l = rw (lt-ltb 1 (kept_count p w h) l)
  listed (suc (suc zero)) l = rw (lt-ltb 2 (kept_count p w h) l)
  listed (suc (suc (suc zero))) l = rw (lt-ltb 3 (kept_count p w h) l)
  listed (suc (suc (suc (suc i)))) l = absurd (omega (arith, count-four))

  pub kept-boxed : (i : ℕ) → 0 < w → i < kept_count p w h → Boxed w h (region p w h i)
  unfolding region
  kept-boxed i a l =
      let b = kept-inside p w h a i l in record { across = b.0; down = b.1; right = b.2; bottom = b.3 }

-- ---- the outline door
laid-points : (L : List (ℕ × ℕ)) (old : List Float) → list_after 0 L old ≡ laid (floats_of L) old
unfolding list_after
laid-points L old = refl

module _ (s : List ℕ) (w h : ℕ) (t : Sides w h (length s)) (r : Region) (g : Boxed w h r) where
  abbrev p : Plane
  p = plane w s

  abbrev box : Box
  box = box_in r

  within : Within box w h
  within = record { across' = omega (arith, g.across); down' = omega (arith, g.down); wide = g.right; high = g.bottom }

  abbrev points : List (ℕ × ℕ)
  points = region_points p w h r

  pub points-few : 2 * length points ≤ need_of w h
  points-few = omega (arith, points-le 4 (is_member p w h r.label) box, g.right, g.bottom)

  module _ (levels labels : List ℕ) (m : Gridded s w h levels labels) (room : ℕ) (a : need_of w h ≤ room) where
    abbrev number : ℕ
    number = check_outline w h (length s) box (length levels) (length labels) room

    outline-passes : number ≡ 0
    outline-passes =
        rw (
          le-leb 1 w t.w-low,
          le-leb w 4096 t.w-high,
          le-leb 1 h t.h-low,
          le-leb h 4096 t.h-high,
          eq-eqb (length s) (w * h) t.count,
          lt-ltb r.x0 r.x1 g.across,
          le-leb r.x1 w g.right,
          lt-ltb r.y0 r.y1 g.down,
          le-leb r.y1 h g.bottom,
          le-leb (cells w * cells h) (length levels) m.level_room,
          le-leb (cells8 w * cells8 h) (length labels) (omega (arith, m.region_room, mul_comm (cells8 w) (cells8 h))),
          le-leb (4 * (r.x1 - r.x0 + (r.y1 - r.y0))) room (omega (arith, g.right, g.bottom)),
        )

    -- its points are those of the picture's own thresholds and labels
    abbrev listed-points : List (ℕ × ℕ)
    listed-points = door_points r.label w s levels labels box

    door-points : listed-points ≡ points
    unfolding door_points
    door-points = boundary-same 4 w h (is_member p w h r.label) (member_at r.label w s levels labels) box within same
      where
        same : (x y : ℕ) → x < w → y < h → member_at r.label w s levels labels x y ≡ is_member p w h r.label x y
        same x y lx ly =
            unfold member_at in
            member-lists p w h r.label (plane (cells w) levels) (plane (cells8 w) labels) m.levels_are m.labels_are x y lx ly

    module _ (answer : Result ℕ Refusal) (e : said answer ≡ answered number (length listed-points)) where
      answer-is : answer ≡ Ok (length points)
      answer-is =
          said-give answer (length points)
          (e ∙ ap (λ (k : ℕ). answered k (length listed-points)) outline-passes ∙ ap (λ (l : List (ℕ × ℕ)). answered 0 (length l))
          door-points
          ∙ unfold answered in refl)

      pub never-refused : IsOk answer
      never-refused = subst IsOk (sym answer-is) refl

      points-many : (n : ℕ) → answer ≡ Ok n → n ≡ length points
      points-many n z = let a = answer-is in cc

      pub points-room : (n : ℕ) → answer ≡ Ok n → 2 * n ≤ need_of w h
      points-room n z = omega (arith, points-few, points-many n z)

      -- the list holds them, and keeps the rest
      module _ (old last : List Float) (f : last ≡ list_after number listed-points old) where
        list-is : last ≡ laid (floats_of points) old
        list-is =
            f ∙ ap (λ (q : ℕ). list_after q listed-points old) outline-passes ∙ ap (λ (l : List (ℕ × ℕ)). list_after 0 l old) door-points
            ∙ laid-points points old

        pub points-part : (n : ℕ) → answer ≡ Ok n → take (2 * n) last ≡ floats_of points
        points-part n z =
            let k : length (floats_of points) ≡ 2 * n = omega (arith, length-floats points, points-many n z) in
            ap (λ (l : List Float). take (2 * n) l) list-is
            ∙ take_at (floats_of points) (drop (length (floats_of points)) old) (2 * n) k

        pub points-past : length old ≡ room → UntouchedPast (need_of w h) old last
        points-past long =
            let k : length (floats_of points) ≤ need_of w h = omega (arith, length-floats points, points-few) in
            past-front (need_of w h) (length (floats_of points)) (floats_of points) old k (omega (arith, k, a, long)) refl list-is
