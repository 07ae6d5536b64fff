-- The kept regions of a picture lie within it. kept-some: some cell has the label; kept-inside: the box is within the picture and not
-- empty. How large their numbers are: groups-le, label-le, cells-le. Assumes nothing.
use mathlib.Core.Path.{◌≡◌}
use mathlib.Core.Bool.{true, ◌&&◌}
use Prim.Native.Nat.{ℕ, suc, ◌+◌, ◌≤◌, ◌<◌}
use native.Mathlib.Omega.{arith}
use lib.Dec.{eqb}
use borrow.Author.Tests.{leb-true, eqb-true}
use Rattle.laws.specs.Plane.{Plane}
use Rattle.laws.proofs.Counts.{least-le, count_most, count-some}
use Rattle.labels.specs.Labels.{near, first?}
use Rattle.labels.specs.Cells.{cells8, cells_of, ink_cell, cell_label, groups_of, group_size}
use Rattle.regions.specs.Kept.{place, nth, ahead, want, kept_of, kept_at, kept_count, kept_label, kept_cells}
use Rattle.regions.specs.Boxes.{region_box}
use Rattle.regions.proofs.Kept.{kept-at}
use Rattle.regions.proofs.Regions.{region-in}

module _ (p : Plane) (w h : ℕ) where
  -- a kept region has its label in some cell
  pub kept-some : (i : ℕ) → i < kept_count p w h → (d : ℕ) × (d < cells_of w h) × (cell_label p w h d ≡ kept_label p w h i)
  unfolding kept_count kept_of kept_label
  kept-some i l =
      let s = group_size p w h in
      let m = groups_of p w h in
      let a = kept_at s m i in
      let k = kept-at s m i (omega arith) in
      let big : 16 ≤ s a = leb-true 16 (s a) (unfold want in k.wanted) in
      let r = some a (omega arith) in
      (r.0, r.1, eqb-true (cell_label p w h r.0) (suc a) r.2)
    where
      some : (a : ℕ) → 0 < group_size p w h a → (d : ℕ) × (d < cells_of w h) × (eqb (cell_label p w h d) (suc a) ≡ true)
      some a l = count-some (λ c. eqb (cell_label p w h c) (suc a)) (cells_of w h) (unfold group_size in l)

  pub kept-inside : 0 < w → (i : ℕ) → i < kept_count p w h
      → ((region_box p w h (kept_label p w h i)).x0 < (region_box p w h (kept_label p w h i)).x1)
      × ((region_box p w h (kept_label p w h i)).y0 < (region_box p w h (kept_label p w h i)).y1)
      × ((region_box p w h (kept_label p w h i)).x1 ≤ w)
      × ((region_box p w h (kept_label p w h i)).y1 ≤ h)
  kept-inside pos i l = let r = kept-some i l in region-in p w h (kept_label p w h i) (omega arith) r.0 r.1 r.2

  -- how large the numbers are
  pub groups-le : groups_of p w h ≤ cells_of w h
  unfolding groups_of
  groups-le = count_most (first? (ink_cell p w h) (near (cells8 w)) (cells_of w h)) (cells_of w h)

  pub label-le : (i : ℕ) → kept_label p w h i ≤ cells_of w h + 1
  unfolding kept_label kept_at nth
  label-le i =
      omega (
        arith,
        groups-le,
        least-le (λ a. want (group_size p w h) a && eqb (place (want (group_size p w h)) (ahead (group_size p w h)) (groups_of p w h) a) i)
            (groups_of p w h),
      )

  pub cells-le : (i : ℕ) → kept_cells p w h i ≤ cells_of w h
  unfolding kept_cells group_size
  cells-le i = count_most (λ c. eqb (cell_label p w h c) (suc (kept_at (group_size p w h) (groups_of p w h) i))) (cells_of w h)
