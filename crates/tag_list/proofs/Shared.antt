-- Two kept regions have no pixel in common: no-ink-shared. Assumes nothing.
use mathlib.Core.Path.{◌≡◌, sym, ap, ◌∙◌}
use mathlib.Core.Bool.{Bool, true, false, ◌||◌, not}
use Prim.Native.Nat.{ℕ, suc, ◌/◌, ◌<◌}
use native.Mathlib.Omega.{arith}
use lib.Dec.{eqb, ltb}
use borrow.Author.Tests.{eqb-true, ne_eqb}
use Rattle.laws.specs.Plane.{Plane}
use Rattle.laws.proofs.Bools.{and_right}
use Rattle.levels.specs.Level.{ink_of, level}
use Rattle.labels.specs.Cells.{label_at, group_size, groups_of}
use Rattle.regions.specs.Kept.{kept_of, kept_at, kept_count, kept_label, place, want, ahead}
use Rattle.regions.proofs.Kept.{kept-at}
use Rattle.boundary.specs.Boundary.{counts, member_of, is_member}
use Rattle.tag_list.specs.Claims.{NoInkShared}

-- a wanted label that counts is the cell's own
counts-is : (l k : ℕ) → counts (suc l) k ≡ true → k ≡ suc l
counts-is l k e =
    let some : eqb (suc l) 0 ≡ false = ne_eqb (suc l) 0 (λ z. omega (arith, z)) in
    eqb-true k (suc l)
    (sym (ap (λ (b : Bool). b || eqb k (suc l)) some) ∙ and_right (not (eqb k 0)) (eqb (suc l) 0 || eqb k (suc l)) e)

module _ (p : Plane) (w h : ℕ) where
  member-label : (i x y : ℕ) → is_member p w h (kept_label p w h i) x y ≡ true → label_at p w h (x / 8) (y / 8) ≡ kept_label p w h i
  unfolding is_member member_of ink_of kept_label
  member-label i x y e =
      counts-is (kept_at (group_size p w h) (groups_of p w h) i) (label_at p w h (x / 8) (y / 8))
      (and_right (ltb (p x y) (level p w h (x / 16) (y / 16))) _ e)

  -- the i-th has place i
  placed : (i : ℕ) → i < kept_count p w h
      → place (want (group_size p w h)) (ahead (group_size p w h)) (groups_of p w h) (kept_at (group_size p w h) (groups_of p w h) i) ≡ i
  unfolding kept_count kept_of
  placed i l = (kept-at (group_size p w h) (groups_of p w h) i (omega arith)).placed

  kept-one : (i j : ℕ) → i < kept_count p w h → j < kept_count p w h → kept_label p w h i ≡ kept_label p w h j → i ≡ j
  unfolding kept_label
  kept-one i j li lj e =
      let z : kept_at (group_size p w h) (groups_of p w h) i ≡ kept_at (group_size p w h) (groups_of p w h) j = omega (arith, e) in
      sym (placed i li) ∙ ap (place (want (group_size p w h)) (ahead (group_size p w h)) (groups_of p w h)) z ∙ placed j lj

pub no-ink-shared : NoInkShared
unfolding NoInkShared
no-ink-shared p w h i j x y li lj a b = kept-one p w h i j li lj (sym (member-label p w h i x y a) ∙ member-label p w h j x y b)
