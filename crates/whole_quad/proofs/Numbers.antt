-- Differences of natural numbers as whole numbers: less-nat the sign; sub-pos the value; gap-square the square; diff-fits, square-fits,
-- square-cast, square-is the square as an i32 has it. Assumes nothing.
use mathlib.Core.Path.{◌≡◌, refl, sym, ap, ap₂, ◌∙◌, subst}
use mathlib.Core.Bool.{Bool, true, false, cond}
use mathlib.Core.List.{[], ◌∷◌}
use Prim.Native.Nat.{ℕ, suc, ◌+◌, ◌-◌, ◌*◌, ◌^◌, ◌≤◌, ◌<◌}
use native.Mathlib.Nat.{mul-le-mul}
use native.Mathlib.Omega.{arith}
use lib.Dec.{T, ltb}
use lib.IntN.{ℤ, pos, negsuc, nat_abs, ◌-ℤ◌, ◌*ℤ◌}
use lib.Signed.{mag, non_neg}
use mir.Syntax.{w32}
use mir.Val.{Fits, SFits, to_z, of_z}
use mir.ValLaws.{to_z-of_z, to_z_pos}
use lib.Ieee.{binary32}
use borrow.Author.Tests.{lt-ltb, ltb-true, ltb-false, le-ltb}
use Rattle.ieee.proofs.Vals.{pos-sub}
use Rattle.whole.specs.Numbers.{◌⊕◌, ◌⊗◌, neg}
use Rattle.whole.specs.Hull.{is_neg}
use Rattle.whole.proofs.Ring.{𝕧, ◌:-◌, ◌:*◌, solve}
use Rattle.hull.proofs.Exact.{less-is}
use Rattle.laws.specs.Gap.{gap}

pub less-nat : (a b : ℕ) → is_neg (pos a ⊕ neg (pos b)) ≡ ltb a b
less-nat a b = sym (less-is (pos a) (pos b))

-- a difference by cases
by_cases : (a b : ℕ) → pos a ⊕ neg (pos b) ≡ cond (ltb a b) (negsuc (b - suc a)) (pos (a - b))
unfolding ◌⊕◌ neg
by_cases a b = pos-sub binary32 a b

pub sub-pos : (a b : ℕ) → b ≤ a → pos a ⊕ neg (pos b) ≡ pos (a - b)
sub-pos a b l = by_cases a b ∙ ap (λ (t : Bool). cond t (negsuc (b - suc a)) (pos (a - b))) (le-ltb a b l)

sub-neg : (a b : ℕ) → a < b → pos a ⊕ neg (pos b) ≡ negsuc (b - suc a)
sub-neg a b l = by_cases a b ∙ ap (λ (t : Bool). cond t (negsuc (b - suc a)) (pos (a - b))) (lt-ltb a b l)

-- the square of a difference
square : (a b : ℤ) → (a ⊕ neg b) ⊗ (a ⊕ neg b) ≡ (b ⊕ neg a) ⊗ (b ⊕ neg a)
square a b = solve (a ∷ b ∷ []) ((𝕧 0 :- 𝕧 1) :* (𝕧 0 :- 𝕧 1)) ((𝕧 1 :- 𝕧 0) :* (𝕧 1 :- 𝕧 0)) refl

times : (a b : ℕ) → pos a ⊗ pos b ≡ pos (a * b)
unfolding ◌⊗◌
times a b = refl

pub gap-square : (a b : ℕ) → (pos a ⊕ neg (pos b)) ⊗ (pos a ⊕ neg (pos b)) ≡ pos (gap a b * gap a b)
gap-square a b = go (ltb a b) refl
  where
    go : (t : Bool) → ltb a b ≡ t → (pos a ⊕ neg (pos b)) ⊗ (pos a ⊕ neg (pos b)) ≡ pos ((a - b + (b - a)) * (a - b + (b - a)))
    go true e =
        let l : a < b = ltb-true a b e in
        let z : b - a ≡ a - b + (b - a) = omega arith in
        square (pos a) (pos b) ∙ ap (λ (t : ℤ). t ⊗ t) (sub-pos b a (omega arith)) ∙ times (b - a) (b - a)
        ∙ ap (λ (n : ℕ). pos (n * n)) z
    go false e =
        let l : b ≤ a = ltb-false a b e in
        let z : a - b ≡ a - b + (b - a) = omega arith in
        ap (λ (t : ℤ). t ⊗ t) (sub-pos a b l) ∙ times (a - b) (a - b) ∙ ap (λ (n : ℕ). pos (n * n)) z

-- ---- in an i32
module _ (a b : ℕ) (la : a ≤ 8192) (lb : b ≤ 8192) where
  plain : to_z w32 a -ℤ to_z w32 b ≡ pos a ⊕ neg (pos b)
  plain = ap₂ (λ (x y : ℤ). x -ℤ y) (to_z_pos w32 a (small a la)) (to_z_pos w32 b (small b lb)) ∙ unfold ◌⊕◌ neg in refl
    where
      small : (n : ℕ) → n ≤ 8192 → n < 2 ^ 31
      small n l = omega arith

  size : mag (pos a ⊕ neg (pos b)) ≤ 8192
  size = go (ltb a b) refl
    where
      go : (t : Bool) → ltb a b ≡ t → mag (pos a ⊕ neg (pos b)) ≤ 8192
      go true e = let l = ltb-true a b e in let z = ap mag (sub-neg a b l) in omega (arith, z)
      go false e = let l = ltb-false a b e in let z = ap mag (sub-pos a b l) in omega (arith, z)

  pub diff-fits : SFits w32 (to_z w32 a -ℤ to_z w32 b)
  diff-fits = record { sfits = let z = ap mag plain in let s = size in omega (arith, z, s) }

  read : to_z w32 (of_z w32 (to_z w32 a -ℤ to_z w32 b)) ≡ pos a ⊕ neg (pos b)
  read = to_z-of_z w32 (to_z w32 a -ℤ to_z w32 b) diff-fits ∙ plain

  abbrev pub squared : ℤ
  squared = to_z w32 (of_z w32 (to_z w32 a -ℤ to_z w32 b)) *ℤ to_z w32 (of_z w32 (to_z w32 a -ℤ to_z w32 b))

  is-gap : squared ≡ pos (gap a b * gap a b)
  is-gap = ap (λ (z : ℤ). z *ℤ z) read ∙ unfold ◌⊗◌ in gap-square a b

  gap-small : gap a b * gap a b ≤ 67108864
  gap-small =
      let g : gap a b ≤ 8192 = omega arith in
      mul-le-mul {n₁ = gap a b} {m₁ = gap a b} {n₂ = 8192} {m₂ = 8192} g g

  pub square-fits : SFits w32 squared
  square-fits = record { sfits = let z = ap mag is-gap in let s = gap-small in omega (arith, z, s) }

  again : to_z w32 (of_z w32 squared) ≡ pos (gap a b * gap a b)
  again = to_z-of_z w32 squared square-fits ∙ is-gap

  pub square-cast : T (non_neg (to_z w32 (of_z w32 squared))) × Fits w32 (nat_abs (to_z w32 (of_z w32 squared)))
  square-cast =
      subst (λ (z : ℤ). T (non_neg z) × Fits w32 (nat_abs z)) (sym again) (tt, record { fits = let s = gap-small in omega (arith, s) })

  pub square-is : (nat_abs (to_z w32 (of_z w32 squared)) ≡ gap a b * gap a b) × (nat_abs (to_z w32 (of_z w32 squared)) ≤ 67108864)
  square-is = let e = ap nat_abs again in let s = gap-small in (e, omega (arith, e, s))
