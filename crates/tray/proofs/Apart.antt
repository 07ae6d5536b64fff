-- No record begins with the letters P5: with these its length would be 13,648 and more, and neither 13,642 nor 13,641 is a product of two
-- sides up to 160, by one computed test over the sides.
--   no-area            a number that is no such product
--   letters-apart      the claim
-- Assumes nothing.
use mathlib.Core.Path.{◌≡◌, refl, sym, ◌∙◌}
use mathlib.Core.Bool.{Bool, true, false, not, ◌||◌}
use mathlib.Core.List.{List}
use Prim.Native.Nat.{ℕ, zero, suc, ◌+◌, ◌*◌, ◌/◌, ◌≤◌, ◌<◌}
use native.Mathlib.Nat.{zero-mul, div-eq_of_eq-mul_right, mul-le-mul}
use native.Mathlib.Omega.{arith}
use lib.Dec.{eqb, ltb, lit<}
use lib.ListN.{get_or}
use borrow.Author.Tests.{eq-eqb, eqb-true, le-ltb}
use Rattle.laws.proofs.Bools.{and_left, and_right, clash, falsely, holds, holds_at}
use Rattle.pgm.specs.Form.{has_letters}
use Rattle.tray.specs.Record.{four_at, width_of, height_of}
use Rattle.tray.specs.Claims.{LettersApart}
use Rattle.tray.proofs.Records.{accepted, head_of, head-length}

-- n is no product of w and a number up to 160
apart : ℕ → ℕ → Bool
apart n w = not (eqb (w * (n / w)) n) || ltb 160 (n / w)

positive : (w h n : ℕ) → 0 < n → w * h ≡ n → 0 < w
positive zero h n l e = absurd (none n (sym (zero-mul h) ∙ e) l)
  where
    none : (n : ℕ) → 0 ≡ n → 0 < n → ⊥
    none n e l = omega arith
positive (suc w) h n l e = omega arith

no-area : (n : ℕ) → 0 < n → holds 161 (apart n) ≡ true → (w h : ℕ) → w ≤ 160 → h ≤ 160 → w * h ≡ n → ⊥
no-area n l all w h a b e =
    let d : n / w ≡ h = div-eq_of_eq-mul_right (positive w h n l e) (sym e) in
    clash (holds_at 161 (apart n) all w (omega arith)) (fails d)
  where
    fails : n / w ≡ h → apart n w ≡ false
    fails d = unfold apart in rw (d, eq-eqb (w * h) n e, le-ltb 160 h b)

-- ---- the letters
module _ (s : List ℕ) (w h : ℕ) (wide : w ≤ 160) (high : h ≤ 160) where
  -- a length that is so much more than the pixels
  apart_by : (more n : ℕ) → more + n ≡ 13648 → more ≤ 7 → (w * h ≡ n → ⊥) → four_at s 0 ≡ more + w * h → has_letters s ≡ false
  apart_by more n sum few none e = falsely (has_letters s) letters
    where
      size : (x y z a : ℕ) → x ≡ 80 → y ≡ 53 → a ≤ 25600 → x + 256 * y + 65536 * z ≡ more + a → a ≡ n
      size x y z a p q l e = omega (arith, sum, few)

      letters : has_letters s ≡ true → ⊥
      letters t = none
          (size (get_or s 0 0) (get_or s 1 0) (get_or s 2 0 + 256 * get_or s 3 0) (w * h)
          (eqb-true (get_or s 0 0) 80 (unfold has_letters in and_left (eqb (get_or s 0 0) 80) (eqb (get_or s 1 0) 53) t))
          (eqb-true (get_or s 1 0) 53 (unfold has_letters in and_right (eqb (get_or s 0 0) 80) (eqb (get_or s 1 0) 53) t))
          (mul-le-mul {n₁ = w} {m₁ = h} {n₂ = 160} {m₂ = 160} wide high) e)

pub letters-apart : LettersApart
letters-apart = record {
  accepted = λ s e.
      let a = accepted s e in
      apart_by s (width_of s) (height_of s) a.wide a.high 6 13642 refl (lib.Dec.lit≤ tt)
      (no-area 13642 (lit< tt) (unfold holds apart in refl) (width_of s) (height_of s) a.wide a.high) (head-length s (head_of s e));
  longer = λ s w h wide high e.
      apart_by s w h wide high 7 13641 refl (lib.Dec.lit≤ tt) (no-area 13641 (lit< tt) (unfold holds apart in refl) w h wide high) e;
}
