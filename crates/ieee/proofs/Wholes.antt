-- A float that is n / 2 for a whole n, doubled and cast, is n: the corners as `traylist` prints them. Assumes nothing.
use Rattle.std.proofs.Common.{◌≡◌, ℕ, zero, suc, ◌-◌, ◌*◌, ◌/◌, ◌^◌, ◌<◌, ◌≤◌, min, Bool, true, false, pos, nat_abs, sym, refl, ap, ◌∙◌, subst, zero-lt-suc, mul_assoc, pow-suc, mul-one, mul_right_comm, mul-div_cancel, arith, lit≤}
use native.Mathlib.Nat.{eq_of_mul-eq-mul_right}
use lib.IntN.{pos-ne-negsuc}
use lib.Ieee.{Float, nan, inf, fin, binary32, up, down, mul, of_bits, to_unsigned}
use lib.Ieee.Fits.{down_pos}
use lib.Ieee.Exact.{HasValue}
use Rattle.ieee.specs.Inner.{signed, Val}
use Rattle.ieee.proofs.Vals.{mul_val}

size_of : (s : Bool) (k n : ℕ) → signed s k ≡ pos n → k ≡ n
size_of false k n e = ap nat_abs e
size_of true zero n e = ap nat_abs e
size_of true (suc k) n e = absurd (pos-ne-negsuc n k (sym e))

capped : (v w : ℕ) → v < w → min v (w - 1) ≡ v
capped v w h = omega arith

neg-zero : (s : Bool) (k n : ℕ) → s ≡ true → signed s k ≡ pos n → 0 ≡ n
neg-zero false k n t e = absurd (mathlib.Core.Bool.false≢true t)
neg-zero true zero n t e = ap nat_abs e
neg-zero true (suc k) n t e = absurd (pos-ne-negsuc n k (sym e))

pub unsigned-val : (w n : ℕ) (x : Float) → n < 2 ^ w → Val x 0 (pos n) → to_unsigned w x ≡ n
unfolding to_unsigned
unsigned-val w n nan h v = absurd v.has
unsigned-val w n (inf s) h v = absurd v.has
unsigned-val w n (fin true m e) h v = neg-zero v.minus v.size n (sym v.has.0) v.is
unsigned-val w n (fin false m e) h v =
    let q : m * up e / down e ≡ n =
    ap (λ (z : ℕ). z / down e)
    (sym (mul-one (m * up e)) ∙ v.has.1 ∙ ap (λ (k : ℕ). k * down e) (size_of v.minus v.size n v.is))
    ∙ mul-div_cancel n (down_pos e) in
    ap (λ (z : ℕ). min z (2 ^ w - 1)) q ∙ capped n (2 ^ w) h

halved-has : (x : Float) (s : Bool) (k n c : ℕ) → k ≡ n * 2 → HasValue x s k (c * 2) → HasValue x s n c
halved-has nan s k n c e h = absurd h
halved-has (inf t) s k n c e h = absurd h
halved-has (fin t m e) s k n c q h = (
  h.0,
  eq_of_mul-eq-mul_right 2 (zero-lt-suc 1) (m * up e * c) (n * down e)
      (mul_assoc (m * up e) c 2 ∙ h.1 ∙ ap (λ (z : ℕ). z * down e) q ∙ mul_right_comm n 2 (down e)),
)

signed-half : (s : Bool) (k n : ℕ) → k ≡ n * 2 → signed s k ≡ pos (n * 2) → signed s n ≡ pos n
signed-half false k n q e = refl
signed-half true k zero q e = refl
signed-half true zero (suc n) q e = absurd (no n q)
  where
    no : (n : ℕ) → 0 ≡ suc n * 2 → ⊥
    no n h = omega arith
signed-half true (suc k) (suc n) q e = absurd (pos-ne-negsuc (suc n * 2) k (sym e))

pub coarser : {x : Float} {j n : ℕ} → Val x (suc j) (pos (n * 2)) → Val x j (pos n)
coarser {x} {j} {n} v =
    let q = size_of v.minus v.size (n * 2) v.is in
    record {
      minus = v.minus;
      size = n;
      has = halved-has x v.minus v.size n (2 ^ j) q
          (subst (λ (c : ℕ). HasValue x v.minus v.size c) (pow-suc 2 j) v.has);
      is = signed-half v.minus v.size n q v.is;
    }

pub two-val : Val (of_bits binary32 0x4000_0000) 0 (pos 2)
unfolding of_bits
two-val = record { minus = false; size = 2; has = (refl, refl); is = refl }

-- x * 2.0 of an x = n / 2 is n, and its cast too
pub doubled-val : {x : Float} {n : ℕ} → n ≤ 8388608 → Val x 1 (pos n) → Val (mul binary32 x (of_bits binary32 0x4000_0000)) 0 (pos n)
doubled-val {x} {n} h v = coarser (mul_val binary32 (lit≤ tt) (small n h) v two-val)
  where
    small : (n : ℕ) → n ≤ 8388608 → n * 2 ≤ 16777216
    small n h = omega arith

pub doubled-cast : (x : Float) (n : ℕ) → n ≤ 8388608 → Val x 1 (pos n) → to_unsigned 32 (mul binary32 x (of_bits binary32 0x4000_0000)) ≡ n
doubled-cast x n h v = unsigned-val 32 n (mul binary32 x (of_bits binary32 0x4000_0000)) (below n h) (doubled-val h v)
  where
    below : (n : ℕ) → n ≤ 8388608 → n < 2 ^ 32
    below n h = omega arith
