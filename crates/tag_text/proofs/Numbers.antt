-- Numbers with a point, stored piece by piece.
--   count-few                        digits of a u32
--   minus_is, plus-is                the sign
--   sign-on, sign-off                a minus sign stored, or nothing
--   unit-is                          the unit as a float
--   pointed-stored                   sign, number, point and last digits
--   far-stored, near-stored          a number far away, or with its digits
-- Assumes nothing.
use Rattle.std.proofs.Common.{◌≡◌, ℕ, ◌/◌, ◌^◌, ◌<◌, ◌≤◌, Bool, true, false, cond, not, eqb, List, [], ◌∷◌, ◌++◌, length, pos, sym, ap, ◌∙◌, arith}
use lib.Ieee.{Float, binary64, of_int, add, mul, lt, to_unsigned}
use Rattle.ieee.specs.Constants.{0f}
use Rattle.laws.specs.Lent.{Stored}
use Rattle.laws.proofs.Stores.{stored-none, stored-append, stored-ext}
use Rattle.ieee.specs.Ops.{abs}
use Rattle.text.specs.Text.{decimal, last_digits}
use Rattle.text.proofs.Decimals.{decimal-tens}
use Rattle.tag_text.specs.Decimal.{½, far_word, scaled, is_far, is_minus, sign_text, pointed, fixed}

-- ---- digits
pub count-few : (n : ℕ) → n < 4294967296 → length (decimal n) ≤ 10
count-few n l = decimal-tens 9 n (omega arith)

-- ---- the sign
pub minus_is : (x : Float) (n : ℕ) (b : Bool) → lt x 0f ≡ true → b ≡ not (eqb n 0) → b ≡ is_minus x n
unfolding is_minus
minus_is x n b below e = e ∙ sym (rw below)

pub plus-is : (x : Float) (n : ℕ) → lt x 0f ≡ false → false ≡ is_minus x n
unfolding is_minus
plus-is x n e = rw e

module _ {at r : ℕ} {l l' : List ℕ} (b : Bool) where
  pub sign-on : b ≡ true → Stored at (45 ∷ []) l l' r → Stored at (sign_text b) l l' r
  sign-on e v = stored-ext (45 ∷ []) (sign_text b) (ap sign_text (sym e)) v

pub sign-off : (at : ℕ) (l : List ℕ) (b : Bool) → b ≡ false → Stored at (sign_text b) l l at
sign-off at l b e = stored-ext [] (sign_text b) (ap sign_text (sym e)) (stored-none at l)

-- ---- the magnitude
pub scaled-is : (d unit : ℕ) (x size : Float) (n : ℕ) → unit ≡ 10 ^ d → size ≡ abs x
    → n ≡ to_unsigned 32 (add binary64 (mul binary64 (of_int binary64 (pos unit)) size) ½) → n ≡ scaled d x
unfolding scaled
scaled-is d unit x size n u s e =
    e
    ∙ ap (λ (k : ℕ). to_unsigned 32 (add binary64 (mul binary64 (of_int binary64 (pos k)) size) ½)) u
    ∙ ap (λ (y : Float). to_unsigned 32 (add binary64 (mul binary64 (of_int binary64 (pos (10 ^ d))) y) ½)) s

-- ---- a number
pub pointed-stored : {at r1 r2 r3 r4 : ℕ} {l l1 l2 l3 l4 : List ℕ} (d unit n : ℕ) (x : Float) (b : Bool) → unit ≡ 10 ^ d → b ≡ is_minus x n
    → Stored at (sign_text b) l l1 r1 → Stored r1 (decimal (n / unit)) l1 l2 r2 → Stored r2 (46 ∷ []) l2 l3 r3
    → Stored r3 (last_digits d n) l3 l4 r4 → Stored at (pointed d x n) l l4 r4
unfolding pointed
pointed-stored d unit n x b u s v w p q =
    stored-ext (sign_text b ++ (decimal (n / unit) ++ (46 ∷ last_digits d n))) (pointed d x n)
    (ap (λ (k : ℕ). sign_text b ++ (decimal (n / k) ++ (46 ∷ last_digits d n))) u
    ∙ ap (λ (c : Bool). sign_text c ++ (decimal (n / 10 ^ d) ++ (46 ∷ last_digits d n))) s)
    (stored-append v (stored-append w (stored-append p q)))

module _ {at r r' : ℕ} {l l' l'' : List ℕ} (d : ℕ) (x : Float) (b : Bool) (is : b ≡ is_far x) (v : Stored at (32 ∷ []) l l' r) where
  pub far-stored : b ≡ true → Stored r far_word l' l'' r' → Stored at (fixed d x) l l'' r'
  unfolding fixed
  far-stored e u = stored-ext (32 ∷ far_word) (fixed d x) (ap (λ (c : Bool). 32 ∷ cond c far_word (pointed d x (scaled d x))) (sym e ∙ is))
      (stored-append v u)

  pub near-stored : (n : ℕ) → n ≡ scaled d x → b ≡ false → Stored r (pointed d x n) l' l'' r' → Stored at (fixed d x) l l'' r'
  unfolding fixed
  near-stored n same e u =
      stored-ext (32 ∷ pointed d x n) (fixed d x)
      (ap (λ (k : ℕ). 32 ∷ pointed d x k) same
      ∙ ap (λ (c : Bool). 32 ∷ cond c far_word (pointed d x (scaled d x))) (sym e ∙ is))
      (stored-append v u)
