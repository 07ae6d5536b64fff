-- What stands in a line, stored. Digits: count-few, small-few. A float: nan-stored, hex-stored. Floats one after the other: each-begin,
-- each_turn, each-end. Assumes nothing.
use mathlib.Core.Path.{◌≡◌, refl, sym, ap, ◌∙◌}
use mathlib.Core.Bool.{Bool, true, false, cond}
use mathlib.Core.List.{List, [], ◌∷◌, ◌++◌, append_assoc, append-nil}
use Prim.Native.Nat.{ℕ, ◌+◌, ◌≤◌, ◌<◌}
use native.Mathlib.Numerals.{add-one}
use native.Mathlib.Omega.{arith}
use lib.Ieee.{Float, Format, nan, is_nan, to_bits}
use lib.ListN.{length, get_or, take}
use lib.Seq.{take-suc, take_all}
use Rattle.laws.specs.Lent.{Stored}
use Rattle.laws.proofs.Stores.{stored-none, stored-append, stored-ext}
use Rattle.text.specs.Text.{decimal, hex}
use Rattle.text.proofs.Decimals.{decimal-tens}
use Rattle.attempt_text.specs.Traced.{nan_word, float, each}

-- ---- digits
pub count-few : (n : ℕ) → n < 18446744073709551616 → length (decimal n) ≤ 20
count-few n l = decimal-tens 19 n (omega arith)

pub small-few : (n : ℕ) → n < 256 → length (decimal n) ≤ 3
small-few n l = decimal-tens 2 n (omega arith)

-- ---- a float
module _ (f : Format) (digits : ℕ) (x : Float) where
  abbrev by : Bool → List ℕ
  by b = 32 ∷ cond b nan_word (hex digits (to_bits f x))

  pub nan-stored : {at r r' : ℕ} {l l' l'' : List ℕ} → Stored at (32 ∷ []) l l' r → is_nan x ≡ true → Stored r nan_word l' l'' r' → Stored at
      (float f digits x) l l'' r'
  nan-stored v e u = stored-ext (32 ∷ nan_word) (float f digits x) (ap by (sym e)) (stored-append v u)

  pub hex-stored : {at r r' : ℕ} {l l' l'' : List ℕ} → Stored at (32 ∷ []) l l' r → (n : ℕ) → is_nan x ≡ false → n ≡ to_bits f x
      → Stored r (hex digits n) l' l'' r' → Stored at (float f digits x) l l'' r'
  hex-stored v n e same u =
      stored-ext (32 ∷ hex digits n) (float f digits x)
      (ap (λ (m : ℕ). 32 ∷ hex digits m) same ∙ ap by (sym e)) (stored-append v u)

-- ---- floats one after the other
each_append : (f : Float → List ℕ) (a b : List Float) → each f (a ++ b) ≡ each f a ++ each f b
unfolding each
each_append f [] b = refl
each_append f (x ∷ a) b = ap (λ (l : List ℕ). f x ++ l) (each_append f a b) ∙ sym (append_assoc (f x) (each f a) (each f b))

each-one : (f : Float → List ℕ) (x : Float) → each f (x ∷ []) ≡ f x
unfolding each
each-one f x = append-nil (f x)

each_more : (f : Float → List ℕ) (xs : List Float) (i : ℕ) → i < length xs
    → each f (take i xs) ++ f (get_or xs i nan) ≡ each f (take (i + 1) xs)
each_more f xs i l =
    ap (λ (t : List ℕ). each f (take i xs) ++ t) (sym (each-one f (get_or xs i nan)))
    ∙ sym (each_append f (take i xs) (get_or xs i nan ∷ []))
    ∙ ap (each f) (sym (rw (add-one i) (take-suc xs i nan l)))

module _ (f : Float → List ℕ) (xs : List Float) where
  pub each-begin : (at : ℕ) (l : List ℕ) → Stored at (each f (take 0 xs)) l l at
  unfolding each
  each-begin at l = stored-none at l

  pub each_turn : {at r r' : ℕ} {l l' l'' : List ℕ} (i : ℕ) → i < length xs → Stored at (each f (take i xs)) l l' r
      → Stored r (f (get_or xs i nan)) l' l'' r' → Stored at (each f (take (i + 1) xs)) l l'' r'
  each_turn i below v u =
      stored-ext (each f (take i xs) ++ f (get_or xs i nan)) (each f (take (i + 1) xs)) (each_more f xs i below) (stored-append v u)

  pub each-end : {at r : ℕ} {l l' : List ℕ} (i : ℕ) → length xs ≤ i → Stored at (each f (take i xs)) l l' r → Stored at (each f xs) l l' r
  each-end i all v = stored-ext (each f (take i xs)) (each f xs) (ap (each f) (take_all i xs all)) v
