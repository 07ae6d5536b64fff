-- A word copied into a part of a list: word_stored. A number stored digit by digit: one-stored, more-stored, last_end, last_stored, hex-end,
-- hex-stored. Assumes nothing.
use mathlib.Core.Path.{◌≡◌, refl, sym, ap, ◌∙◌}
use mathlib.Core.List.{List, [], ◌∷◌, ◌++◌}
use Prim.Native.Nat.{ℕ, suc, ◌+◌, ◌-◌, ◌/◌, ◌%◌, ◌≤◌, ◌<◌}
use native.Mathlib.Omega.{arith}
use Rattle.std.proofs.Common.{length, take, drop, append_assoc}
use lib.Seq.{sets-eq, drop-drop}
use borrow.Rule.Slice.PartMut.{put_mid}
use Rattle.laws.specs.Lent.{Stored}
use Rattle.laws.proofs.Stores.{stored-none, stored-append, stored-ext}
use Rattle.text.specs.Text.{decimal, last_digits, hex_digit, hex}
use Rattle.text.proofs.Decimals.{decimal-one, decimal-more, last_none, last_more, hex-none, hex-more}

-- a word put in the place of a part
pub word_stored : (at m : ℕ) (w part l : List ℕ) → at + length w ≤ length l → m ≡ length w → part ≡ w
    → Stored at w l (put_mid at m l part) (at + length w)
word_stored at m w part l room em ew =
    record {
      list = rw (em, ew, drop-drop (length w) at l) (sym (sets-eq w l at room ∙ append_assoc (take at l) w (drop (at + length w) l)));
      next = refl;
    }

-- ---- numbers stored digit by digit
pub one-stored : {at r : ℕ} {l l' : List ℕ} (n d : ℕ) → n < 10 → d ≡ 48 + n → Stored at (d ∷ []) l l' r → Stored at (decimal n) l l' r
one-stored n d below e v = stored-ext (d ∷ []) (decimal n) (ap (λ (b : ℕ). b ∷ []) e ∙ sym (decimal-one n below)) v

pub more-stored : {at r r' : ℕ} {l l' l'' : List ℕ} (n d : ℕ) → 10 ≤ n → d ≡ 48 + n % 10 → Stored at (decimal (n / 10)) l l' r
    → Stored r (d ∷ []) l' l'' r' → Stored at (decimal n) l l'' r'
more-stored n d above e v u =
    stored-ext (decimal (n / 10) ++ (d ∷ [])) (decimal n)
    (ap (λ (b : ℕ). decimal (n / 10) ++ (b ∷ [])) e ∙ sym (decimal-more n above)) (stored-append v u)

pub last_end : (at k n : ℕ) (l : List ℕ) → k ≡ 0 → Stored at (last_digits k n) l l at
last_end at k n l e = stored-ext [] (last_digits k n) (last_none n ∙ ap (λ (j : ℕ). last_digits j n) (sym e)) (stored-none at l)

pub last_stored : {at r r' : ℕ} {l l' l'' : List ℕ} (k n d : ℕ) → (k ≡ 0 → ⊥) → d ≡ 48 + n % 10
    → Stored at (last_digits (k - 1) (n / 10)) l l' r → Stored r (d ∷ []) l' l'' r' → Stored at (last_digits k n) l l'' r'
last_stored k n d some e v u =
    let z : suc (k - 1) ≡ k = omega (arith, some_more) in
    stored-ext (last_digits (k - 1) (n / 10) ++ (d ∷ [])) (last_digits k n)
    (ap (λ (b : ℕ). last_digits (k - 1) (n / 10) ++ (b ∷ [])) e ∙ last_more (k - 1) n ∙ ap (λ (j : ℕ). last_digits j n) z)
    (stored-append v u)
  where
    some_more : 1 ≤ k
    some_more = omega (arith, some)

pub hex-end : (at k n : ℕ) (l : List ℕ) → k ≡ 0 → Stored at (hex k n) l l at
hex-end at k n l e = stored-ext [] (hex k n) (hex-none n ∙ ap (λ (j : ℕ). hex j n) (sym e)) (stored-none at l)

pub hex-stored : {at r r' : ℕ} {l l' l'' : List ℕ} (k n d : ℕ) → (k ≡ 0 → ⊥) → d ≡ hex_digit (n % 16) → Stored at (hex (k - 1) (n /
    16)) l l' r
    → Stored r (d ∷ []) l' l'' r' → Stored at (hex k n) l l'' r'
hex-stored k n d some e v u =
    let z : suc (k - 1) ≡ k = omega (arith, some_more) in
    stored-ext (hex (k - 1) (n / 16) ++ (d ∷ [])) (hex k n)
    (ap (λ (b : ℕ). hex (k - 1) (n / 16) ++ (b ∷ [])) e ∙ hex-more (k - 1) n ∙ ap (λ (j : ℕ). hex j n) z) (stored-append v u)
  where
    some_more : 1 ≤ k
    some_more = omega (arith, some)
