-- A written picture reads back.
--   digit-counts                     a digit is no comment
--   digits-begin, digits-gap, digits-past, digits_number     digits at the beginning of what counts
--   ReadItem, item_back              a line feed and a number, as an item
--   text-is                          the text of a file, item by item
--   file-form, file-width, file-height, file-maximum, file-start     its header
-- Assumes nothing.
use mathlib.Core.Path.{◌≡◌, refl, sym, ap, ◌∙◌}
use mathlib.Core.Bool.{true, false}
use mathlib.Core.List.{List, [], ◌∷◌, ◌++◌, append_assoc}
use Prim.Native.Nat.{ℕ, suc, ◌+◌, ◌-◌, ◌*◌}
use native.Mathlib.Omega.{arith}
use lib.Dec.{eqb, leb}
use lib.ListN.{length}
use borrow.Author.Tests.{leb-true, ne_eqb}
use Rattle.laws.proofs.Bools.{and_left}
use Rattle.pgm.specs.Form.{is_white, is_digit, bare, begins, past_white, past_digits, number_after, is_item, item_number, past_item, past_first, has_letters, has_form, from_height, from_maximum, from_last, file_width, file_height, file_maximum, file_start}
use Rattle.text.specs.Text.{spelt, decimal}
use Rattle.pgm.specs.Doors.{header_text, file_text}
use Rattle.pgm.proofs.Chain.{digit-not-white}
use Rattle.pgm.proofs.Numbers.{Digits, one, more, valued, decimal-digits, decimal-valued}

-- ---- digits
digit-counts : (d : ℕ) → is_digit d ≡ true → eqb d 35 ≡ false
unfolding is_digit
digit-counts d e =
    let lo = leb-true 48 d (and_left (leb 48 d) (leb d 57) e) in
    ne_eqb d 35 (λ z. omega arith)

bare-digit : (d i : ℕ) (s : List ℕ) → is_digit d ≡ true → bare false i (d ∷ s) ≡ (d, i) ∷ bare false (suc i) s
unfolding bare
bare-digit d i s e = rw (digit-counts d e)

digits-begin : {D : List ℕ} → Digits D → (i : ℕ) (s : List ℕ) → begins is_digit (bare false i (D ++ s)) ≡ true
digits-begin (one {d} e) i s = rw (bare-digit d i s e) (unfold begins in e)
digits-begin (more {d} {l} e r) i s = rw (bare-digit d i (l ++ s) e) (unfold begins in e)

digits-gap : {D : List ℕ} → Digits D → (i : ℕ) (s : List ℕ) → past_white (bare false i (D ++ s)) ≡ bare false i (D ++ s)
digits-gap (one {d} e) i s = rw (bare-digit d i s e) (unfold past_white in rw (digit-not-white d e))
digits-gap (more {d} {l} e r) i s = rw (bare-digit d i (l ++ s) e) (unfold past_white in rw (digit-not-white d e))

-- a line feed counts, and ends a number
feed : (i : ℕ) (s : List ℕ) → bare false i (10 ∷ s) ≡ (10, i) ∷ bare false (suc i) s
unfolding bare
feed i s = refl

feed-past : (i : ℕ) (s : List ℕ) → past_digits (bare false i (10 ∷ s)) ≡ bare false i (10 ∷ s)
unfolding bare past_digits is_digit
feed-past i s = refl

feed-number : (n i : ℕ) (s : List ℕ) → number_after n (bare false i (10 ∷ s)) ≡ n
unfolding bare number_after is_digit
feed-number n i s = refl

past-digit : (d i : ℕ) (s : List ℕ) → is_digit d ≡ true → past_digits (bare false i (d ∷ s)) ≡ past_digits (bare false (suc i) s)
past-digit d i s e = rw (bare-digit d i s e) (unfold past_digits in rw e)

number-digit : (n d i : ℕ) (s : List ℕ) → is_digit d ≡ true
    → number_after n (bare false i (d ∷ s)) ≡ number_after (10 * n + (d - 48)) (bare false (suc i) s)
number-digit n d i s e = rw (bare-digit d i s e) (unfold number_after in rw e)

digits-past : {D : List ℕ} → Digits D → (i : ℕ) (s : List ℕ) → past_digits (bare false i (D ++ (10 ∷ s))) ≡ bare false (i + length D) (10 ∷
    s)
digits-past (one {d} e) i s =
    let z : suc i ≡ i + 1 = omega arith in
    past-digit d i (10 ∷ s) e ∙ feed-past (suc i) s ∙ ap (λ (j : ℕ). bare false j (10 ∷ s)) z
digits-past (more {d} {l} e r) i s =
    let z : suc i + length l ≡ i + suc (length l) = omega arith in
    past-digit d i (l ++ (10 ∷ s)) e ∙ digits-past r (suc i) s ∙ ap (λ (j : ℕ). bare false j (10 ∷ s)) z

digits_number : {D : List ℕ} → Digits D → (n i : ℕ) (s : List ℕ) → number_after n (bare false i (D ++ (10 ∷ s))) ≡ valued n D
digits_number (one {d} e) n i s = number-digit n d i (10 ∷ s) e ∙ feed-number (10 * n + (d - 48)) (suc i) s ∙ unfold valued in refl
digits_number (more {d} {l} e r) n i s =
    number-digit n d i (l ++ (10 ∷ s)) e ∙ digits_number r (10 * n + (d - 48)) (suc i) s ∙ unfold valued in refl

-- ---- an item: a line feed and a number
abbrev pub item_text : ℕ → List ℕ → List ℕ
item_text n s = 10 ∷ (decimal n ++ s)

pub record ReadItem (n i : ℕ) (s : List ℕ) : Type 0 where
  pub is : is_item (bare false i (item_text n (10 ∷ s))) ≡ true
  pub number : item_number (bare false i (item_text n (10 ∷ s))) ≡ n
  pub past : past_item (bare false i (item_text n (10 ∷ s))) ≡ bare false (i + (1 + length (decimal n))) (10 ∷ s)

gap_is : (n i : ℕ) (s : List ℕ) → past_white (bare false i (item_text n s)) ≡ bare false (suc i) (decimal n ++ s)
gap_is n i s = rw (feed i (decimal n ++ s)) (unfold past_white is_white in digits-gap (decimal-digits n) (suc i) s)

item_back : (n i : ℕ) (s : List ℕ) → ReadItem n i s
item_back n i s = record {
  is = unfold is_item in rw (gap_is n i (10 ∷ s), digits-begin (decimal-digits n) (suc i) (10 ∷ s), feed i (decimal n ++ (10 ∷ s)))
      (unfold begins is_white in refl);
  number = unfold item_number in rw (gap_is n i (10 ∷ s)) (digits_number (decimal-digits n) 0 (suc i) s ∙ decimal-valued n);
  past = unfold past_item in rw (gap_is n i (10 ∷ s)) (digits-past (decimal-digits n) (suc i) s ∙ ap (λ (j : ℕ). bare false j (10 ∷ s))
      (sum i (length (decimal n))));
}
  where
    sum : (i k : ℕ) → suc i + k ≡ i + (1 + k)
    sum i k = omega arith

-- ---- the file
pub text-is : (w h : ℕ) (s : List ℕ) → file_text w h s ≡ 80 ∷ 53 ∷ item_text w (item_text h (item_text 255 (10 ∷ s)))
unfolding file_text header_text
text-is w h s =
    ap (λ (t : List ℕ). 80 ∷ 53 ∷ 10 ∷ t)
    (append_assoc (decimal w) (10 ∷ (decimal h ++ (10 ∷ 50 ∷ 53 ∷ 53 ∷ 10 ∷ []))) s
    ∙ ap (λ (t : List ℕ). decimal w ++ (10 ∷ t))
    (append_assoc (decimal h) (10 ∷ 50 ∷ 53 ∷ 53 ∷ 10 ∷ []) s
    ∙ ap (λ (d : List ℕ). decimal h ++ (10 ∷ (d ++ (10 ∷ s)))) (sym three)))
  where
    three : decimal 255 ≡ 50 ∷ 53 ∷ 53 ∷ []
    three = unfold decimal spelt in refl

-- its header, item by item
module _ (w h : ℕ) (s : List ℕ) where
  abbrev pub file : List ℕ
  file = 80 ∷ 53 ∷ item_text w (item_text h (item_text 255 (10 ∷ s)))

  abbrev pub second : ℕ
  second = 2 + (1 + length (decimal w))

  abbrev pub third : ℕ
  third = second + (1 + length (decimal h))

  abbrev pub end : ℕ
  end = third + (1 + length (decimal 255))

  height-from : from_height file ≡ bare false second (item_text h (item_text 255 (10 ∷ s)))
  height-from = (item_back w 2 (decimal h ++ item_text 255 (10 ∷ s))).past

  maximum-from : from_maximum file ≡ bare false third (item_text 255 (10 ∷ s))
  maximum-from = ap past_item height-from ∙ (item_back h second (decimal 255 ++ (10 ∷ s))).past

  last-from : from_last file ≡ bare false end (10 ∷ s)
  last-from = ap past_item maximum-from ∙ (item_back 255 third s).past

  pub file-form : has_form file ≡ true
  unfolding has_form
  file-form =
      rw (
        last-from,
        maximum-from,
        height-from,
        (item_back w 2 (decimal h ++ item_text 255 (10 ∷ s))).is,
        (item_back h second (decimal 255 ++ (10 ∷ s))).is,
        (item_back 255 third s).is,
      )
      (unfold has_letters begins is_white bare in refl)

  pub file-width : file_width file ≡ w
  unfolding file_width
  file-width = (item_back w 2 (decimal h ++ item_text 255 (10 ∷ s))).number

  pub file-height : file_height file ≡ h
  unfolding file_height
  file-height = ap item_number height-from ∙ (item_back h second (decimal 255 ++ (10 ∷ s))).number

  pub file-maximum : file_maximum file ≡ 255
  unfolding file_maximum
  file-maximum = ap item_number maximum-from ∙ (item_back 255 third s).number

  pub file-start : file_start file ≡ suc end
  unfolding file_start
  file-start = ap past_first last-from ∙ unfold past_first bare in refl
