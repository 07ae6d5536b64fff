-- An input of either kind.
--   file-answer, record-answer     which reading it takes
--   file-picture                   what the answer of a file's picture tells
--   InputAt, input-picture         the same of an input
--   input-number                   the number of a refusal: at most 15
--   check-refused, check-found     the number by the answer
-- Assumes nothing.
use mathlib.Core.Path.{◌≡◌, refl, ap}
use mathlib.Core.Bool.{Bool, true, false, cond, ◌&&◌}
use mathlib.Core.List.{List}
use Prim.Native.Nat.{ℕ, zero, suc, ◌+◌, ◌*◌, ◌≤◌}
use native.Mathlib.Omega.{arith}
use lib.Dec.{eqb, leb, lit<, lit≤}
use lib.ListN.{length}
use borrow.Author.Tests.{leb-true}
use Rattle.laws.specs.Check.{or_refuse}
use Rattle.laws.proofs.Bools.{and_right}
use Rattle.picture_checks.specs.Picture.{is_side}
use Rattle.picture_checks.proofs.Checked.{check-step, side-in}
use Rattle.pgm.specs.Form.{has_letters, has_form, file_width, file_height, file_maximum, file_start}
use Rattle.pgm.specs.Doors.{image, check_header, check_pixels, found}
use Rattle.pgm.specs.declared.Image.{Image}
use Rattle.laws.specs.Said.{give, refuse}
use Rattle.pgm.proofs.Heads.{header-step}
use Rattle.tray.specs.Record.{pair_at, four_at, width_of, height_of, is_tray_side, check_record}
use Rattle.tray.specs.Input.{FileAt, check_file_to, file_to, check_tray_file, check_input, input_width, input_height, input_start, input_answer}
use Rattle.tray.proofs.Records as records

-- ---- which reading
module _ (s : List ℕ) where
  pub file-answer : has_letters s ≡ true → file_to 160 s ≡ input_answer s
  unfolding file_to input_answer check_input input_width input_height input_start
  file-answer e = rw e

  pub record-answer : has_letters s ≡ false → found (check_record s) (width_of s) (height_of s) 10 ≡ input_answer s
  unfolding input_answer check_input input_width input_height input_start
  record-answer e = rw e

-- ---- what the answer of a picture tells
abbrev pub InputAt : List ℕ → ℕ → ℕ → ℕ → Type 0
InputAt = FileAt 160

file-at : (most : ℕ) (s : List ℕ) → check_file_to most s ≡ 0 → FileAt most s (file_width s) (file_height s) (file_start s)
unfolding check_file_to check_pixels
file-at most s e =
    let t = header-step s _ e in
    let f = check-step (leb (file_width s) most) 13 _ (lit< tt) t.3 in
    let g = check-step (leb (file_height s) most) 13 _ (lit< tt) f.1 in
    let p = check-step (leb (file_start s + file_width s * file_height s) (length s)) 2 0 (lit< tt) g.1 in
    record {
      some_wide = (side-in (file_width s) t.1).0;
      wide = leb-true _ _ f.0;
      some_high = (side-in (file_height s) t.2).0;
      high = leb-true _ _ g.0;
      near = leb-true (file_start s) 4096 (and_right (has_form s) (leb (file_start s) 4096) t.0);
      within = leb-true _ _ p.0;
    }

record-at : (s : List ℕ) → check_record s ≡ 0 → InputAt s (width_of s) (height_of s) 10
record-at s e =
    let a = records.accepted s e in
    record {
      some_wide = a.some_wide;
      wide = a.wide;
      some_high = a.some_high;
      high = a.high;
      near = lit≤ tt;
      within = a.long;
    }

pub input-at : (s : List ℕ) → check_input s ≡ 0 → InputAt s (input_width s) (input_height s) (input_start s)
unfolding check_input input_width input_height input_start
input-at s e = go (has_letters s) e
  where
    go : (b : Bool) → cond b (check_tray_file s) (check_record s) ≡ 0
        → InputAt s (cond b (file_width s) (width_of s)) (cond b (file_height s) (height_of s)) (cond b (file_start s) 10)
    go true e = file-at 160 s e
    go false e = record-at s e

-- an answer that is a picture
pub record Same (n w h at w' h' at' : ℕ) : Type 0 where
  pub no-refusal : n ≡ 0
  pub w-is : w ≡ w'
  pub h-is : h ≡ h'
  pub at-is : at ≡ at'

same : (n w h at w' h' at' : ℕ) → found n w' h' at' ≡ give (image w h at) → Same n w h at w' h' at'
unfolding found
same zero w h at w' h' at' e =
    let i : image w h at ≡ image w' h' at' = cc in
    record {
      no-refusal = refl;
      w-is = ap (λ (q : Image). q.width) i;
      h-is = ap (λ (q : Image). q.height) i;
      at-is = ap (λ (q : Image). q.at) i;
    }
same (suc n) w h at w' h' at' e = absurd (let z : ◌≡◌ {A = ℕ} 0 1 = cc in omega arith)

pub file-picture : (most : ℕ) (s : List ℕ) (w h at : ℕ) → file_to most s ≡ give (image w h at) → FileAt most s w h at
unfolding file_to
file-picture most s w h at e =
    let q = same (check_file_to most s) w h at (file_width s) (file_height s) (file_start s) e in
    rw (q.w-is, q.h-is, q.at-is) (file-at most s q.no-refusal)

pub picture-same : (s : List ℕ) (w h at : ℕ) → input_answer s ≡ give (image w h at)
    → Same (check_input s) w h at (input_width s) (input_height s) (input_start s)
unfolding input_answer
picture-same s w h at e = same (check_input s) w h at (input_width s) (input_height s) (input_start s) e

pub input-picture : (s : List ℕ) (w h at : ℕ) → input_answer s ≡ give (image w h at) → InputAt s w h at
input-picture s w h at e =
    let q = picture-same s w h at e in rw (q.w-is, q.h-is, q.at-is) (input-at s q.no-refusal)

-- ---- the number of a refusal
refuse-le : (b : Bool) {n rest : ℕ} → n ≤ 15 → rest ≤ 15 → or_refuse b n rest ≤ 15
refuse-le true l m = m
refuse-le false l m = l

file-le : (s : List ℕ) → check_tray_file s ≤ 15
unfolding check_file_to check_header check_pixels
file-le s =
    refuse-le (has_form s && leb (file_start s) 4096) (lit≤ tt)
    (refuse-le (eqb (file_maximum s) 255) (lit≤ tt)
    (refuse-le (is_side (file_width s)) (lit≤ tt)
    (refuse-le (is_side (file_height s)) (lit≤ tt)
    (refuse-le (leb (file_width s) 160) (lit≤ tt)
    (refuse-le (leb (file_height s) 160) (lit≤ tt)
    (refuse-le (leb (file_start s + file_width s * file_height s) (length s)) (lit≤ tt) (lit≤ tt)))))))

record-le : (s : List ℕ) → check_record s ≤ 15
record-le s =
    refuse-le (leb 10 (length s)) (lit≤ tt)
    (refuse-le (eqb (pair_at s 4) 1) (lit≤ tt)
    (refuse-le (is_tray_side (width_of s)) (lit≤ tt)
    (refuse-le (is_tray_side (height_of s)) (lit≤ tt)
    (refuse-le (eqb (four_at s 0) (6 + width_of s * height_of s)) (lit≤ tt)
    (refuse-le (leb (10 + width_of s * height_of s) (length s)) (lit≤ tt) (lit≤ tt))))))

input-le : (s : List ℕ) → check_input s ≤ 15
unfolding check_input
input-le s = go (has_letters s)
  where
    go : (b : Bool) → cond b (check_tray_file s) (check_record s) ≤ 15
    go true = file-le s
    go false = record-le s

refused-is : (k n w h at : ℕ) → found k w h at ≡ refuse n → (n ≡ k) × (n ≡ 0 → ⊥)
unfolding found
refused-is zero n w h at e = absurd (let z : ◌≡◌ {A = ℕ} 0 1 = cc in omega arith)
refused-is (suc k) n w h at e = let z : n ≡ suc k = cc in (z, λ y. omega (arith, z, y))

pub input-number : (s : List ℕ) (n : ℕ) → input_answer s ≡ refuse n → (n ≡ check_input s) × ((n ≡ 0 → ⊥) × (n ≤ 15))
unfolding input_answer
input-number s n e =
    let q = refused-is (check_input s) n (input_width s) (input_height s) (input_start s) e in
    (q.0, (q.1, small n (check_input s) q.0 (input-le s)))
  where
    small : (n k : ℕ) → n ≡ k → k ≤ 15 → n ≤ 15
    small n k e l = omega arith
