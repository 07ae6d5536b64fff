-- The text of a file, stored part by part.
--   header-length, text-length             how many bytes
--   header-stored                          the parts of a header
--   write-few, write-on, write-off         the checks of the writer
--   write-room                             what the checks tell where they pass
--   written, unwritten                     its answers
-- Assumes nothing.
use mathlib.Core.Path.{◌≡◌, refl, sym, ap, ◌∙◌, subst}
use mathlib.Core.List.{List, [], ◌∷◌}
use Prim.Native.Nat.{ℕ, zero, suc, ◌+◌, ◌*◌, ◌≤◌, ◌<◌}
use native.Mathlib.Nat.{zero-add}
use native.Mathlib.Omega.{arith}
use lib.Dec.{eqb, leb, lit<}
use lib.ListN.{length, length-append}
use borrow.Author.Tests.{leb-true, le-leb, lt-leb}
use Rattle.laws.specs.Check.{or_refuse}
use Rattle.laws.specs.Lent.{Stored}
use Rattle.laws.proofs.Stores.{stored-append, stored-laid}
use Rattle.refusal.specs.Numbers.{answered}
use Rattle.picture_checks.specs.Picture.{is_side, check_picture}
use Rattle.picture_checks.proofs.Checked.{check-on, check-off, check-step}
use Rattle.text.specs.Text.{decimal}
use Rattle.pgm.specs.Doors.{header_text, file_text, check_write, file_after}
use Rattle.laws.specs.Said.{give, refuse}

-- ---- the file
pub header-length : (w h : ℕ) → length (header_text w h) ≡ 9 + length (decimal w) + length (decimal h)
unfolding header_text
header-length w h =
    simp length-append (omega arith)

pub text-length : (w h : ℕ) (s : List ℕ) → length (file_text w h s) ≡ length (header_text w h) + length s
unfolding file_text
text-length w h s = length-append (header_text w h) s

module _ (w h : ℕ) {r₁ r₂ r₃ r₄ r₅ : ℕ} {l l₁ l₂ l₃ l₄ l₅ : List ℕ} where
  pub header-stored : Stored 0 (80 ∷ 53 ∷ 10 ∷ []) l l₁ r₁ → Stored r₁ (decimal w) l₁ l₂ r₂ → Stored r₂ (10 ∷ []) l₂ l₃ r₃
      → Stored r₃ (decimal h) l₃ l₄ r₄ → Stored r₄ (10 ∷ 50 ∷ 53 ∷ 53 ∷ 10 ∷ []) l₄ l₅ r₅ → Stored 0 (header_text w h) l l₅ r₅
  unfolding header_text
  header-stored a b c d e = stored-append a (stored-append b (stored-append c (stored-append d e)))

-- ---- the checks and answers of the writer
module _ (w h : ℕ) (s : List ℕ) (room : ℕ) where
  pub write-off : (n : ℕ) → n ≡ check_picture w h (length s) 0 → (n ≡ 0 → ⊥) → n ≡ check_write w h s room
  unfolding check_write
  write-off n e off = e ∙ check-off w h (length s) (or_refuse (leb (length (file_text w h s)) room) 3 0) (λ z. off (e ∙ z))

  pub write-few : check_picture w h (length s) 0 ≡ 0 → room < length (file_text w h s) → 3 ≡ check_write w h s room
  unfolding check_write
  write-few on l =
      sym (rw (check-on w h (length s) (or_refuse (leb (length (file_text w h s)) room) 3 0) on, lt-leb (length (file_text w h s)) room l))

  pub write-on : check_picture w h (length s) 0 ≡ 0 → length (file_text w h s) ≤ room → 0 ≡ check_write w h s room
  unfolding check_write
  write-on on l =
      sym (rw (check-on w h (length s) (or_refuse (leb (length (file_text w h s)) room) 3 0) on, le-leb (length (file_text w h s)) room l))

-- what the checks tell where they pass
pub write-room : (w h : ℕ) (s : List ℕ) (room n : ℕ) → n ≡ check_write w h s room → n ≡ 0 → length (file_text w h s) ≤ room
unfolding check_write
write-room w h s room n e on =
    let a = check-step (is_side w) 1 _ (lit< tt) (sym e ∙ on) in
    let b = check-step (is_side h) 1 _ (lit< tt) a.1 in
    let c = check-step (eqb (length s) (w * h)) 2 _ (lit< tt) b.1 in
    let d = check-step (leb (length (file_text w h s)) room) 3 0 (lit< tt) c.1 in
    leb-true (length (file_text w h s)) room d.0

-- the answer and the lent list, for the number n that the checks gave
pub written : (n m : ℕ) (text old new : List ℕ) (r : ℕ) → n ≡ m → n ≡ 0 → length text ≤ length old → Stored 0 text old new r
    → (give r ≡ answered m (length text)) × (new ≡ file_after m text old)
unfolding answered file_after
written n m text old new r e on fit v =
    subst (λ (k : ℕ). (give r ≡ answered k (length text)) × (new ≡ file_after k text old)) (sym on ∙ e)
    (unfold answered file_after in (ap give (v.next ∙ zero-add (length text)), stored-laid v fit))

pub unwritten : (n m : ℕ) (text old : List ℕ) → n ≡ m → (n ≡ 0 → ⊥)
    → (refuse n ≡ answered m (length text)) × (old ≡ file_after m text old)
unwritten n m text old e off =
    subst (λ (k : ℕ). (refuse n ≡ answered k (length text)) × (old ≡ file_after k text old)) e (go n off)
  where
    go : (n : ℕ) → (n ≡ 0 → ⊥) → (refuse n ≡ answered n (length text)) × (old ≡ file_after n text old)
    go zero off = absurd (off refl)
    go (suc n) off = unfold answered file_after in (refl, refl)
