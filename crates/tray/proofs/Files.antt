-- A PGM file with sides up to `most`: the checks of its header as it is read, against those of the file.
--   sides-wide, sides-high, sides-on     the sides, check by check
--   area-to                              the area of such sides
--   check-off, check-pass                behind the header's own checks
--   asked-none, asked-some               how many pixels a header asks for
--   sides-same                           the checks of the reading are those of the file
--   file-refused, file-fits, file-accepted     the answers
-- Assumes nothing.
use mathlib.Core.Path.{◌≡◌, sym, ap, ◌∙◌}
use mathlib.Core.Bool.{true, false}
use mathlib.Core.List.{List}
use Prim.Native.Nat.{ℕ, ◌*◌, ◌≤◌, ◌<◌}
use native.Mathlib.Nat.{mul-le-mul}
use native.Mathlib.Omega.{arith}
use lib.Dec.{leb, lit<}
use lib.ListN.{length, drop}
use borrow.Author.Tests.{le-leb, lt-leb, eq-eqb, ne_eqb}
use Rattle.picture_checks.proofs.Checked.{Gate, gate-open, gate-check}
use Rattle.pgm.specs.Form.{has_letters, file_width, file_height, file_maximum, file_start}
use Rattle.pgm.specs.Doors.{check_header, check_pixels}
use Rattle.pgm.specs.Steps.{begun, steps_over}
use Rattle.pgm.specs.Head.{check_head, pixels_answer}
use Rattle.laws.specs.Said.{refuse}
use Rattle.pgm.specs.declared.steps.Reading.{Reading}
use Rattle.pgm.specs.declared.steps.Stage.TheVariants.{Whole}
use Rattle.pgm.proofs.Beside.{kept, Outcome}
use Rattle.pgm.proofs.Gates.{found-off, found-on}
use Rattle.pgm.proofs.Heads.{head-gate, header-gate, upto-kept, head-same, Fits, fits, outcome, pixels-found}
use Rattle.tray.specs.Input.{sides_up_to, check_file_to, file_to, asked_to}

-- ---- the sides
module _ (most w h : ℕ) where
  pub sides-wide : most < w → 13 ≡ sides_up_to most w h 0
  sides-wide l = rw (lt-leb w most l)

  pub sides-high : w ≤ most → most < h → 13 ≡ sides_up_to most w h 0
  sides-high b l = rw (le-leb w most b, lt-leb h most l)

  pub sides-on : w ≤ most → h ≤ most → 0 ≡ sides_up_to most w h 0
  sides-on b l = rw (le-leb w most b, le-leb h most l)

  pub sides-gate : Gate (sides_up_to most w h)
  sides-gate = gate-check (leb w most) 13 (lit< tt) (gate-check (leb h most) 13 (lit< tt) gate-open)

  pub area-to : w ≤ most → h ≤ most → w * h ≤ most * most
  area-to a b = mul-le-mul {n₁ = w} {m₁ = h} {n₂ = most} {m₂ = most} a b

-- ---- a header that has been read
module _ (most : ℕ) (h : Reading) where
  abbrev sides : ℕ
  sides = sides_up_to most h.width h.height 0

  pub check-off : (n : ℕ) → n ≡ check_head h 0 → (n ≡ 0 → ⊥) → n ≡ check_head h sides
  check-off n e off = e ∙ sym ((head-gate h).off (λ z. off (e ∙ z)) sides)

  pub check-pass : (n m : ℕ) → n ≡ check_head h 0 → n ≡ 0 → m ≡ sides → m ≡ check_head h sides
  check-pass n m e on f = f ∙ sym ((head-gate h).on (sym e ∙ on) sides)

  pub asked-none : (n : ℕ) → n ≡ check_head h sides → (n ≡ 0 → ⊥) → 0 ≡ asked_to most h
  unfolding asked_to
  asked-none n e off = rw (ne_eqb (check_head h sides) 0 (λ z. off (e ∙ z)))

  pub asked-some : (n : ℕ) → n ≡ check_head h sides → n ≡ 0 → h.width * h.height ≡ asked_to most h
  unfolding asked_to
  asked-some n e on = rw (eq-eqb (check_head h sides) 0 (sym e ∙ on))

-- ---- the file
pub sides-same : (most : ℕ) → most ≤ 4096 → (s : List ℕ) (r : Reading) → Outcome s r
    → check_head r (sides_up_to most r.width r.height 0) ≡ check_header s (sides_up_to most (file_width s) (file_height s) 0)
sides-same most few s r o = head-same s r o (sides_up_to most r.width r.height 0) (sides_up_to most (file_width s) (file_height s) 0) same
  where
    same : r ≡ kept Whole false (file_width s) (file_height s) (file_maximum s) (file_start s)
        → sides_up_to most r.width r.height 0 ≡ sides_up_to most (file_width s) (file_height s) 0
    same e =
        let below : most < 9999 = omega arith in
        ap (λ (r : Reading). sides_up_to most r.width r.height 0) e
        ∙ rw (upto-kept most (file_width s) below, upto-kept most (file_height s) below)

module _ (most : ℕ) (few : most ≤ 4096) (s : List ℕ) (r : Reading) (letters : has_letters s ≡ true)
    (run : r ≡ steps_over begun (drop 2 s)) where
  abbrev gate : Gate (λ rest. check_header s (sides_up_to most (file_width s) (file_height s) rest))
  gate = header-gate s (sides-gate most (file_width s) (file_height s))

  abbrev same : check_head r (sides_up_to most r.width r.height 0) ≡ check_header s (sides_up_to most (file_width s) (file_height s) 0)
  same = sides-same most few s r (outcome s r letters run)

  abbrev answer : ℕ → Type 0
  answer n = n ≡ check_head r (sides_up_to most r.width r.height 0)

  pub file-refused : (n : ℕ) → answer n → (n ≡ 0 → ⊥) → refuse n ≡ file_to most s
  unfolding file_to check_file_to
  file-refused n e off = found-off gate (check_pixels s) (file_width s) (file_height s) (file_start s) n (e ∙ same) off

  pub file-fits : (n : ℕ) → answer n → n ≡ 0 → Fits s r
  file-fits n e on = fits s r (outcome s r letters run) (sides_up_to most (file_width s) (file_height s) 0) (sym (e ∙ same) ∙ on)

  pub file-accepted : (n : ℕ) → answer n → n ≡ 0 → pixels_answer r (length s) ≡ file_to most s
  unfolding file_to check_file_to
  file-accepted n e on =
      pixels-found s r letters run (file-fits n e on)
      ∙ found-on gate (check_pixels s) (file_width s) (file_height s) (file_start s) n (e ∙ same) on
