-- The checks of the reading against those of the file.
--   header-gate, head-gate           the checks of a header and of a reading, as gates
--   maximum-kept, upto-kept, side-kept     numbers above 9,999 are refused as 9,999 is
--   head-same                        the checks of the reading are those of the file
--   header-step, Fits, fits          what they tell where they pass
--   no-letters                       a file that does not begin with the letters
--   outcome, pixels-found            what the steps over all bytes lead to, and the pixels behind it
--   read-refused, read_fits, read-accepted     the answers
-- Assumes nothing.
use mathlib.Core.Path.{◌≡◌, refl, sym, ap, ap₂, ◌∙◌, subst}
use mathlib.Core.Logic.{◌⊎◌, inl, inr}
use mathlib.Core.Bool.{Bool, true, false, ◌&&◌}
use mathlib.Core.List.{List}
use Prim.Native.Nat.{ℕ, ◌≤◌, ◌<◌, min}
use native.Mathlib.Omega.{arith}
use lib.Dec.{eqb, leb, lit<}
use lib.ListN.{length, drop}
use borrow.Author.Tests.{leb-true, le-leb, lt-leb, ne_eqb}
use Rattle.laws.proofs.Bools.{le-or-lt, and_right, clash}
use Rattle.picture_checks.specs.Picture.{is_side}
use Rattle.picture_checks.proofs.Checked.{Gate, gate-open, gate-check, check-step, side-in}
use Rattle.pgm.specs.Form.{has_letters, has_form, file_width, file_height, file_maximum, file_start}
use Rattle.pgm.specs.Doors.{check_header, check_pixels, check_file, found, file_answer}
use Rattle.pgm.specs.Steps.{begun, is_whole, steps_over}
use Rattle.pgm.specs.Head.{check_head, Passed, pixels_answer}
use Rattle.laws.specs.Said.{refuse}
use Rattle.pgm.specs.declared.steps.Reading.{Reading}
use Rattle.pgm.specs.declared.steps.Stage.TheVariants.{Whole}
use Rattle.pgm.proofs.Beside.{kept, Outcome, whole, refused, steps-header}
use Rattle.pgm.proofs.Gates.{found-off, found-on}

pub header-gate : (s : List ℕ) {f : ℕ → ℕ} → Gate f → Gate (λ rest. check_header s (f rest))
unfolding check_header
header-gate s g =
    gate-check (has_form s && leb (file_start s) 4096) 14 (lit< tt)
    (gate-check (eqb (file_maximum s) 255) 15 (lit< tt)
    (gate-check (is_side (file_width s)) 1 (lit< tt)
    (gate-check (is_side (file_height s)) 1 (lit< tt) g)))

pub head-gate : (h : Reading) → Gate (check_head h)
unfolding check_head
head-gate h =
    gate-check (is_whole h.stage) 14 (lit< tt)
    (gate-check (eqb h.maximum 255) 15 (lit< tt)
    (gate-check (is_side h.width) 1 (lit< tt)
    (gate-check (is_side h.height) 1 (lit< tt) gate-open)))

-- ---- numbers above 9,999
below : (n : ℕ) → n ≤ 9999 → min n 9999 ≡ n
below n l = omega arith

above : (n : ℕ) → 9999 < n → min n 9999 ≡ 9999
above n l = omega arith

maximum-kept : (n : ℕ) → eqb (min n 9999) 255 ≡ eqb n 255
maximum-kept n = go (le-or-lt n 9999)
  where
    go : (n ≤ 9999) ⊎ (9999 < n) → eqb (min n 9999) 255 ≡ eqb n 255
    go (inl l) = rw (below n l)
    go (inr l) = let z : n ≡ 255 → ⊥ = λ e. omega arith in rw (above n l, ne_eqb n 255 z)

pub upto-kept : (k n : ℕ) → k < 9999 → leb (min n 9999) k ≡ leb n k
upto-kept k n b = go (le-or-lt n 9999)
  where
    go : (n ≤ 9999) ⊎ (9999 < n) → leb (min n 9999) k ≡ leb n k
    go (inl l) = rw (below n l)
    go (inr l) = rw (above n l, lt-leb 9999 k b, lt-leb n k (omega arith))

from-kept : (n : ℕ) → leb 1 (min n 9999) ≡ leb 1 n
from-kept n = go (le-or-lt n 9999)
  where
    go : (n ≤ 9999) ⊎ (9999 < n) → leb 1 (min n 9999) ≡ leb 1 n
    go (inl l) = rw (below n l)
    go (inr l) = rw (above n l, le-leb 1 n (omega arith))

side-kept : (n : ℕ) → is_side (min n 9999) ≡ is_side n
side-kept n = ap₂ (λ (a b : Bool). a && b) (from-kept n) (upto-kept 4096 n (lit< tt))

-- ---- the checks of the reading
module _ (s : List ℕ) (r : Reading) where
  pub head-same : Outcome s r → (rest rest' : ℕ)
      → (r ≡ kept Whole false (file_width s) (file_height s) (file_maximum s) (file_start s) → rest ≡ rest')
      → check_head r rest ≡ check_header s rest'
  unfolding check_head check_header
  head-same (whole q e) rest rest' same =
      ap (λ (r : Reading). check_head r rest) e
      ∙ unfold check_head is_whole in
      rw (q, maximum-kept (file_maximum s), side-kept (file_width s), side-kept (file_height s), same e)
  head-same (refused q f) rest rest' same = rw (f, q)

-- what they tell where they pass
pub record Fits (s : List ℕ) (r : Reading) : Type 0 where
  pub width : r.width ≡ file_width s
  pub height : r.height ≡ file_height s
  pub at : r.at ≡ file_start s
  pub passed : Passed r

pub header-step : (s : List ℕ) (rest : ℕ) → check_header s rest ≡ 0
    → ((has_form s && leb (file_start s) 4096) ≡ true) × (is_side (file_width s) ≡ true) × (is_side (file_height s) ≡ true) × (rest ≡ 0)
unfolding check_header
header-step s rest e =
    let a = check-step (has_form s && leb (file_start s) 4096) 14 _ (lit< tt) e in
    let b = check-step (eqb (file_maximum s) 255) 15 _ (lit< tt) a.1 in
    let c = check-step (is_side (file_width s)) 1 _ (lit< tt) b.1 in
    let d = check-step (is_side (file_height s)) 1 rest (lit< tt) c.1 in
    (a.0, c.0, d.0, d.1)

pub fits : (s : List ℕ) (r : Reading) → Outcome s r → (rest : ℕ) → check_header s rest ≡ 0 → Fits s r
fits s r (whole q e) rest ok =
    let t = header-step s rest ok in
    let w = side-in (file_width s) t.1 in
    let h = side-in (file_height s) t.2 in
    let ew : r.width ≡ file_width s = ap (λ (r : Reading). r.width) e ∙ below (file_width s) (omega arith) in
    let eh : r.height ≡ file_height s = ap (λ (r : Reading). r.height) e ∙ below (file_height s) (omega arith) in
    let ea : r.at ≡ file_start s = ap (λ (r : Reading). r.at) e in
    let near = leb-true (file_start s) 4096 (and_right (has_form s) (leb (file_start s) 4096) q) in
    record {
      width = ew;
      height = eh;
      at = ea;
      passed = record { wide = omega arith; high = omega arith; near = omega arith };
    }
fits s r (refused q f) rest ok = absurd (clash (header-step s rest ok).0 q)

-- ---- the answers
pub no-letters : (s : List ℕ) → has_letters s ≡ false → refuse 14 ≡ file_answer s
unfolding file_answer check_file check_header has_form found
no-letters s e = rw e

module _ (s : List ℕ) (r : Reading) (letters : has_letters s ≡ true) (run : r ≡ steps_over begun (drop 2 s)) where
  pub outcome : Outcome s r
  outcome = subst (λ (r : Reading). Outcome s r) (sym run) (steps-header s letters)

  pub read-refused : (n : ℕ) → n ≡ check_head r 0 → (n ≡ 0 → ⊥) → refuse n ≡ file_answer s
  unfolding file_answer check_file
  read-refused n e off =
      found-off (header-gate s gate-open) (check_pixels s) (file_width s) (file_height s) (file_start s) n
      (e ∙ head-same s r outcome 0 0 (λ _. refl)) off

  pub read_fits : (n : ℕ) → n ≡ check_head r 0 → n ≡ 0 → Fits s r
  read_fits n e on = fits s r outcome 0 (sym (e ∙ head-same s r outcome 0 0 (λ _. refl)) ∙ on)

  pub pixels-found : Fits s r → pixels_answer r (length s) ≡ found (check_pixels s) (file_width s) (file_height s) (file_start s)
  unfolding pixels_answer check_pixels
  pixels-found f = rw (f.width, f.height, f.at)

  pub read-accepted : (n : ℕ) → n ≡ check_head r 0 → n ≡ 0 → pixels_answer r (length s) ≡ file_answer s
  unfolding file_answer check_file
  read-accepted n e on =
      pixels-found (read_fits n e on)
      ∙ found-on (header-gate s gate-open) (check_pixels s) (file_width s) (file_height s) (file_start s) n
      (e ∙ head-same s r outcome 0 0 (λ _. refl)) on
