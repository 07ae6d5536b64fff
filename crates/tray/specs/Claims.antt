-- Statements of theorems. Assumes nothing.
use Rattle.std.specs.Prelude.{false, List, ◌≡◌, ℕ, ◌+◌, ◌*◌, ◌≤◌}
use Rattle.pgm.specs.Form.{has_letters}
use Rattle.tray.specs.Record.{four_at, check_record}
use Rattle.tray.specs.Input.{check_input, input_width, input_height, input_start, reads}

-- No accepted record begins with the letters P5; nor does one of the same sides whose length has room for a byte behind the pixels.
pub record LettersApart : Type 0 where
  pub accepted : (s : List ℕ) → check_record s ≡ 0 → has_letters s ≡ false
  pub longer : (s : List ℕ) (w h : ℕ) → w ≤ 160 → h ≤ 160 → four_at s 0 ≡ 7 + w * h → has_letters s ≡ false

-- Of an accepted input the tray list reads what stands before the pixels, and the pixels: nothing past them.
unfoldable pub ReadsWhole : Type 0
ReadsWhole = (input : List ℕ) → check_input input ≡ 0 → reads input ≡ input_start input + input_width input * input_height input
