-- What the tray list takes, as change request W1 has it: a PGM file where the input begins with the letters P5, else a record; and how
-- much of it the program reads. A file is taken with sides up to a greatest one, which for the tray list is 160. Definitions only. Assumes
-- nothing.
use Rattle.std.specs.Prelude.{cond, List, ℕ, ◌+◌, ◌*◌, ◌≤◌, leb, eqb, length, take, drop}
use Rattle.laws.specs.Check.{or_refuse}
use Rattle.laws.specs.Said.{Said}
use Rattle.pgm.specs.Form.{has_letters, file_width, file_height, file_start}
use Rattle.pgm.specs.Doors.{check_header, check_pixels, found}
use Rattle.pgm.specs.Steps.{begun, steps_over}
use Rattle.pgm.specs.Head.{check_head}
use Rattle.pgm.specs.declared.Image.{Image}
use Rattle.pgm.specs.declared.steps.Reading.{Reading}
use Rattle.tray.specs.Record.{width_of, height_of, check_record, asked}

-- ---- a file with sides up to `most`
-- 13: a side over `most`. What follows is `rest`.
abbrev pub sides_up_to : ℕ → ℕ → ℕ → ℕ → ℕ
sides_up_to most w h rest =
    or_refuse (leb w most) 13
    (or_refuse (leb h most) 13
    rest)

-- The checks of a file: 14, 15 and 1, then 13, then 2.
unfoldable pub check_file_to : ℕ → List ℕ → ℕ
check_file_to most s = check_header s (sides_up_to most (file_width s) (file_height s) (check_pixels s))

-- The answer for the number of a refusal, or the sides and the place of the pixels.
unfoldable pub file_to : ℕ → List ℕ → Said Image
file_to most s = found (check_file_to most s) (file_width s) (file_height s) (file_start s)

-- The tray list's.
abbrev pub check_sides : ℕ → ℕ → ℕ → ℕ
check_sides = sides_up_to 160

abbrev pub check_tray_file : List ℕ → ℕ
check_tray_file = check_file_to 160

-- ---- the input, of either kind
unfoldable pub check_input : List ℕ → ℕ
check_input s = cond (has_letters s) (check_tray_file s) (check_record s)

unfoldable pub input_width : List ℕ → ℕ
input_width s = cond (has_letters s) (file_width s) (width_of s)

unfoldable pub input_height : List ℕ → ℕ
input_height s = cond (has_letters s) (file_height s) (height_of s)

-- The place of the pixels.
unfoldable pub input_start : List ℕ → ℕ
input_start s = cond (has_letters s) (file_start s) 10

unfoldable pub input_pixels : List ℕ → List ℕ
input_pixels s = take (input_width s * input_height s) (drop (input_start s) s)

-- The answer for the number of a refusal, or the sides and the place of the pixels.
unfoldable pub input_answer : List ℕ → Said Image
input_answer s = found (check_input s) (input_width s) (input_height s) (input_start s)

-- ---- how much is read
-- The header of a file, read byte by byte until it has ended.
abbrev pub head_read : List ℕ → Reading
head_read s = steps_over begun (drop 2 s)

-- How many bytes of pixels a header asks for; one that is refused asks for none.
unfoldable pub asked_to : ℕ → Reading → ℕ
asked_to most h = cond (eqb (check_head h (sides_up_to most h.width h.height 0)) 0) (h.width * h.height) 0

abbrev pub asked_by : Reading → ℕ
asked_by = asked_to 160

-- How many bytes of an input the tray list reads at most: a file's header, then its pixels; the ten bytes of a record's head, then its
-- pixels.
unfoldable pub reads : List ℕ → ℕ
reads s = cond (has_letters s) ((head_read s).at + asked_by (head_read s)) (10 + asked (take 10 s))

-- What the answer of a picture tells: its sides w and h are up to `most`, and its pixels stand at a place of the list.
pub record FileAt (most : ℕ) (s : List ℕ) (w h at : ℕ) : Type 0 where
  pub some_wide : 1 ≤ w
  pub wide : w ≤ most
  pub some_high : 1 ≤ h
  pub high : h ≤ most
  pub near : at ≤ 4096
  pub within : at + w * h ≤ length s

-- What passed checks of a header's sides tell.
pub record SidesUpTo (most : ℕ) (h : Reading) : Type 0 where
  pub wide : h.width ≤ most
  pub high : h.height ≤ most
