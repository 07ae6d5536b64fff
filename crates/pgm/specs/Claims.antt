-- Statements of theorems on PGM files, in the words of change request W1. Assumes nothing.
use Rattle.std.specs.Prelude.{◌≡◌, List, ◌++◌, ℕ, length}
use Rattle.laws.specs.Said.{give}
use Rattle.pgm.specs.Form.{file_width, file_height, file_start}
use Rattle.pgm.specs.Doors.{check_file, file_answer, image, file_pixels, file_text, check_write, file_after, rewritten}

-- The reader finds in a file a picture of w by h with the pixels s.
pub record Holds (file : List ℕ) (w h : ℕ) (s : List ℕ) : Type 0 where
  pub answer : file_answer file ≡ give (image w h (file_start file))
  pub pixels : file_pixels file ≡ s

-- A written picture reads back to the same sides and bytes: from the file alone, and from the lent list that the writer leaves, whatever
-- that held before.
pub record ReadsBack : Type 0 where
  pub file : (w h : ℕ) (s old : List ℕ) → check_write w h s (length old) ≡ 0 → Holds (file_text w h s) w h s
  pub lent : (w h : ℕ) (s old : List ℕ) → check_write w h s (length old) ≡ 0 → Holds (file_after 0 (file_text w h s) old) w h s

-- A file that is read is written anew: with room for it the writer accepts, the picture stays the same, and a file rewritten twice
-- equals the file rewritten once.
pub record RewrittenOnce (s : List ℕ) : Type 0 where
  pub accepted : check_write (file_width s) (file_height s) (file_pixels s) (length (rewritten s)) ≡ 0
  pub same : Holds (rewritten s) (file_width s) (file_height s) (file_pixels s)
  pub once : rewritten (rewritten s) ≡ rewritten s

unfoldable pub Rewritten : Type 0
Rewritten = (s : List ℕ) → check_file s ≡ 0 → RewrittenOnce s

-- Bytes after the pixels are not read: of an accepted file they change neither the answer nor the pixels.
pub record PixelsLast : Type 0 where
  pub answer : (s more : List ℕ) → check_file s ≡ 0 → file_answer (s ++ more) ≡ file_answer s
  pub pixels : (s more : List ℕ) → check_file s ≡ 0 → file_pixels (s ++ more) ≡ file_pixels s
