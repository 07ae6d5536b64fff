-- What is read of a PGM file on standard input, and what the answer tells. Definitions only. Assumes nothing.
use Rattle.std.specs.Prelude.{cond, List, ◌≡◌, ℕ, ◌+◌, ◌≤◌, length, take}
use Rattle.pgm.specs.Form.{has_letters}
use Rattle.laws.specs.Said.{Said, give}
use Rattle.pgm.specs.Doors.{image}
use Rattle.pgm.specs.declared.Image.{Image}
use Rattle.tray.specs.Input.{head_read, asked_to, file_to, FileAt}

-- How many bytes of a file are read at most: the letters, the rest of the header, then the pixels of a header that passes.
unfoldable pub reads_to : ℕ → List ℕ → ℕ
reads_to most s = cond (has_letters s) ((head_read s).at + asked_to most (head_read s)) 2

-- Of a list s the first `count` bytes were read, no more than those of s ask for, and r is the answer for them.
pub record FileRead (most : ℕ) (s : List ℕ) (r : Said Image) : Type 0 where
  pub count : ℕ
  pub within : count ≤ length s
  pub few : count ≤ reads_to most s
  pub answer : r ≡ file_to most (take count s)

-- Where the answer r is a picture, its sides are up to `most` and its pixels stand in s.
abbrev pub FilePictured : ℕ → List ℕ → Said Image → Type 0
FilePictured most s r = (w h at : ℕ) → r ≡ give (image w h at) → FileAt most s w h at
