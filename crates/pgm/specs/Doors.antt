-- The reader and the writer of binary PGM files, as change request W1 has them: the refusals in their order, the answers, the pixels of a
-- file and the text of a written picture. Definitions only. Assumes nothing.
use Rattle.std.specs.Prelude.{◌&&◌, List, [], ◌∷◌, ◌++◌, ℕ, zero, suc, ◌+◌, ◌*◌, eqb, leb, length, take, drop}
use Rattle.laws.specs.Check.{or_refuse}
use Rattle.laws.specs.Said.{Said, refuse, give}
use Rattle.picture_checks.specs.Picture.{is_side, check_picture}
use Rattle.text.specs.Text.{decimal}
use Rattle.pgm.specs.Form.{has_form, file_width, file_height, file_maximum, file_start}
use Rattle.pgm.specs.declared.Image.{Image}

-- ---- the reader
-- 14: the header does not follow the form, or its last white-space byte is not among the first 4,096 bytes. 15: another maximum value
-- than 255. 1: a side outside 1..4,096. What follows these is `rest`.
unfoldable pub check_header : List ℕ → ℕ → ℕ
check_header s rest =
    or_refuse (has_form s && leb (file_start s) 4096) 14
    (or_refuse (eqb (file_maximum s) 255) 15
    (or_refuse (is_side (file_width s)) 1
    (or_refuse (is_side (file_height s)) 1
    rest)))

-- 2: too few pixel bytes. 0: no refusal.
unfoldable pub check_pixels : List ℕ → ℕ
check_pixels s = or_refuse (leb (file_start s + file_width s * file_height s) (length s)) 2 0

unfoldable pub check_file : List ℕ → ℕ
check_file s = check_header s (check_pixels s)

-- A picture by its sides and the place of its pixels.
abbrev pub image : ℕ → ℕ → ℕ → Image
image width height start = record { width = width; height = height; at = start }

-- The answer for the number of a refusal, or the sides and the place of the pixels.
unfoldable pub found : ℕ → ℕ → ℕ → ℕ → Said Image
found zero width height start = give (image width height start)
found (suc n) width height start = refuse (suc n)

unfoldable pub file_answer : List ℕ → Said Image
file_answer s = found (check_file s) (file_width s) (file_height s) (file_start s)

-- The pixels of a file that is accepted.
unfoldable pub file_pixels : List ℕ → List ℕ
file_pixels s = take (file_width s * file_height s) (drop (file_start s) s)

-- ---- the writer
-- P5, the sides and 255, a line feed after each.
unfoldable pub header_text : ℕ → ℕ → List ℕ
header_text w h = (80 ∷ 53 ∷ 10 ∷ []) ++ (decimal w ++ (10 ∷ (decimal h ++ (10 ∷ 50 ∷ 53 ∷ 53 ∷ 10 ∷ []))))

-- The file of a picture.
unfoldable pub file_text : ℕ → ℕ → List ℕ → List ℕ
file_text w h s = header_text w h ++ s

-- 1 and 2 as for every picture, then 3: fewer places in the lent list than bytes of the file. 0: no refusal.
unfoldable pub check_write : ℕ → ℕ → List ℕ → ℕ → ℕ
check_write w h s room = check_picture w h (length s) (or_refuse (leb (length (file_text w h s)) room) 3 0)

-- The lent list after the call: the file in its first places and the rest untouched, or as it was.
unfoldable pub file_after : ℕ → List ℕ → List ℕ → List ℕ
file_after zero text old = text ++ drop (length text) old
file_after (suc n) text old = old

-- A file that is accepted, read and written anew.
unfoldable pub rewritten : List ℕ → List ℕ
rewritten s = file_text (file_width s) (file_height s) (file_pixels s)
