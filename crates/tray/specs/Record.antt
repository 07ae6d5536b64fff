-- The record, by rules 43 and 44: four-byte length of the rest, two-byte kind, two-byte width and height, pixels;
-- lowest byte first. Definitions only. Assumes nothing.
use Rattle.std.specs.Prelude.{Bool, ◌&&◌, cond, List, ℕ, ◌+◌, ◌*◌, leb, eqb, length, get_or}
use Rattle.laws.specs.Check.{or_refuse}

-- The numbers of two and of four bytes from place i on.
abbrev pub pair_at : List ℕ → ℕ → ℕ
pair_at s i = get_or s i 0 + 256 * get_or s (i + 1) 0

abbrev pub four_at : List ℕ → ℕ → ℕ
four_at s i = pair_at s i + 65536 * pair_at s (i + 2)

abbrev pub width_of : List ℕ → ℕ
width_of s = pair_at s 6

abbrev pub height_of : List ℕ → ℕ
height_of s = pair_at s 8

-- A side of the picture of a record lies in 1..160.
abbrev pub is_tray_side : ℕ → Bool
is_tray_side n = leb 1 n && leb n 160

-- 13: record short, length not 6 + width × height, kind not 1, a side outside 1..160. 0: no refusal.
abbrev pub check_record : List ℕ → ℕ
check_record s =
    or_refuse (leb 10 (length s)) 13
    (or_refuse (eqb (pair_at s 4) 1) 13
    (or_refuse (is_tray_side (width_of s)) 13
    (or_refuse (is_tray_side (height_of s)) 13
    (or_refuse (eqb (four_at s 0) (6 + width_of s * height_of s)) 13
    (or_refuse (leb (10 + width_of s * height_of s) (length s)) 13
    0)))))

-- The ten bytes of a head pass all checks but that the pixels are there.
abbrev pub is_head : List ℕ → Bool
is_head s =
    leb 10 (length s)
    && (eqb (pair_at s 4) 1 && (is_tray_side (width_of s) && (is_tray_side (height_of s) && eqb (four_at s 0) (6 + width_of s * height_of s))))

-- How many bytes of pixels a head asks for; one that is refused asks for none.
abbrev pub asked : List ℕ → ℕ
asked head = cond (is_head head) (width_of head * height_of head) 0
