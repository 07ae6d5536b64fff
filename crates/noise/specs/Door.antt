-- Answers of the two entries, with the request's refusals in its order: 17, a shortest run outside 2..8; 22, more than 60 pixels, or a
-- place that is not below their number. Definitions only. Assumes nothing.
use Rattle.std.specs.Prelude.{Bool, ◌&&◌, ℕ, leb, ltb}
use Rattle.laws.specs.Check.{or_refuse}
use Rattle.laws.specs.Said.{Said, refuse, none, give}
use Rattle.noise.specs.Rows.{rows_without, rows_with}

-- A shortest run is 2 to 8.
abbrev pub is_shortest : ℕ → Bool
is_shortest k = leb 2 k && leb k 8

-- 17: a shortest run outside 2..8. 22: more than 60 pixels. What follows these is `rest`.
abbrev pub check_row : ℕ → ℕ → Said ℕ → Said ℕ
check_row k n rest =
    or_refuse (is_shortest k) (refuse 17)
    (or_refuse (leb n 60) (refuse 22)
    rest)

-- How many rows of n pixels have no outline point.
abbrev pub without_answer : ℕ → ℕ → Said ℕ
without_answer k n = check_row k n (give (rows_without k n))

-- How many rows of n pixels have an outline whose first pixel is f and whose last is l. 22: a place that is not below n.
abbrev pub with_answer : ℕ → ℕ → ℕ → ℕ → Said ℕ
with_answer k n f l =
    check_row k n
    (or_refuse (ltb f n) (refuse 22)
    (or_refuse (ltb l n) (refuse 22)
    (give (rows_with k n f l))))

-- The rows that an answer counts; none where it refuses.
abbrev pub counted_rows : Said ℕ → ℕ
counted_rows (give rows) = rows
counted_rows none = 0
counted_rows (refuse number) = 0
