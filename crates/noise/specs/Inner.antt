-- The three parts of a row with an outline: what lies before its first run, from there to the end of its last run, and after it. Their
-- counts are what the code works with; no promise of an entry rests on them. Definitions only. Assumes nothing.
use Rattle.std.specs.Prelude.{◌≡◌, Bool, not, ◌&&◌, List, ℕ, ◌-◌, ◌≤◌, length, get_or}
use Rattle.boundary.specs.Runs.{run_at}
use Rattle.noise.specs.Rows.{row_ink_at, rows_counted, is_bare}

-- What can lie after the last run: n pixels without a run, the first of which, if there is one, is not ink.
unfoldable pub is_clear : ℕ → ℕ → List Bool → Bool
is_clear k n row = is_bare k n row && not (row_ink_at row 0)

-- What can lie from the start of the first run to the end of the last: m pixels, of which the first k and the last k are ink.
unfoldable pub is_middle : ℕ → ℕ → List Bool → Bool
is_middle k m row = run_at k m (row_ink_at row) 0 && run_at k m (row_ink_at row) (m - k)

-- How many rows can lie after the last run, or before the first.
unfoldable pub clear_rows : ℕ → ℕ → ℕ
clear_rows k n = rows_counted n (is_clear k n)

-- How many rows can lie between.
unfoldable pub middle_rows : ℕ → ℕ → ℕ
middle_rows k m = rows_counted m (is_middle k m)

-- A list of 62 numbers that holds the counts of clear rows of up to i pixels.
pub record Filled (k i : ℕ) (t : List ℕ) : Type 0 where
  pub size : length t ≡ 62
  pub at : (j : ℕ) → j ≤ i → get_or t j 0 ≡ clear_rows k j
