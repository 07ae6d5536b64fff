-- How often noise makes an outline, as the request has it: of all rows of n pixels, how many have no outline point, and how many have an
-- outline whose first and last pixel are two given places. A row's outline is that of rules 16 and 17 (crate boundary,
-- Runs): from the start of the first to the end of the last run of k or more ink pixels, where k is the shortest run that counts.
-- Definitions only. Assumes nothing.
use Rattle.std.specs.Prelude.{Bool, true, false, ◌&&◌, List, [], ◌∷◌, ℕ, zero, suc, ◌+◌, eqb, get_or}
use Rattle.laws.specs.Fold.{bit}
use Rattle.boundary.specs.Runs.{run_start, run_end}

-- How many of all rows of n pixels pass a test, a pixel being ink or not: those that begin with an ink pixel, and those that do not.
unfoldable pub rows_counted : ℕ → (List Bool → Bool) → ℕ
rows_counted zero test = bit (test [])
rows_counted (suc n) test = rows_counted n (λ row. test (true ∷ row)) + rows_counted n (λ row. test (false ∷ row))

-- Whether pixel i of a row is ink.
abbrev pub row_ink_at : List Bool → ℕ → Bool
row_ink_at row i = get_or row i false

-- A row of n pixels is bare, it has no outline point: no run starts in it.
unfoldable pub is_bare : ℕ → ℕ → List Bool → Bool
is_bare k n row = eqb (run_start k n (row_ink_at row)) n

-- Its outline goes from pixel f to pixel l: its first run starts with the one, and its last run ends with the other.
unfoldable pub is_between : ℕ → ℕ → ℕ → ℕ → List Bool → Bool
is_between k n f l row = eqb (run_start k n (row_ink_at row)) f && eqb (run_end k n (row_ink_at row)) (l + 1)

-- How many rows of n pixels have no outline point.
unfoldable pub rows_without : ℕ → ℕ → ℕ
rows_without k n = rows_counted n (is_bare k n)

-- How many rows of n pixels have an outline whose first pixel is f and whose last is l.
unfoldable pub rows_with : ℕ → ℕ → ℕ → ℕ → ℕ
rows_with k n f l = rows_counted n (is_between k n f l)
