-- Statements about the counts of rows. Statements only. Assumes nothing.
use Rattle.std.specs.Prelude.{◌≡◌, ◌↔◌, Bool, true, List, [], ◌∷◌, ℕ, ◌+◌, ◌*◌, ◌^◌, ◌≤◌, ◌<◌, length}
use Rattle.laws.specs.Fold.{sum_to}
use Rattle.boundary.specs.Runs.{edges}
use Rattle.noise.specs.Rows.{rows_counted, row_ink_at, is_bare, is_between, rows_without, rows_with}
use Rattle.noise.specs.Door.{is_shortest, without_answer, with_answer, counted_rows}
use Rattle.laws.specs.Said.{give}

-- `count_rows` counts every row of n pixels, and each once: a test that one of these rows passes and no other has the count 1.
unfoldable pub RowsOnce : Type 0
RowsOnce = (n : ℕ) (test : List Bool → Bool) (row : List Bool) → length row ≡ n → test row ≡ true
    → ((other : List Bool) → length other ≡ n → test other ≡ true → other ≡ row) → rows_counted n test ≡ 1

-- "Over all answers they add up to 2 to the power L": the rows without a point and, over all pairs of places, those with an outline there.
-- `counts` says so of the counts, for every shortest run and every number of pixels; `answers` of what the entries answer.
pub record AddUp : Type 0 where
  pub counts : (k n : ℕ) → rows_without k n + sum_to n (λ f. sum_to n (λ l. rows_with k n f l)) ≡ 2 ^ n
  pub answers : (k n : ℕ) → is_shortest k ≡ true → n ≤ 60
      → counted_rows (without_answer k n) + sum_to n (λ f. sum_to n (λ l. counted_rows (with_answer k n f l))) ≡ 2 ^ n

-- "With run 4 and L = 4 there are 15 rows without a point."
unfoldable pub Fifteen : Type 0
Fifteen = without_answer 4 4 ≡ give 15

-- The tests that rows are counted by are about the points that a row gives the outline (crate boundary, `edges`): there are none, or they
-- are the start of pixel f and the end of pixel l, doubled.
pub record PointsOf (k n : ℕ) (row : List Bool) : Type 0 where
  pub bare : (is_bare k n row ≡ true) ↔ (edges k n (row_ink_at row) 0 ≡ [])
  pub between : (f l : ℕ) → f < n
      → (is_between k n f l row ≡ true) ↔ (edges k n (row_ink_at row) 0 ≡ 2 * f ∷ 2 * (l + 1) ∷ [])

unfoldable pub RowPoints : Type 0
RowPoints = (k n : ℕ) (row : List Bool) → PointsOf k n row
