-- Which cells lie near a cell, for how far a step of the level grid reaches. Definitions only. Assumes nothing.
use Rattle.std.specs.Prelude.{ℕ, ◌+◌, ◌≤◌}

-- Cell (i, j) is at most r columns and at most r rows away from cell (x, y).
pub record WithinCells (r x y i j : ℕ) : Type 0 where
  pub right : i ≤ x + r
  pub left : x ≤ i + r
  pub below : j ≤ y + r
  pub above : y ≤ j + r
