-- Closed cases whose answers come from outside, from all rows counted by a script: the definitions, computed. Assumes nothing.
use mathlib.Core.Path.{◌≡◌, refl}
use mathlib.Core.Bool.{true}
use Rattle.laws.specs.Fold.{first, end_of}
use Rattle.boundary.specs.Runs.{some, every, run_at, in_run, run_start, run_end}
use Rattle.noise.specs.Rows.{rows_counted, is_bare, is_between, rows_without, rows_with}

-- every row once
all_three : rows_counted 3 (λ row. true) ≡ 8
unfolding rows_counted
all_three = refl

-- no pixels: one row, and it has no point
bare-nothing : rows_without 4 0 ≡ 1
unfolding rows_without rows_counted is_bare run_start first in_run run_at some every
bare-nothing = refl

bare-five : rows_without 2 5 ≡ 13
unfolding rows_without rows_counted is_bare run_start first in_run run_at some every
bare-five = refl

-- from end to end: two pixels between the runs are free
between-whole : rows_with 2 6 0 5 ≡ 4
unfolding rows_with rows_counted is_between run_start run_end first end_of in_run run_at some every
between-whole = refl

-- a run of 3 with two pixels before it, of which the second is not ink, and one after it
between-inner : rows_with 2 6 2 4 ≡ 2
unfolding rows_with rows_counted is_between run_start run_end first end_of in_run run_at some every
between-inner = refl

-- too close, and in the other order
between-close : rows_with 3 6 2 3 ≡ 0
unfolding rows_with rows_counted is_between run_start run_end first end_of in_run run_at some every
between-close = refl

between-turned : rows_with 2 6 4 1 ≡ 0
unfolding rows_with rows_counted is_between run_start run_end first end_of in_run run_at some every
between-turned = refl
