-- `noise::claims::fifteen`: the claim holds, by counting the 16 rows. Assumes nothing.
use mathlib.Core.Path.{refl}
use Rattle.laws.specs.Fold.{first}
use Rattle.boundary.specs.Runs.{some, every, run_at, in_run, run_start}
use Rattle.noise.specs.Rows.{rows_counted, is_bare, rows_without}
use Rattle.noise.specs.Claims.{Fifteen}
use Rattle.noise.proofs.claims.fifteen.Goals as goal

pub returns : goal.returns
unfolding Fifteen rows_without rows_counted is_bare run_start first in_run run_at some every
returns c = refl
