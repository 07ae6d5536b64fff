-- `noise::rows_without` meets its contract: each return by the checks before it. Assumes nothing.
use mathlib.Core.Path.{◌∙◌}
use native.Mathlib.Omega.{arith}
use borrow.Author.Tests.{le-leb, lt-leb}
use Rattle.noise.proofs.Filling.{bare-is}
use Rattle.noise.proofs.rows_without.Goals as goal

pub returns-then-run-lt2 : goal.returns-then-run-lt2
returns-then-run-lt2 c = simp (lt-leb 2 c.args.run c.if-run-lt2.true)

pub returns-then-run-gt8 : goal.returns-then-run-gt8
returns-then-run-gt8 c =
    let a = c.args in
    simp (le-leb 2 a.run (omega arith), lt-leb a.run 8 c.if-run-gt8.true)

pub returns-then-length-gt60 : goal.returns-then-length-gt60
returns-then-length-gt60 c =
    let a = c.args in
    simp (le-leb 2 a.run (omega arith), le-leb a.run 8 (omega arith), lt-leb a.length 60 c.if-length-gt60.true)

pub returns : goal.returns
returns c =
    let a = c.args in
    simp (
      le-leb 2 a.run (omega arith),
      le-leb a.run 8 (omega arith),
      le-leb a.length 60 (omega arith),
      c.clear_rows.ensures ∙ bare-is a.run a.length (omega arith),
    )
