-- `noise::rows_with` meets its contract: each return by the checks before it. Assumes nothing.
use native.Mathlib.Omega.{arith}
use borrow.Author.Tests.{le-leb, lt-leb, lt-ltb, le-ltb}
use Rattle.noise.proofs.rows_with.Goals as goal

pub returns-then-run-lt2 : goal.returns-then-run-lt2
returns-then-run-lt2 c = simp (lt-leb 2 c.args.run c.if-run-lt2.true)

pub returns-then-run-gt8 : goal.returns-then-run-gt8
returns-then-run-gt8 c =
    let a = c.args in
    simp (le-leb 2 a.run (omega arith), lt-leb a.run 8 c.if-run-gt8.true)

pub returns-then-length-gt60 : goal.returns-then-length-gt60
returns-then-length-gt60 c =
    let a = c.args in
    simp (le-leb 2 a.run (omega arith), le-leb a.run 8 (omega arith), lt-leb a.length 60 c.if-length-gt60.true)

pub returns-then-length-first : goal.returns-then-length-first
returns-then-length-first c =
    let a = c.args in
    simp (
      le-leb 2 a.run (omega arith),
      le-leb a.run 8 (omega arith),
      le-leb a.length 60 (omega arith),
      le-ltb a.first a.length (omega arith),
    )

pub returns-then-length-last : goal.returns-then-length-last
returns-then-length-last c =
    let a = c.args in
    simp (
      le-leb 2 a.run (omega arith),
      le-leb a.run 8 (omega arith),
      le-leb a.length 60 (omega arith),
      lt-ltb a.first a.length (omega arith),
      le-ltb a.last a.length (omega arith),
    )

pub returns : goal.returns
returns c =
    let a = c.args in
    simp (
      le-leb 2 a.run (omega arith),
      le-leb a.run 8 (omega arith),
      le-leb a.length 60 (omega arith),
      lt-ltb a.first a.length (omega arith),
      lt-ltb a.last a.length (omega arith),
      c.between.ensures,
    )
