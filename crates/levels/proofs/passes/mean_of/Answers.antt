-- A mean of bytes is a byte, and 0 / 0 is 0. Assumes nothing.
use mathlib.Core.Path.{sym}
use native.Mathlib.Omega.{arith}
use Rattle.levels.proofs.Fill.{mean-none}
use Rattle.levels.specs.Level.{mean}
use Rattle.levels.proofs.passes.mean_of.Goals as goal

pub returns-then-n-eq0 : goal.returns-then-n-eq0
returns-then-n-eq0 c =
    let a = c.args in
    sym (mean-none a.a a.b a.c a.d (omega arith) (omega arith) (omega arith) (omega arith) (omega arith))

pub returns : goal.returns
unfolding mean
returns c = rw (c.one_if.ensures, c.one_if-2.ensures, c.one_if-3.ensures, c.one_if-4.ensures)
