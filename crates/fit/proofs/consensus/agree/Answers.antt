-- `fit::consensus::agree` meets its contract. The invariant: the count is at most the points passed, and those of what is left, added to
-- it, are those of all. Assumes nothing.
use native.Mathlib.Omega.{arith}
use borrow.Author.Rules.{rules}
use Rattle.fit.proofs.Trials.{agree-begin, agree-step, agree-end}
use Rattle.fit.proofs.consensus.agree.Goals as goal

pub loop-k-init : goal.loop-k-init
loop-k-init c = (search rules, search rules, agree-begin _ _ _ _ _ _ _)

pub loop-k-preserved : goal.loop-k-preserved
loop-k-preserved c = (
  omega arith,
  omega arith,
  agree-step _ _ _ _ _ _ _ _ _ _ _ c.loop-k-test.true c.on_line-on.ensures
      c.one_if-m.ensures.0 c.loop-k.invariant.2,
)

pub returns : goal.returns
returns c = (agree-end _ _ _ _ _ _ _ _ _ c.loop-k-test.false c.loop-k.invariant.2, omega arith)
