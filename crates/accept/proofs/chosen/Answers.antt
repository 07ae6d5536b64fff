-- `accept::chosen` meets its contract: the score passes, or it does not. Assumes nothing.
use Rattle.accept.proofs.BestScores.{choose_yes, choose_no}
use Rattle.accept.proofs.chosen.Goals as goal

pub returns-then-passes : goal.returns-then-passes
returns-then-passes c =
    let a = c.args in
    choose_yes a.q a.s a.best a.l a.relaxed _ c.runner_up.ensures _
    c.passes.ensures _ c.if-passes.true c.fix_of.ensures

pub returns : goal.returns
returns c =
    let a = c.args in
    choose_no a.q a.s a.best a.l a.relaxed _ c.runner_up.ensures _
    c.passes.ensures c.if-passes.false
