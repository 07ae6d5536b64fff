-- `pgm::steps::more` meets its contract. Assumes nothing.
use Rattle.pgm.proofs.Runs.{more-plain}
use Rattle.pgm.specs.declared.steps.Stage.{Stage}
use Rattle.pgm.specs.Steps.{one_more, in_comment, moved_to}
use borrow.Author.Tests.{eq-eqb}
use mathlib.Core.Bool.{Bool, not}
use mathlib.Core.Path.{◌∙◌, sym, ap}
use Rattle.pgm.proofs.steps.more.Goals as goal

pub returns-then-h : goal.returns-then-h
unfolding one_more
returns-then-h c =
    let h = c.args.h in
    rw c.if-h.true (c.counted.ensures ∙ ap (λ (x : Bool). in_comment h (not x)) c.is_line_end.ensures)

pub returns-then-b-eq35 : goal.returns-then-b-eq35
unfolding one_more
returns-then-b-eq35 c = rw (c.if-h.false, eq-eqb c.args.b 35 c.if-b-eq35.true) c.counted-then-b-eq35.ensures

pub returns : goal.returns
returns c =
    let a = c.args in
    c.moved.ensures
    ∙ ap (λ (k : Stage). moved_to a.h k a.b) c.next_stage.ensures
    ∙ sym (more-plain a.h a.b c.if-h.false c.if-b-eq35.false)
