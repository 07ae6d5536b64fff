-- `search::versions::run` makes 65 steps, or fewer where the search has ended. Invariant: the steps left from here give the whole search,
-- and there is room for the next score. Assumes nothing.
use Rattle.std.proofs.Common.{◌-◌, ◌<◌, sym, ap, ◌∙◌, subst, arith}
use Rattle.search.proofs.Searches.{start-held, steps-step, steps-stay, steps-end}
use Rattle.search.specs.Versions.{ScoreRoom, steps_on}
use Rattle.search.proofs.versions.run.Goals as goal

pub loop-k-init : goal.loop-k-init
loop-k-init c =
    let a = c.args in
    (subst ScoreRoom (sym c.start-s.ensures) start-held, ap (steps_on a.gray.now a.w a.h a.g 65 0) c.start-s.ensures)

pub returns-then-s : goal.returns-then-s
returns-then-s c =
    let a = c.args in
    let at = c.loop-k in
    record {
      answer = steps-stay a.gray.now a.w a.h a.g (65 - at.k) at.k _ c.if-s.true ∙ at.invariant.1;
      held = at.invariant.0;
    }

pub step-s-requires : goal.step-s-requires
step-s-requires c =
    let p = c.requires in
    record {
      photo = p.photo;
      score_room = c.loop-k.invariant.0;
      most_bound = p.most_bound;
    }

pub loop-k-preserved : goal.loop-k-preserved
loop-k-preserved c =
    let a = c.args in
    let more : c.loop-k.k < 65 = omega arith in (
      c.step-s.ensures.held,
      steps-step a.gray.now a.w a.h a.g 65 _ _ _ _ more c.step-s.ensures.answer
          c.loop-k.invariant.1,
    )

pub returns : goal.returns
returns c =
    let a = c.args in
    record {
      answer = steps-end a.gray.now a.w a.h a.g 65 _ _ _ c.loop-k-test.false c.loop-k.invariant.1;
      held = c.loop-k.invariant.0;
    }
