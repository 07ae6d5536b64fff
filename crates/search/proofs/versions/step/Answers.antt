-- `search::versions::step` meets its contract. Assumes nothing.
use Rattle.std.proofs.Common.{sym, ◌∙◌, subst, arith}
use Rattle.search.proofs.Searches.{ended_held, scored-held, step-ended, step_past, step_small, step-tried}
use Rattle.search.specs.Versions.{ScoreRoom}
use Rattle.search.proofs.versions.step.Goals as goal

pub returns-then-s : goal.returns-then-s
returns-then-s c =
    let a = c.args in
    record {
      answer = step-ended a.gray.now a.w a.h a.g a.s c.if-s.true;
      held = c.requires.score_room;
    }

pub returns-then-g-s : goal.returns-then-g-s
returns-then-g-s c =
    let a = c.args in
    record {
      answer = c.ended.ensures ∙ step_past a.gray.now a.w a.h a.g a.s c.if-s.false
          c.if-g-s.true;
      held = subst ScoreRoom (sym c.ended.ensures) (ended_held
          c.requires.score_room);
    }

pub returns-then-too_small : goal.returns-then-too_small
returns-then-too_small c =
    let a = c.args in
    record {
      answer = c.ended-then-too_small.ensures ∙ step_small a.gray.now a.w a.h a.g a.s
          c.if-s.false c.if-g-s.false _
          c.too_small.ensures c.if-too_small.true;
      held = subst ScoreRoom (sym c.ended-then-too_small.ensures) (ended_held
          c.requires.score_room);
    }

pub returns : goal.returns
returns c =
    let a = c.args in
    let l = c.if-g-s.false in
    let m = c.requires.most_bound in
    record {
      answer = c.tried.ensures ∙ step-tried a.gray.now a.w a.h a.g a.s
          c.if-s.false c.if-g-s.false _
          c.too_small.ensures c.if-too_small.false;
      held = subst ScoreRoom (sym c.tried.ensures) (scored-held a.gray.now
          a.w a.h _ (omega arith) c.requires.score_room);
    }
