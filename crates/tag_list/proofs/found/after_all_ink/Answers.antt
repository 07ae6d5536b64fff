-- `tag_list::found::after_all_ink` meets its contract: one try more where there is more than one region. Assumes nothing.
use mathlib.Core.Path.{ap, ◌∙◌}
use native.Mathlib.Omega.{arith}
use Rattle.laws.specs.Plane.{plane}
use Rattle.finder.specs.Find.{try_of, best_trace}
use Rattle.finder.proofs.Regions.{tries-two, tries-one, tries-is, worked-none}
use Rattle.tag_list.proofs.found.after_all_ink.Goals as goal

pub returns-then-k-gt1 : goal.returns-then-k-gt1
returns-then-k-gt1 c =
    let a = c.args in
    let p = c.requires in
    let t = c.try_next.ensures in
    record {
      answer = t.answer ∙ ap (best_trace (try_of a.gray.now a.w a.h a.most))
          (tries-is (plane a.w a.gray.now) a.w a.h a.k p.k_value _ (tries-two a.k c.if-k-gt1.true));
      points = t.points;
    }

pub returns : goal.returns
returns c =
    let a = c.args in
    let p = c.requires in
    record {
      answer = p.best_value ∙ ap (best_trace (try_of a.gray.now a.w a.h a.most))
          (tries-is (plane a.w a.gray.now) a.w a.h a.k p.k_value _ (tries-one a.k (omega (arith, c.if-k-gt1.false))));
      points = worked-none _ _ _ _ _;
    }
