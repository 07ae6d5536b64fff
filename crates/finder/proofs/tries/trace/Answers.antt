-- `finder::tries::trace` meets its contract. Assumes nothing.
use Rattle.finder.proofs.Standing.{trace-is}
use Rattle.finder.proofs.tries.trace.Goals as goal

pub returns : goal.returns
returns c =
    let a = c.args in
    let t = c.try_all-t.ensures in
    record {
      answer = trace-is a.gray.now a.w a.h a.most _ _ t.answer c.promoted.ensures;
      points = t.points;
    }
