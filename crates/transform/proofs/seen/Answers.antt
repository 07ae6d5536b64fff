-- `transform::seen` meets its contract, step by step as `applied` has it. Assumes nothing.
use Rattle.transform.proofs.Parts.{applied-is}
use Rattle.transform.proofs.seen.Goals as goal

pub returns : goal.returns
returns c =
    applied-is _ _ _ _ _ _ _ c.flat-p.ensures c.lens-q.ensures
    c.narrowed2-r.ensures.0 c.narrowed2-r.ensures.1
