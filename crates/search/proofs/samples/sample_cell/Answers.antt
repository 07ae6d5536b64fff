-- `search::samples::sample_cell` meets its contract. Assumes nothing.
use Rattle.search.proofs.Sampled.{five-is}
use Rattle.search.proofs.samples.sample_cell.Goals as goal

pub returns : goal.returns
returns c =
    let a = c.args in
    five-is a.gray.now a.w a.h a.t a.cell a.s _ _ _ _ _ c.sample_point-a.ensures
    c.sample_point-b.ensures c.sample_point-c.ensures
    c.sample_point-d.ensures c.sample_point.ensures
