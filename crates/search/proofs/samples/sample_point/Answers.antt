-- `search::samples::sample_point` meets its contract. Assumes nothing.
use Rattle.search.proofs.Sampled.{near-float, point-is}
use Rattle.search.proofs.samples.sample_point.Goals as goal

pub int_to_float-x : goal.int_to_float-x
int_to_float-x c = near-float c.args.cell.x c.requires.near_cell.across

pub int_to_float-y : goal.int_to_float-y
int_to_float-y c = near-float c.args.cell.y c.requires.near_cell.down

pub returns : goal.returns
returns c =
    let a = c.args in
    point-is a.gray.now a.w a.h a.t a.cell a.du a.dv a.s _ _
    c.requires.near_cell c.apply-p.ensures c.add_sample.ensures
