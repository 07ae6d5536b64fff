-- `lens::estimate::edges` meets its contract: measures that are looked for only after one that is some are the same four, and four uses
-- of buf leave its rest. Assumes nothing.
use Rattle.laws.proofs.Past.{past-then}
use Rattle.lens.proofs.Estimates.{measures-by}
use Rattle.lens.proofs.estimate.edges.Goals as goal

pub returns : goal.returns
returns c =
    let one = c.measure_edge-ab.ensures in
    let two = c.next_measure-bc.ensures in
    let three = c.next_measure-cd.ensures in
    let four = c.next_measure-da.ensures in
    record {
      answer = measures-by _ _ _ _ _ _ _ _ one.answer two.answer three.answer four.answer c.measures.ensures;
      buf_past = past-then (past-then one.buf_past two.buf_past) (past-then three.buf_past four.buf_past);
    }
