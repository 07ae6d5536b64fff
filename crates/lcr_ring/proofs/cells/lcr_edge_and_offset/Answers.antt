-- `lcr_ring::cells::lcr_edge_and_offset` meets its contract. Assumes nothing.
use mathlib.Core.Path.{ap, ◌∙◌}
use Rattle.laws.specs.Said.{result_of}
use Rattle.lcr_core.specs.Doors.{edge_answer}
use Rattle.c_cells.specs.Cells.{edge_after, offset_after}
use Rattle.lcr_ring.proofs.Signed.{at-cell}
use Rattle.lcr_ring.proofs.cells.lcr_edge_and_offset.Goals as goal

pub returns : goal.returns
returns c =
    let e = c.edge_and_offset.ensures
    ∙ at-cell (edge_answer c.args.version) c.args.x c.args.y c.ranges.x c.ranges.y in
    record {
      answer = c.put_edge.ensures.answer ∙ ap result_of e;
      edge = c.put_edge.ensures.edge ∙ ap (λ s. edge_after s c.args.edge.now) e;
      offset = c.put_edge.ensures.offset ∙ ap (λ s. offset_after s c.args.offset.now) e;
    }
