-- `lcr_ring::cells::lcr_version` meets its contract. Assumes nothing.
use mathlib.Core.Path.{ap, ◌∙◌}
use Rattle.laws.specs.Said.{result_of}
use Rattle.c_cells.specs.Cells.{side_after, positions_after}
use Rattle.lcr_ring.proofs.cells.lcr_version.Goals as goal

pub returns : goal.returns
returns c =
    let e = c.new.ensures in
    record {
      answer = c.put_version.ensures.answer ∙ ap result_of e;
      side = c.put_version.ensures.side ∙ ap (λ s. side_after s c.args.side.now) e;
      positions = c.put_version.ensures.positions ∙ ap (λ s. positions_after s c.args.positions.now) e;
    }
