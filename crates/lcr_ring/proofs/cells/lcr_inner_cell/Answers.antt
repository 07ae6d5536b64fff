-- `lcr_ring::cells::lcr_inner_cell` meets its contract. Assumes nothing.
use mathlib.Core.Path.{ap, ◌∙◌}
use Rattle.laws.specs.Said.{result_of}
use Rattle.c_cells.specs.Cells.{x_after, y_after}
use Rattle.lcr_ring.proofs.cells.lcr_inner_cell.Goals as goal

pub returns : goal.returns
returns c =
    let e = c.inner_cell.ensures in
    record {
      answer = c.put_cell.ensures.answer ∙ ap result_of e;
      x = c.put_cell.ensures.x ∙ ap (λ s. x_after s c.args.x.now) e;
      y = c.put_cell.ensures.y ∙ ap (λ s. y_after s c.args.y.now) e;
    }
