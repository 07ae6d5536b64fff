-- The threshold is that of the level cell in which the region cell lies (cell-ink-is). Assumes nothing.
use mathlib.Core.Path.{◌∙◌}
use Rattle.labels.proofs.InkCells.{cell-ink-is, inside-cell}
use Rattle.labels.proofs.cells.cell_ink.Goals as goal

pub part_ink-requires : goal.part_ink-requires
part_ink-requires c =
    inside-cell c.requires.levelled.picture c.args.cx c.args.cy c.requires.cx_bound.0 c.requires.cx_bound.1 c.span_of.ensures
    c.span_of-2.ensures

pub returns : goal.returns
returns c =
    c.part_ink.ensures
    ∙ cell-ink-is c.requires.levelled c.args.cx c.args.cy c.requires.cx_bound.0 c.requires.cx_bound.1
    (rw c.cells_of.ensures) c.span_of.ensures c.span_of-2.ensures
