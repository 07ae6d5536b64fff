-- By the cell's byte: kept where it is not 0, else the mean. Assumes nothing.
use mathlib.Core.Path.{◌∙◌}
use Rattle.laws.specs.Plane.{plane}
use Rattle.levels.proofs.Fill.{fill-kept, fill-mean}
use Rattle.levels.proofs.passes.fill_cell.Goals as goal

pub returns-then-v-ne0 : goal.returns-then-v-ne0
returns-then-v-ne0 c =
    let a = c.args in
    fill-kept a.w a.h (plane a.w a.g.now) a.x a.y c.requires.v_value c.if-v-ne0.true

pub returns : goal.returns
returns c =
    let a = c.args in
    c.mean_of.ensures
    ∙ rw (c.requires.left_value, c.east_of.ensures, c.north_of.ensures, c.south_of.ensures)
    (fill-mean a.w a.h (plane a.w a.g.now) a.x a.y c.requires.v_value c.if-v-ne0.false)
