-- Levels of all cells, pooled to thresholds, and eight passes over these: level-drawn puts the three together. Assumes nothing.
use mathlib.Core.Path.{◌∙◌, ◌≡◌}
use Rattle.laws.specs.Plane.{drawn, plane}
use Rattle.levels.proofs.Grids.{darks-bytes, level-drawn, level-is, lights-bytes}
use Rattle.levels.specs.Level.{cells, dark, light, passes, sharp}
use Rattle.levels.proofs.level_grid.Goals as goal

pub sharp-requires-clause-bytes : goal.sharp-requires-clause-bytes
sharp-requires-clause-bytes c =
    let a = c.args in
    darks-bytes (plane a.w a.s.now) a.w a.h a.darks.now c.cells_of-cw.ensures c.cells_of-ch.ensures c.level_cells.ensures.darks

pub sharp-requires-clause-bytes_2 : goal.sharp-requires-clause-bytes_2
sharp-requires-clause-bytes_2 c =
    let a = c.args in
    lights-bytes (plane a.w a.s.now) a.w a.h a.lights.now c.cells_of-cw.ensures c.cells_of-ch.ensures c.level_cells.ensures.lights

pub returns-clause-grid : goal.returns-clause-grid
returns-clause-grid c =
    let s = c.sharp in
    let k = c.level_cells in
    let a = c.args in
    let ew = c.cells_of-cw.ensures in
    let eh = c.cells_of-ch.ensures in
    let w = cells a.w in
    let h = cells a.h in
    let d = dark (plane a.w a.s.now) a.w a.h in
    let l = light (plane a.w a.s.now) a.w a.h in
    let grid = s.new.grid in
    let over : grid ≡ drawn w h (sharp w h (plane w k.new.darks) (plane w k.new.lights)) a.grid.now = rw (ew, eh) at s.ensures.grid in
    let last : c.fill_passes.new.grid ≡ drawn w h (passes w h 8 (plane w grid)) grid = rw (ew, eh) at c.fill_passes.ensures.grid in
    last
    ∙ level-drawn w h d l k.new.darks a.darks.now k.new.lights a.lights.now a.grid.now grid k.ensures.darks k.ensures.lights over
    ∙ rw level-is
