-- The level grid gives the marks and these the labels (levelled-of, mapped). Assumes nothing.
use Rattle.laws.proofs.Past.{past_more, past-then}
use Rattle.labels.specs.Cells.{cells_of}
use Rattle.picture.proofs.Outcomes.{level-cells-few, levelled-of, mapped}
use Rattle.picture.proofs.ink_map.Goals as goal

pub mark_cells-requires : goal.mark_cells-requires
mark_cells-requires c =
    let g = c.level_grid in
    record {
      levelled = levelled-of c.args.grid.now c.requires.picture g.ensures.grid (rw g.auto.grid c.requires.list_rooms.grids);
      h_in_bounds = rw g.auto.darks c.requires.list_rooms.label;
    }

pub returns : goal.returns
returns c =
    let a = c.args in
    let m = c.mark_cells in
    let g = c.level_grid in
    let cw = c.region_cells.ensures in
    let ch = c.region_cells-2.ensures in
    let e = c.label_all.ensures in
    let r = mapped a.s.now c.requires.picture c.requires.list_rooms.label g.ensures.darks m.ensures cw ch e.answer e.labels in
    let past = past_more (cells_of a.w a.h) (level-cells-few a.w a.h) g.ensures.lights in
    record {
      answer = r.0;
      grid = g.ensures.grid;
      labels = r.1;
      stack_past = past-then past (rw (cw, ch) at e.stack_past);
    }
