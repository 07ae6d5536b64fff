-- The bins are those of the cell, so that the low and the high bin are the definitions'. Assumes nothing.
use mathlib.Core.Path.{◌∙◌, ap}
use Prim.Native.Nat.{◌*◌, ◌+◌, ℕ}
use Rattle.laws.specs.Plane.{plane}
use Rattle.levels.proofs.Hist.{bin_small, is-dark, is-light}
use Rattle.levels.proofs.cells.cell_levels.Goals as goal

pub low_bin-low-requires : goal.low_bin-low-requires
low_bin-low-requires c =
    let a = c.args in
    bin_small (plane a.w a.s.now) a.w a.h a.cx a.cy c.count_cell-bins.result _ _ c.span_of-lx.ensures
    c.span_of-ly.ensures c.count_cell-bins.ensures

pub high_bin-high-requires : goal.high_bin-high-requires
high_bin-high-requires c =
    let a = c.args in
    bin_small (plane a.w a.s.now) a.w a.h a.cx a.cy c.count_cell-bins.result _ _ c.span_of-lx.ensures
    c.span_of-ly.ensures c.count_cell-bins.ensures

pub returns : goal.returns
returns c =
    let a = c.args in (
      ap (◌*◌ 8) c.low_bin-low.ensures.answer
          ∙ is-dark (plane a.w a.s.now) a.w a.h a.cx a.cy c.count_cell-bins.result _ _
          c.span_of-lx.ensures c.span_of-ly.ensures c.count_cell-bins.ensures,
      ap (λ (n : ℕ). 8 * n + 7) c.high_bin-high.ensures.answer
          ∙ is-light (plane a.w a.s.now) a.w a.h a.cx a.cy c.count_cell-bins.result _ _
          c.span_of-lx.ensures c.span_of-ly.ensures c.count_cell-bins.ensures,
    )
