-- `outline::cells::cut_at` meets its contract. The cells of a pixel lie within the lent grids. Assumes nothing.
use Prim.Native.Nat.{◌+◌, ◌/◌}
use native.Mathlib.Omega.{arith}
use Rattle.outline.specs.Inner.{cut_of}
use Rattle.outline.proofs.Cuts.{small_mul, region-at, level-at}
use Rattle.outline.proofs.cells.cut_at.Goals as goal

pub overflow_mul-y : goal.overflow_mul-y
overflow_mul-y c =
    let a = c.args in
    omega (arith, small_mul (a.y / 8) ((a.w + 7) / 8) (omega arith) (omega arith))

pub overflow_add-y : goal.overflow_add-y
overflow_add-y c =
    let a = c.args in
    omega (arith, small_mul (a.y / 8) ((a.w + 7) / 8) (omega arith) (omega arith))

pub offset_bounds-labels-y : goal.offset_bounds-labels-y
offset_bounds-labels-y c =
    let a = c.args in
    omega (arith, small_mul (a.y / 8) ((a.w + 7) / 8) (omega arith) (omega arith))

pub bounds-labels-y : goal.bounds-labels-y
bounds-labels-y c =
    let a = c.args in
    region-at a.levels.now a.labels.now a.w a.h c.requires.grids a.x a.y c.requires.x_lt_w.0 c.requires.x_lt_w.1

pub overflow_mul-result : goal.overflow_mul-result
overflow_mul-result c =
    let a = c.args in
    omega (arith, small_mul (a.y / 8 / 2) ((a.w + 15) / 16) (omega arith) (omega arith))

pub overflow_add-result-then-counts : goal.overflow_add-result-then-counts
overflow_add-result-then-counts c =
    let a = c.args in
    omega (arith, small_mul (a.y / 8 / 2) ((a.w + 15) / 16) (omega arith) (omega arith))

pub bounds-levels-y : goal.bounds-levels-y
bounds-levels-y c =
    let a = c.args in
    level-at a.levels.now a.labels.now a.w a.h c.requires.grids a.x a.y c.requires.x_lt_w.0 c.requires.x_lt_w.1

pub returns-then-counts : goal.returns-then-counts
unfolding cut_of
returns-then-counts c = rw (← c.counts.ensures, c.if-counts.true)

pub returns : goal.returns
unfolding cut_of
returns c = rw (← c.counts.ensures, c.if-counts.false)
