-- The first k places of both lists are drawn. Assumes nothing.
use mathlib.Core.Path.{◌≡◌}
use Prim.Native.Nat.{ℕ, ◌*◌, ◌<◌}
use native.Mathlib.Omega.{arith}
use Rattle.laws.proofs.Folds.{written_none, written_step}
use Rattle.laws.specs.Plane.{plane, rowwise}
use Rattle.levels.specs.Level.{cells, dark, light}
use Rattle.levels.proofs.cells.level_cells.Goals as goal

-- the place of a turn is within the grid
inside : (k w h cw ch : ℕ) → cw ≡ cells w → ch ≡ cells h → k < cw * ch → k < cells w * cells h
inside k w h cw ch wide high test = rw (← wide, ← high) test

pub loop-k-init : goal.loop-k-init
loop-k-init c = (written_none _ _, written_none _ _)

pub loop-k-preserved : goal.loop-k-preserved
loop-k-preserved c =
    let a = c.args in
    let l = inside c.loop-k.k c.args.w c.args.h c.cells_of-cw.result c.cells_of.result c.cells_of-cw.ensures c.cells_of.ensures c.loop-k-test.true in
    let d = rw c.cells_of-cw.ensures at c.cell_levels-v.ensures.0 in
    let e = rw c.cells_of-cw.ensures at c.cell_levels-v.ensures.1 in
    let f = rowwise (cells a.w) (dark (plane a.w a.s.now) a.w a.h) in
    let g = rowwise (cells a.w) (light (plane a.w a.s.now) a.w a.h) in (
      written_step c.loop-k.k f a.darks.now c.loop-k.invariant.0 d (omega arith),
      written_step c.loop-k.k g a.lights.now c.loop-k.invariant.1 e (omega arith),
    )
