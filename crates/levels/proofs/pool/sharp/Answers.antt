-- Both lists are pooled, and thresholds of pooled lists are the definition's (pairwise-drawn). Assumes nothing.
use mathlib.Core.List.{List, ◌++◌}
use mathlib.Core.Path.{◌∙◌, ap}
use Prim.Native.Nat.{◌*◌, ℕ}
use Rattle.laws.specs.Fold.{tab}
use Rattle.laws.specs.Plane.{plane, rowwise}
use Rattle.levels.proofs.Pools.{pairwise-drawn}
use Rattle.levels.specs.Level.{sharp}
use Rattle.levels.proofs.pool.sharp.Goals as goal

pub returns-clause-grid : goal.returns-clause-grid
returns-clause-grid c =
    let a = c.args in
    let darks = c.pool in
    let lights = c.pool-2 in
    c.thresholds.ensures
    ∙ pairwise-drawn a.w a.h a.darks.now a.lights.now a.darks.now a.lights.now darks.new.g lights.new.g _
    darks.ensures.g lights.ensures.g
    ∙ ap (λ (l : List ℕ). tab (a.w * a.h) (rowwise a.w (sharp a.w a.h (plane a.w a.darks.now) (plane a.w a.lights.now))) ++ l)
    (lights.ensures.mid_past.past ∙ darks.ensures.mid_past.past)
