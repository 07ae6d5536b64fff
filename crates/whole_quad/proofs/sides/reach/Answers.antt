-- `whole_quad::sides::reach` meets its contract. The loop's invariant: the fold over the pairs of i with j and later points, from one more
-- than what is kept, finds the reach. Assumes nothing.
use mathlib.Core.Path.{ap, ◌∙◌}
use Prim.Native.Nat.{ℕ, ◌+◌}
use native.Mathlib.Omega.{arith}
use Rattle.hull.specs.Points.{many}
use Rattle.whole_quad.specs.Inner.{apart, far_from, reach_of}
use Rattle.whole_quad.proofs.Pairs.{reach-begin, reach-turn, reach-end}
use Rattle.whole_quad.proofs.Turns.{apart_some}
use Rattle.whole_quad.proofs.sides.reach.Goals as goal

pub loop-j-init : goal.loop-j-init
unfolding reach_of far_from
loop-j-init c =
    let a = c.args in
    (omega arith, omega arith, reach-begin (apart a.p.now) (apart_some a.p.now) (many a.p.now) a.i (a.i + 1) (omega arith))

pub loop-j-preserved : goal.loop-j-preserved
loop-j-preserved c =
    let a = c.args in
    let q = c.loop-j in
    let d = c.d2_at in
    let r = c.max-far in (
      q.invariant.0,
      omega arith,
      reach-turn (apart a.p.now) (apart_some a.p.now) (many a.p.now) a.i q.j q.far d.result r.result
          (omega arith) (unfold apart in ap (λ (n : ℕ). n + 1) d.ensures.0) r.ensures ∙ q.invariant.2,
    )

pub returns : goal.returns
returns c =
    let a = c.args in
    let q = c.loop-j in
    reach-end (apart a.p.now) (apart_some a.p.now) (many a.p.now) a.i q.j q.far (omega arith) ∙ q.invariant.2
