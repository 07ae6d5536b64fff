-- `whole_quad::sides::partner` meets its contract. The loop's invariant: there is a point j, and the fold over the pairs of i with j and
-- later points finds what the fold over all later ones finds. The measure is the number of points left. Assumes nothing.
use mathlib.Core.Path.{refl, sym, ap, ◌∙◌}
use Prim.Native.Nat.{ℕ}
use native.Mathlib.Omega.{arith}
use Rattle.hull.specs.Points.{many}
use Rattle.whole_quad.specs.Inner.{apart, far_from, reach_of}
use Rattle.whole_quad.proofs.Pairs.{partner-turn, partner-end}
use Rattle.whole_quad.proofs.Turns.{apart_some}
use Rattle.whole_quad.proofs.sides.partner.Goals as goal

pub loop-j-init : goal.loop-j-init
unfolding far_from
loop-j-init c = (omega arith, omega arith, refl)

pub loop-j-preserved : goal.loop-j-preserved
unfolding reach_of apart
loop-j-preserved c =
    let p = c.args.p.now in
    let q = c.loop-j in
    let d = c.d2_at in
    let t = partner-turn (apart p) (apart_some p) (many p) c.args.i q.j c.args.far q.invariant.1
    (c.requires.i_bound.1 ∙ sym (ap (λ (r : (ℕ × ℕ) × ℕ). r.1) q.invariant.2)) (omega (arith, d.ensures.0)) in
    (q.invariant.0, t.0, t.1 ∙ q.invariant.2)

pub returns : goal.returns
unfolding reach_of apart
returns c =
    let p = c.args.p.now in
    let q = c.loop-j in
    let d = c.d2_at in (
      partner-end (apart p) (apart_some p) (many p) c.args.i q.j c.args.far q.invariant.1
          (c.requires.i_bound.1 ∙ sym (ap (λ (r : (ℕ × ℕ) × ℕ). r.1) q.invariant.2)) (omega (arith, d.ensures.0))
          ∙ q.invariant.2,
      q.invariant.1,
    )
