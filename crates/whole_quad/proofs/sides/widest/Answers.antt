-- `whole_quad::sides::widest` meets its contract. The loop's invariant: what is kept is a point before the last, and the fold over the
-- reaches from i on gives the widest. Assumes nothing.
use mathlib.Core.Path.{◌∙◌}
use Prim.Native.Nat.{◌-◌, ◌<◌}
use native.Mathlib.Omega.{arith}
use Rattle.hull.specs.Points.{many}
use Rattle.whole_quad.specs.Inner.{reach_of}
use Rattle.whole_quad.proofs.Pairs.{keep-begin, keep-turn, keep-end, kept-at, kept_in}
use Rattle.whole_quad.proofs.sides.widest.Goals as goal

pub loop-i-init : goal.loop-i-init
loop-i-init c = let p = c.args.p.now in (omega arith, keep-begin (reach_of p) 0 (many p - 1) 0)

pub greater-k-requires : goal.greater-k-requires
greater-k-requires c = tt

pub loop-i-preserved : goal.loop-i-preserved
loop-i-preserved c =
    let p = c.args.p.now in
    let q = c.loop-i in
    let h : q.i < many p - 1 = omega arith in
    let s = c.reach in
    let r = c.greater-k in (
      kept_in q.k.at q.i q.k.val s.result r.result.at r.result.val (many p - 1) r.ensures q.invariant.0 h,
      keep-turn (reach_of p) (many p - 1) q.i q.k.at r.result.at q.k.val r.result.val h
          (r.ensures ∙ kept-at (reach_of p) q.k.at q.i q.k.val s.result s.ensures) ∙ q.invariant.1,
    )

pub returns : goal.returns
returns c =
    let p = c.args.p.now in
    let q = c.loop-i in
    (keep-end (reach_of p) (many p - 1) q.i q.k.at q.k.val (omega arith) ∙ q.invariant.1, omega arith)
