-- `whole_quad::sides::most` meets its contract. The loop's invariant: what is kept are points, and the folds over the points from i on give
-- the farthest of either side. Assumes nothing.
use mathlib.Core.Path.{ap, ◌∙◌}
use Prim.Native.Nat.{ℕ, ◌-◌, ◌<◌}
use native.Mathlib.Omega.{arith}
use Rattle.hull.specs.Points.{many}
use Rattle.whole_quad.specs.Inner.{side_at, most_of}
use Rattle.whole_quad.proofs.Pairs.{keep-begin, keep-turn, keep-end, kept-at, kept_in}
use Rattle.whole_quad.proofs.Turns.{side-back}
use Rattle.whole_quad.proofs.sides.most.Goals as goal

pub loop-i-init : goal.loop-i-init
unfolding most_of
loop-i-init c =
    let a = c.args in
    let p = a.p.now in (
      c.requires.a_bound.0,
      c.requires.a_bound.0,
      omega arith,
      keep-begin (side_at p a.a a.b) a.a (many p) 268435456,
      keep-begin (side_at p a.b a.a) a.a (many p) 268435456,
    )

pub greater-right-requires : goal.greater-right-requires
greater-right-requires c = tt

pub loop-i-preserved : goal.loop-i-preserved
loop-i-preserved c =
    let a = c.args in
    let p = a.p.now in
    let q = c.loop-i in
    let h : q.i < many p = omega arith in
    let s = c.side_at-s in
    let r = c.greater-right in
    let l = c.less-left in
    let back = ap (λ (n : ℕ). 536870912 - n) s.ensures.0 ∙ side-back p c.requires.bounded a.a a.b q.i in (
      kept_in q.right.at q.i q.right.val s.result r.result.at r.result.val (many p) r.ensures q.invariant.0 h,
      kept_in q.left.at q.i (536870912 - q.left.val) (536870912 - s.result) l.result.at (536870912 - l.result.val) (many p)
          l.ensures.0 q.invariant.1 h,
      l.ensures.1,
      keep-turn (side_at p a.a a.b) (many p) q.i q.right.at r.result.at q.right.val r.result.val h
          (r.ensures ∙ kept-at (side_at p a.a a.b) q.right.at q.i q.right.val s.result s.ensures.0)
          ∙ q.invariant.3,
      keep-turn (side_at p a.b a.a) (many p) q.i q.left.at l.result.at (536870912 - q.left.val)
          (536870912 - l.result.val) h
          (l.ensures.0 ∙ kept-at (side_at p a.b a.a) q.left.at q.i (536870912 - q.left.val) (536870912 - s.result) back)
          ∙ q.invariant.4,
    )

pub returns : goal.returns
returns c =
    let a = c.args in
    let p = a.p.now in
    let q = c.loop-i in
    record {
      right = (keep-end (side_at p a.a a.b) (many p) q.i q.right.at q.right.val (omega arith) ∙ q.invariant.3, q.invariant.0);
      left = (
        keep-end (side_at p a.b a.a) (many p) q.i q.left.at (536870912 - q.left.val) (omega arith) ∙ q.invariant.4,
        q.invariant.1,
      );
    }
