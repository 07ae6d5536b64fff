-- `whole_hull::tops::tops` meets its contract. The loop's invariant: both lists have the least y of the first i points, seen from either end, and
-- their x are in the span. Assumes nothing.
use mathlib.Core.Path.{◌≡◌, sym, ap, ◌∙◌, subst}
use mathlib.Core.Bool.{true, false}
use Prim.Native.Nat.{ℕ, ◌+◌}
use native.Mathlib.Omega.{arith}
use lib.ListN.{length}
use Rattle.hull.specs.Points.{many}
use Rattle.whole_hull.specs.Inner.{Tops, Spans, seen}
use Rattle.whole_hull.proofs.Stores.{tops_step, lowered-length}
use Rattle.whole_hull.proofs.Spans.{spans_step}
use Rattle.whole_hull.proofs.tops.tops.Goals as goal

pub lower_both-requires : goal.lower_both-requires
lower_both-requires c =
    let q = c.loop-i.invariant in
    record {
      a_len = q.2.size;
      b_len = q.3.size;
      x_bound = (c.x_at-x.ensures.1, c.y_at.ensures.1);
    }

pub loop-i-preserved : goal.loop-i-preserved
loop-i-preserved c =
    let low = c.lower_both in
    let y = c.y_at in
    let x = c.x_at-x in
    let q = c.loop-i in
    let p = c.args.p.now in
    let w = c.widened-s in (
      ap length low.ensures.a ∙ lowered-length _ _ _ ∙ q.invariant.0,
      ap length low.ensures.b ∙ lowered-length _ _ _ ∙ q.invariant.1,
      subst (Tops false p (q.i + 1)) (sym low.ensures.a)
          (tops_step false p q.i q.a q.invariant.2 x.result y.result x.ensures.0 y.ensures.0 x.ensures.1),
      subst (Tops true p (q.i + 1)) (sym low.ensures.b)
          (tops_step true p q.i q.b q.invariant.3 (seen true x.result) (seen true y.result) (ap (seen true) x.ensures.0)
          (ap (seen true) y.ensures.0) (omega arith)),
      spans_step p q.i x.result q.s.left q.s.right w.result.left w.result.right x.ensures.0 q.invariant.4
          w.ensures.bounds.0 w.ensures.bounds.1 w.ensures.facts.0 w.ensures.facts.1 w.ensures.facts.2,
    )

pub returns : goal.returns
returns c =
    let q = c.loop-i in
    let p = c.args.p.now in
    let z : q.i ≡ many p = omega arith in
    record {
      a = subst (λ (n : ℕ). Tops false p n q.a) z q.invariant.2;
      b = subst (λ (n : ℕ). Tops true p n q.b) z q.invariant.3;
      left = subst (λ (n : ℕ). Spans p n q.s.left q.s.right) z q.invariant.4;
    }
