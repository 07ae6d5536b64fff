-- `hull::walk::convex_hull` meets its contract. The loop's invariant (`Walked`): k vertices are stored, cur is the next one, and the rest of the
-- walk gives the rest of the hull. Assumes nothing.
use mathlib.Core.Path.{◌≡◌, refl, sym, ◌∙◌}
use Prim.Native.Nat.{◌<◌}
use native.Mathlib.Omega.{arith}
use lib.ListN.{length-set}
use Rattle.hull.specs.Points.{many}
use Rattle.hull.proofs.Walks.{walked-begin, walked-turn, walked_stop, walked_end, hull-none}
use Rattle.hull.proofs.walk.convex_hull.Goals as goal

pub returns-then-n-eq0 : goal.returns-then-n-eq0
returns-then-n-eq0 c =
    let a = c.args in
    let both = hull-none a.p.now a.out.now c.if-n-eq0.true in
    record { answer = both.0; out = both.1 }

pub loop-k-init : goal.loop-k-init
loop-k-init c =
    let a = c.args in
    (c.start_of-start.ensures.1, refl, walked-begin a.p.now c.start_of-start.result a.out.now c.start_of-start.ensures.0)

pub bounds-out-k-in-loop-k : goal.bounds-out-k-in-loop-k
bounds-out-k-in-loop-k c = simp length-set (omega arith)

pub returns-then-same_at : goal.returns-then-same_at
returns-then-same_at c =
    let p = c.args.p.now in
    let q = c.loop-k in
    let less : q.k < many p = c.loop-k-test.true in
    let both = walked_stop p c.start_of-start.result q.k q.cur c.args.out.now
    q.out q.invariant.2 c.x_at.result c.y_at.result
    c.x_at.ensures c.y_at.ensures
    c.next_of-cur.result less c.next_of-cur.ensures.0
    (sym c.same_at.ensures ∙ c.if-same_at.true) c.requires in
    record { answer = both.0; out = both.1 }

pub loop-k-preserved : goal.loop-k-preserved
loop-k-preserved c =
    let p = c.args.p.now in
    let q = c.loop-k in
    let less : q.k < many p = c.loop-k-test.true in (
      c.next_of-cur.ensures.1,
      simp length-set q.invariant.1,
      walked-turn p c.start_of-start.result q.k q.cur c.args.out.now
          q.out q.invariant.2 c.x_at.result c.y_at.result
          c.x_at.ensures c.y_at.ensures
          c.next_of-cur.result less c.next_of-cur.ensures.0
          (sym c.same_at.ensures ∙ c.if-same_at.false),
    )

pub returns : goal.returns
returns c =
    let q = c.loop-k in
    let both = walked_end c.args.p.now c.start_of-start.result q.k q.cur c.args.out.now q.out q.invariant.2
    c.loop-k-test.false c.loop-k.auto.k-end c.requires in
    let z : many c.args.p.now ≡ q.k = omega arith in
    record { answer = z ∙ both.0; out = both.1 }
