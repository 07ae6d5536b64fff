-- `whole_hull::chain::kept` meets its contract. The loop's invariant (`Ready`): what the places that went were above lies on the right of
-- the way from the last that is left. The measure is how many are left. Assumes nothing.
use native.Mathlib.Omega.{arith}
use borrow.Author.Rules.{Fits-under}
use Rattle.laws.specs.Plane.{value_at}
use Rattle.whole_hull.proofs.Stores.{kept_full, kept-pop, kept-stop, kept-few}
use Rattle.whole_hull.proofs.chain.kept.Goals as goal

pub loop-m-init : goal.loop-m-init
loop-m-init c = (omega arith, c.requires.n_in_bounds, c.requires.chain_ready)

pub overflow_cast-s : goal.overflow_cast-s
overflow_cast-s c =
    let g = c.args in
    let q = c.loop-m in
    let f = kept_full (value_at g.a.now) g.e c.requires.full g.s.now q.m c.loop-m-test.true q.invariant.2 in
    Fits-under _ _ 8193 f.0.0 tt

pub overflow_cast-s-in-loop-m : goal.overflow_cast-s-in-loop-m
overflow_cast-s-in-loop-m c =
    let g = c.args in
    let q = c.loop-m in
    let f = kept_full (value_at g.a.now) g.e c.requires.full g.s.now q.m c.loop-m-test.true q.invariant.2 in
    Fits-under _ _ 8193 f.1.0 tt

pub behind-requires : goal.behind-requires
behind-requires c =
    let g = c.args in
    let q = c.loop-m in
    let f = kept_full (value_at g.a.now) g.e c.requires.full g.s.now q.m c.loop-m-test.true q.invariant.2 in
    record {
      a_len = c.requires.a_len;
      full = f.0;
      full_2 = f.1;
      full_3 = c.requires.full;
      u_lt_c = (f.2, f.3);
    }

pub loop-m-preserved : goal.loop-m-preserved
loop-m-preserved c =
    let g = c.args in
    let q = c.loop-m in (
      omega arith,
      q.invariant.1,
      kept-pop (value_at g.a.now) g.e c.requires.full g.s.now q.m c.loop-m-test.true q.invariant.2
          (c.behind.ensures.0 c.if-behind.true),
    )

pub returns-in-loop-m : goal.returns-in-loop-m
returns-in-loop-m c =
    let g = c.args in
    let q = c.loop-m in (
      q.invariant.0,
      q.invariant.2,
      kept-stop (value_at g.a.now) g.e c.requires.full g.s.now q.m c.loop-m-test.true
          (c.behind.ensures.1 c.if-behind.false),
    )

pub returns : goal.returns
returns c =
    let q = c.loop-m in
    (q.invariant.0, q.invariant.2, kept-few (value_at c.args.a.now) c.args.e c.args.s.now q.m c.loop-m-test.false)
