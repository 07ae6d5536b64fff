-- `whole_hull::chain::chain` meets its contract. The loop's invariant: the stack is the chain of the places below e. Assumes nothing.
use mathlib.Core.Path.{◌∙◌}
use native.Mathlib.Omega.{arith}
use Rattle.laws.specs.Lists.{stack_of}
use Rattle.laws.specs.Plane.{value_at}
use Rattle.whole_hull.proofs.Chains.{chain-begin, chain-end}
use Rattle.whole_hull.proofs.chain.chain.Goals as goal

pub loop-e-init : goal.loop-e-init
unfolding stack_of
loop-e-init c =
    let i = c.requires.places_within in
    (omega arith, c.requires.s_len, chain-begin (value_at c.args.a.now) c.args.left c.args.right i)

pub placed-n-requires : goal.placed-n-requires
placed-n-requires c =
    let q = c.loop-e in
    record {
      a_len = c.requires.a_len;
      s_len = (q.invariant.1, q.invariant.0, omega (arith, c.loop-e-test.true, c.requires.places_within.wide));
      chain = q.invariant.2;
    }

pub loop-e-preserved : goal.loop-e-preserved
loop-e-preserved c =
    let q = c.loop-e in
    let r = c.placed-n in
    (r.ensures.1, r.auto.s ∙ q.invariant.1, r.ensures.0)

pub returns : goal.returns
returns c =
    let q = c.loop-e in
    let i = c.requires.places_within in
    let w = i.wide in
    let n = q.invariant.0 in (
      chain-end (value_at c.args.a.now) c.args.left c.args.right i q.e (stack_of q.s q.n) (omega arith) (omega arith)
          q.invariant.2,
      omega arith,
    )
