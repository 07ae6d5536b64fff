-- `whole_hull::chain::placed` meets its contract. Assumes nothing.
use native.Mathlib.Omega.{arith}
use Rattle.laws.specs.Lists.{stack_of}
use Rattle.laws.specs.Plane.{value_at}
use Rattle.whole_hull.specs.Inner.{Full}
use Rattle.whole_hull.proofs.Stores.{placed-skip, placed-push}
use Rattle.whole_hull.proofs.Chains.{ready-begin}
use Rattle.whole_hull.proofs.chain.placed.Goals as goal

pub returns-then-a-i-gt8192 : goal.returns-then-a-i-gt8192
returns-then-a-i-gt8192 c =
    (placed-skip (value_at c.args.a.now) c.args.e (stack_of c.args.s.now c.args.n) c.if-a-i-gt8192.true c.requires.chain, omega arith)

pub kept-m-requires : goal.kept-m-requires
kept-m-requires c =
    let full : Full (value_at c.args.a.now) c.args.e = (c.requires.s_len.2, c.if-a-i-gt8192.false) in
    record {
      a_len = c.requires.a_len;
      n_in_bounds = omega arith;
      full = full;
      chain_ready = ready-begin (value_at c.args.a.now) c.args.e full (stack_of c.args.s.now c.args.n) c.requires.chain;
    }

pub returns : goal.returns
returns c =
    let g = c.args in
    let k = c.kept-m in (
      placed-push (value_at g.a.now) g.e g.s.now k.result (c.requires.s_len.2, c.if-a-i-gt8192.false) (omega arith)
          k.ensures.1 k.ensures.2,
      omega arith,
    )
