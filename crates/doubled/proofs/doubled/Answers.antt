-- `doubled::doubled` meets its contract. Assumes nothing.
use Rattle.doubled.proofs.Twices.{doubled-refused}
use Rattle.doubled.proofs.Checks.{hull-passed}
use Rattle.doubled.specs.Doubled.{twices, twice_of, doubled_after}
use lib.ListN.{length, length-map}
use Prim.Native.Nat.{ℕ, ◌≤◌}
use mathlib.Core.Path.{sym, subst}
use Rattle.doubled.proofs.doubled.Goals as goal

pub fill-requires : goal.fill-requires
fill-requires c =
    let q = hull-passed (twices c.args.p.now) (length c.args.out.now) (sym c.in_ok-check.ensures) in
    subst (λ (n : ℕ). n ≤ length c.args.out.now) (length-map c.args.p.now twice_of) q.1

pub returns-in_err-check-clause-out : goal.returns-in_err-check-clause-out
returns-in_err-check-clause-out c = doubled-refused c.from_residual.result _ _ c.from_residual.ensures.0

pub returns : goal.returns
unfolding doubled_after
returns c =
    record {
      answer = c.in_ok-check.ensures;
      out = c.fill.ensures;
    }
