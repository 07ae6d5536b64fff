-- `put_run` stores place by place. Invariant: the first i places of the run are stored, and the list is as long.
-- Assumes nothing.
use mathlib.Core.List.{List}
use mathlib.Core.Path.{◌≡◌, refl, ap, ◌∙◌}
use Prim.Native.Nat.{ℕ, ◌+◌}
use native.Mathlib.Omega.{arith}
use lib.ListN.{length-set, replicate, set}
use lib.Seq.{sets}
use Rattle.laws.proofs.Stores.{run_more}
use Rattle.proof_ring.proofs.paint.put_run.Goals as goal

pub loop-i-init : goal.loop-i-init
loop-i-init c = (refl, refl)

pub loop-i-preserved : goal.loop-i-preserved
loop-i-preserved c =
    let a = c.args in
    let at = c.loop-i in (
      simp length-set at.invariant.0,
      ap (λ (l : List ℕ). set l (a.at + at.i) a.grey) at.invariant.1 ∙ run_more a.pixels.now a.at at.i a.grey,
    )

pub returns : goal.returns
returns c =
    let a = c.args in
    let at = c.loop-i in
    let e : at.i ≡ a.n = omega arith in
    at.invariant.1 ∙ ap (λ (k : ℕ). sets a.pixels.now a.at (replicate k a.grey)) e
