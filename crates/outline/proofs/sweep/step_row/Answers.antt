-- `outline::sweep::step_row` meets its contract. The loop's invariant (`Stepped`): the first i columns are one step further. Assumes nothing.
use mathlib.Core.Path.{sym, subst, ◌≡◌}
use Prim.Native.Nat.{ℕ, ◌≤◌}
use native.Mathlib.Omega.{arith}
use lib.ListN.{length}
use Rattle.outline.specs.Inner.{Stepped}
use Rattle.outline.proofs.Sweeps.{stepped-turn}
use Rattle.outline.proofs.sweep.step_row.Goals as goal

pub next_state-requires : goal.next_state-requires
next_state-requires c =
    let q = c.loop-i in
    (c.requires.row_len_bound.2, subst (λ (v : ℕ). v ≤ 4096) (sym (q.invariant.left q.i (omega arith))) (c.requires.at_most q.i (omega arith)))

pub loop-i-preserved : goal.loop-i-preserved
loop-i-preserved c =
    let q = c.loop-i in
    stepped-turn c.next_state.result q.invariant (omega arith) c.next_state.ensures

pub returns : goal.returns
returns c =
    let a = c.args in
    let q = c.loop-i in
    let z : q.i ≡ length a.row.now = omega arith in
    subst (λ (k : ℕ). Stepped a.run a.row.now a.cuts.now a.state.now a.k k q.state) z q.invariant
