-- `outline::sweep::next_state` meets its contract. Assumes nothing.
use mathlib.Core.Bool.{cond}
use mathlib.Core.Path.{ap, ◌∙◌}
use Prim.Native.Nat.{ℕ}
use lib.Dec.{leb, ltb}
use Rattle.outline.specs.Inner.{scan_step}
use Rattle.outline.proofs.sweep.next_state.Goals as goal

pub returns : goal.returns
unfolding scan_step
returns c =
    let a = c.args in
    c.pick.ensures
    ∙ ap (λ (v : ℕ). cond (leb a.run a.state) a.state v)
    (c.pick-kept.ensures ∙ ap (λ (v : ℕ). cond (ltb a.p a.t) v 0) c.pick-grown.ensures)
