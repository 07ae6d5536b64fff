-- `outline::rows::at` meets its contract. Assumes nothing.
use mathlib.Core.Path.{ap, ◌∙◌}
use Prim.Native.Nat.{ℕ}
use Rattle.boundary.specs.Boundary.{member_at}
use Rattle.outline.specs.Inner.{row_line}
use Rattle.outline.proofs.rows.at.Goals as goal

pub returns : goal.returns
unfolding row_line
returns c =
    let a = c.args in
    c.member.ensures
    ∙ ap (λ (x : ℕ). member_at a.want a.w a.s.now a.levels.now a.labels.now x a.y) c.place-x.ensures.0
