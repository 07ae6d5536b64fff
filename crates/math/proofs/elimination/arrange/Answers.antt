-- `math::elimination::arrange` meets its contract: the same row is left, another one exchanged. Assumes nothing.
use native.Mathlib.Omega.{arith}
use Rattle.std.proofs.Common.{ap, ◌∙◌, List}
use Rattle.std.specs.Prelude.{Float}
use Rattle.math.specs.Elimination.{sys}
use Rattle.math.proofs.Lists.{swap-swapped}
use Rattle.math.proofs.Eliminations.{arranged-same, arranged-other}
use Rattle.math.proofs.elimination.arrange.Goals as goal

pub returns-then-p-c : goal.returns-then-p-c
returns-then-p-c c = arranged-same _ _ _ _ _ c.if-p-c.true

pub returns : goal.returns
returns c =
    ap (λ (b : List Float). sys c.swap_rows.new.a b) (c.swap.ensures.after ∙ swap-swapped _ _ _ (omega arith) (omega arith))
    ∙ arranged-other _ _ _ _ _ _ c.if-p-c.false c.swap_rows.ensures
