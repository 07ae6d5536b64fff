-- `whole_hull::tops::lower_both` meets its contract. Assumes nothing.
use mathlib.Core.Path.{ap₂, ◌∙◌}
use Prim.Native.Nat.{ℕ}
use Rattle.whole_hull.specs.Inner.{lowered}
use Rattle.whole_hull.proofs.tops.lower_both.Goals as goal

pub returns : goal.returns
returns c =
    let low = c.lower-2 in
    record {
      a = c.lower.ensures;
      b = low.ensures ∙ ap₂ (λ (i j : ℕ). lowered c.args.b.now i j) c.seen.ensures.0 c.seen-2.ensures.0;
    }
