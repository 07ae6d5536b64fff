-- `attempt_text::lines::refused` meets its contract. Assumes nothing.
use mathlib.Core.List.{[], ◌∷◌}
use mathlib.Core.Path.{ap}
use Prim.Native.Nat.{ℕ}
use native.Mathlib.Omega.{arith}
use Rattle.laws.proofs.Stores.{stored-ext}
use Rattle.text.specs.Text.{line_of, refused_word}
use Rattle.attempt_text.proofs.lines.refused.Goals as goal

pub returns : goal.returns
returns c =
    let e = c.counted.ensures in
    record {
      out = stored-ext _ _ (ap (λ (n : ℕ). line_of refused_word (n ∷ [])) c.number.ensures) e.out;
      most = omega (arith, e.most);
    }
