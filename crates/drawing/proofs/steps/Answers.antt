-- `drawing::steps` meets its contract. Assumes nothing.
use mathlib.Core.Path.{◌≡◌, ap, ◌∙◌}
use Prim.Native.Nat.{ℕ, max}
use native.Mathlib.Omega.{arith}
use Rattle.drawing.proofs.Points.{steps-are, larger-few}
use Rattle.drawing.proofs.steps.Goals as goal

one-first : (m : ℕ) → max m 1 ≡ max 1 m
one-first m = omega arith

pub returns : goal.returns
returns c =
    let s = c.args in
    let across = c.abs_diff-across in
    let down = c.abs_diff-down in
    let all = c.max-2.ensures ∙ one-first c.max.result ∙ ap (λ (m : ℕ). max 1 m) c.max.ensures in
    record {
      answer = steps-are s.a s.b _ _ _ across.ensures down.ensures all;
      bounds = larger-few across.result down.result _ (omega arith) (omega arith) all;
    }
