-- The door's answer by its checks: answer-is, answer-refused. Assumes nothing.
use mathlib.Core.Path.{◌≡◌, refl, ap, ◌∙◌}
use Prim.Native.Nat.{ℕ, zero, suc, ◌<◌}
use native.Mathlib.Omega.{arith}
use Rattle.laws.specs.Said.{refuse, give}
use Rattle.refusal.specs.Numbers.{number_of, answered}
use Rattle.refusal.specs.declared.Refusal.{Refusal}
use Rattle.refusal.proofs.Numbers.{number-some}

pub answer-is : (n k v : ℕ) → 0 ≡ n → k ≡ v → give k ≡ answered n v
unfolding answered
answer-is n k v e f = ap give f ∙ ap (λ (m : ℕ). answered m v) e

pub answer-refused : (r : Refusal) (n v : ℕ) → number_of r ≡ n → refuse (number_of r) ≡ answered n v
answer-refused r n v e = go (number_of r) (number-some r) ∙ ap (λ (m : ℕ). answered m v) e
  where
    go : (n : ℕ) → 0 < n → refuse n ≡ answered n v
    go zero l = absurd (omega arith)
    go (suc n) l = unfold answered in refl
