-- The door's answer by its checks: quad-told, quad-refused. Assumes nothing.
use mathlib.Core.Path.{◌≡◌, refl, ap, ◌∙◌}
use mathlib.Core.List.{List}
use Prim.Native.Nat.{ℕ, zero, suc, ◌<◌}
use native.Mathlib.Omega.{arith}
use Rattle.std.proofs.Common.{Option, Ok}
use Rattle.laws.specs.Said.{refuse}
use Rattle.refusal.specs.Numbers.{number_of, said_some}
use Rattle.refusal.specs.declared.Refusal.{Refusal}
use Rattle.refusal.proofs.Numbers.{number-some}
use Rattle.whole_quad.specs.Door.{quad_by, quad_of_pairs}
use Rattle.whole_quad.specs.declared.corners.Quad.{Quad}

pub quad-told : (o : Option Quad) (n : ℕ) (l : List (ℕ × ℕ)) → 0 ≡ n → o ≡ quad_of_pairs l → said_some (Ok o) ≡ quad_by n l
unfolding quad_by
quad-told o n l e f = ap (λ (o : Option Quad). said_some (Ok o)) f ∙ ap (λ (m : ℕ). quad_by m l) e

pub quad-refused : (r : Refusal) (n : ℕ) (l : List (ℕ × ℕ)) → number_of r ≡ n → refuse (number_of r) ≡ quad_by n l
quad-refused r n l e = go (number_of r) (number-some r) ∙ ap (λ (m : ℕ). quad_by m l) e
  where
    go : (n : ℕ) → 0 < n → refuse n ≡ quad_by n l
    go zero s = absurd (omega arith)
    go (suc n) s = unfold quad_by in refl
