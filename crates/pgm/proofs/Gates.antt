-- The answer of a file: refused-is; behind checks that are a gate, found-off where they refuse, found-on where they pass. Assumes nothing.
use mathlib.Core.Path.{◌≡◌, refl, sym, ap, ◌∙◌}
use Prim.Native.Nat.{ℕ, zero, suc}
use Rattle.picture_checks.proofs.Checked.{Gate}
use Rattle.pgm.specs.Doors.{found}
use Rattle.laws.specs.Said.{refuse}

pub refused-is : (n w h start : ℕ) → (n ≡ 0 → ⊥) → refuse n ≡ found n w h start
unfolding found
refused-is zero w h start e = absurd (e refl)
refused-is (suc n) w h start e = refl

module _ {f : ℕ → ℕ} (gate : Gate f) (rest w h start : ℕ) where
  pub found-off : (n : ℕ) → n ≡ f 0 → (n ≡ 0 → ⊥) → refuse n ≡ found (f rest) w h start
  found-off n e off =
      refused-is n w h start off
      ∙ ap (λ (k : ℕ). found k w h start) (e ∙ sym (gate.off (λ z. off (e ∙ z)) rest))

  pub found-on : (n : ℕ) → n ≡ f 0 → n ≡ 0 → found rest w h start ≡ found (f rest) w h start
  found-on n e on = ap (λ (k : ℕ). found k w h start) (sym (gate.on (sym e ∙ on) rest))
