-- A group that is moved keeps its number of cells. Assumes nothing.
use mathlib.Core.Path.{◌≡◌, sym, ◌∙◌, ap}
use mathlib.Core.Logic.{⊎_elim}
use mathlib.Core.Bool.{Bool, true}
use Prim.Native.Nat.{ℕ, ◌≤◌}
use native.Mathlib.Omega.{arith}
use lib.Dec.{eqb}
use borrow.Author.Tests.{eq-eqb, eqb-true}
use Rattle.laws.proofs.Counts.{count-into}
use Rattle.laws.specs.Count.{count}
use Rattle.laws.proofs.Bools.{which}
use Rattle.labels.proofs.MovedGroups.{Carry, undo, moved-groups}
use Rattle.labels.specs.Labels.{label, NearGrid}
use Rattle.labels.proofs.Graph.{label-none, label-ink}

-- the number of cells with the label of `a`
abbrev pub size : (ℕ → Bool) → (ℕ → ℕ → Bool) → ℕ → ℕ → ℕ
size ink near n a = count (λ c. eqb (label ink near n c) (label ink near n a)) n

module _ {ink : ℕ → Bool} {near : ℕ → ℕ → Bool} {ink' : ℕ → Bool} {near' : ℕ → ℕ → Bool} {f : ℕ → ℕ} (n n' : ℕ) (g : NearGrid ink near n)
    (g' : NearGrid ink' near' n') (m : Carry ink near ink' near' f) where
  -- a cell with the label of an ink cell is ink
  same-ink : (a c : ℕ) → ink a ≡ true → eqb (label ink near n c) (label ink near n a) ≡ true → ink c ≡ true
  same-ink a c i t = ⊎_elim (λ x. x)
      (λ x. absurd (omega (
        arith,
        eqb-true (label ink near n c) (label ink near n a) t,
        label-none ink near n g c x,
        label-ink ink near n g a i,
      ))) (which (ink c))

  pub size-le : (a : ℕ) → ink a ≡ true → size ink near n a ≤ size ink' near' n' (f a)
  size-le a i =
      count-into (λ c. eqb (label ink near n c) (label ink near n a)) n (λ c. eqb (label ink' near' n' c) (label ink' near' n' (f a))) n' f
      (λ c b t.
      let j = same-ink a c i t in (
        g'.within (f c) (m.ink-to c j),
        eq-eqb _ _ ((moved-groups n n' g g' m c a j i).0 (eqb-true (label ink near n c) (label ink near n a) t)),
      ))
      (λ c d x y t u e. sym (m.again c (same-ink a c i t)) ∙ (ap m.back e ∙ m.again d (same-ink a d i u)))

module _ {ink : ℕ → Bool} {near : ℕ → ℕ → Bool} {ink' : ℕ → Bool} {near' : ℕ → ℕ → Bool} {f : ℕ → ℕ} (n n' : ℕ) (g : NearGrid ink near n)
    (g' : NearGrid ink' near' n') (m : Carry ink near ink' near' f) where
  -- The moved group has as many cells.
  pub moved-size : (a : ℕ) → ink a ≡ true → size ink near n a ≡ size ink' near' n' (f a)
  moved-size a i =
      let p = size-le n n' g g' m a i in
      let q = rw (m.again a i) at (size-le n' n g' g (undo m) (f a) (m.ink-to a i)) in
      omega arith
