-- Laws of what is left in out-parameters.
--     left-refused             by a result other than 0: the old value
--     quad-found, quad-none    the numbers of a quad that is found, and of none
--     picture-given            the regions that the picture door gives, and that no check fails then
--     picture-refused          the number of its refusal
-- Assumes nothing.
use mathlib.Core.Path.{◌≡◌, refl, sym, ap, ◌∙◌}
use mathlib.Core.List.{List, []}
use Prim.Native.Nat.{ℕ, zero, suc}
use lib.Ieee.{Float}
use Rattle.hull.specs.declared.points.Quad.{Quad}
use Rattle.hull.specs.Quad.{values_of}
use Rattle.regions.specs.declared.answer.Kept.{Kept}
use Rattle.laws.specs.Said.{refuse, give}
use Rattle.picture.specs.Door.{answer_by}
use Rattle.std.proofs.Common.{Option, Some, None}
use Rattle.c_pictures.specs.Answers.{after_by}

pub left-refused : {A : Type 0} (n : ℕ) (new old : A) → (n ≡ 0 → ⊥) → after_by n new old ≡ old
left-refused zero new old off = absurd (off refl)
left-refused (suc n) new old off = refl

pub quad-found : (r : Option Quad) (q : Quad) (v : List Float) → values_of r ≡ v → r ≡ Some q → v ≡ values_of (Some q)
quad-found r q v ev e = sym ev ∙ ap values_of e

pub quad-none : (r : Option Quad) (v : List Float) → values_of r ≡ v → r ≡ None → v ≡ []
unfolding values_of
quad-none r v ev e = sym ev ∙ ap values_of e

pub picture-given : (n : ℕ) (k f : Kept) → give f ≡ answer_by n k → (n ≡ 0) × (f ≡ k)
picture-given zero k f e = (refl, cc)
picture-given (suc n) k f e = absurd (let z : ⊥ = cc in z)

pub picture-refused : (n : ℕ) (k : Kept) (m : ℕ) → refuse m ≡ answer_by n k → m ≡ n
picture-refused zero k m e = absurd (let z : ⊥ = cc in z)
picture-refused (suc n) k m e = cc
