-- Laws of the doors' checks.
--     version-known, version-refused   what the answer of `Version::new` says
--     refuse-yes                       one step of a chain of checks
--     place_at                         what a call of the inner function gives the door
-- Assumes nothing.
use mathlib.Core.Path.{◌≡◌, refl, sym, ap, ◌∙◌, subst}
use mathlib.Core.Bool.{Bool, true, false}
use Prim.Native.Nat.{ℕ}
use lib.Dec.{leb}
use borrow.Author.Tests.{leb-true}
use lib.IntN.{ℤ}
use mir.Syntax.{w32}
use mir.Val.{to_z, of_z}
use Rattle.laws.proofs.Bools.{and_left, and_right}
use Rattle.lcr_core.specs.Version.{IsVersion, is_version, version_answer}
use Rattle.lcr_core.specs.Border.{InRange, position_at}
use Rattle.lcr_core.proofs.Signed.{read}
use Rattle.laws.specs.Check.{or_refuse}
use Rattle.std.specs.Prelude.{Result, Ok, Err}
use Rattle.laws.specs.Said.{Said, refuse, give}
use Rattle.refusal.specs.declared.Refusal.{Refusal}
use Rattle.refusal.specs.Numbers.{number_of, said}

pub refuse-yes : {A : Type 0} (b : Bool) (refusal answer : A) → b ≡ true → answer ≡ or_refuse b refusal answer
refuse-yes b refusal answer e = rw e

pub is-version : (v : ℕ) → is_version v ≡ true → IsVersion v
is-version v e = record
    { least = leb-true 1 v (and_left (leb 1 v) (leb v 64) e); greatest = leb-true v 64 (and_right (leb 1 v) (leb v 64) e) }

-- A refused version is out of 1 to 64, and its number is 8.
pub version-refused : (v : ℕ) (e : Refusal) (r : Result ℕ Refusal) → said r ≡ version_answer v → r ≡ Err e
    → (is_version v ≡ false) × (number_of e ≡ 8)
version-refused v e r er is = go (is_version v) refl
  where
    told : ◌≡◌ {A = Said ℕ} (refuse (number_of e)) (version_answer v)
    told = rw is at er

    go : (b : Bool) → is_version v ≡ b → (b ≡ false) × (number_of e ≡ 8)
    go true eb = let k = rw eb at told in absurd (let z : ⊥ = cc in z)
    go false eb = let k = rw eb at told in (refl, cc)

pub version-known : (v : ℕ) (w : ℕ) (r : Result ℕ Refusal) → said r ≡ version_answer v → r ≡ Ok w
    → (is_version v ≡ true) × (w ≡ v)
version-known v w r er is = go (is_version v) refl
  where
    told : give w ≡ version_answer v
    told = rw is at er

    inner : give w ≡ give v → w ≡ v
    inner p = cc

    go : (b : Bool) → is_version v ≡ b → (b ≡ true) × (w ≡ v)
    go true eb = (refl, inner (rw eb at told))
    go false eb = let k = rw eb at told in absurd (let z : ⊥ = cc in z)

-- the version that was made is one
pub known_is : (v : ℕ) (w : ℕ) (r : Result ℕ Refusal) → said r ≡ version_answer v → r ≡ Ok w → IsVersion w
known_is v w r er e = let k = version-known v w r er e in subst IsVersion (sym k.1) (is-version v k.0)

-- what the inner function gives, as the machine reads a door's arguments back
pub place_at : (v w : ℕ) (x y : ℤ) → w ≡ v → InRange x → InRange y → position_at w (to_z w32 (of_z w32 x)) (to_z w32 (of_z w32 y)) ≡ position_at v x y
place_at v w x y e hx hy =
    ap (λ (n : ℕ). position_at n (to_z w32 (of_z w32 x)) (to_z w32 (of_z w32 y))) e ∙ ap (λ (z : ℤ). position_at v z (to_z w32 (of_z w32 y))) (read x hx)
    ∙ ap (λ (z : ℤ). position_at v x z) (read y hy)
