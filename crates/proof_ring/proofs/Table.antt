-- No version's sequence agrees everywhere with itself at another pose: one test that antt computes over the whole table, each pose up to
-- its first disagreement, carried to every version.
--     pose-apart   a position where the sequence differs from itself at another pose
-- Assumes nothing.
use mathlib.Core.Path.{◌≡◌, refl, subst}
use mathlib.Core.Logic.{⊎_elim}
use mathlib.Core.Bool.{Bool, true, false, not, ◌&&◌, ◌||◌, beq}
use Prim.Native.Nat.{ℕ, zero, suc, ◌+◌, ◌-◌, ◌<◌}
use native.Mathlib.Omega.{arith}
use lib.Dec.{eqb}
use borrow.Author.Tests.{eqb-true}
use Rattle.laws.proofs.Bools.{and_both, and_left, and_right, clash, either, holds, holds_at, not-true}
use Rattle.lcr_core.specs.Mark.{mark, mark_at, ring_byte, row_start, rows_through}
use Rattle.lcr_core.specs.Ring.{ring_bytes}
use Rattle.lcr_core.specs.Version.{IsVersion, positions_of}
use Rattle.marks.specs.Pose.{pose_at}
use Rattle.proof_ring.specs.Claims.{SamePose}

-- the sequence's marks at p and at the map's value are not equal
differs : ℕ → Bool → ℕ → ℕ → Bool
differs v reversed r p = not (beq (mark v p) (mark v (pose_at v r reversed p)))

-- one of the k numbers from p on passes a test, looked for from p on
some_from : (ℕ → Bool) → ℕ → ℕ → Bool
some_from t zero p = false
some_from t (suc k) p = t p || some_from t k (p + 1)

-- a pose is that of corner 0, forwards, or does not agree everywhere
apart : ℕ → Bool → ℕ → Bool
apart v reversed r = (eqb r 0 && not reversed) || some_from (differs v reversed r) (positions_of v) 0

-- so is each of the eight poses of a version
all_apart : ℕ → Bool
all_apart v = holds 4 (apart v false) && holds 4 (apart v true)

-- the one computed test, of versions 1 to 64
tested : holds 64 (λ k. all_apart (k + 1)) ≡ true
unfolding holds all_apart apart some_from differs pose_at mark mark_at ring_byte row_start rows_through ring_bytes
tested = refl

-- ---- carried to every version

version-apart : (v : ℕ) → IsVersion v → all_apart v ≡ true
version-apart v is =
    let e : v - 1 + 1 ≡ v = omega (arith, is.least) in
    subst (λ (k : ℕ). all_apart k ≡ true) e (holds_at 64 (λ k. all_apart (k + 1)) tested (v - 1) (omega (arith, is.least, is.greatest)))

of-version : (v : ℕ) → all_apart v ≡ true → (reversed : Bool) → holds 4 (apart v reversed) ≡ true
unfolding all_apart
of-version v all false = and_left (holds 4 (apart v false)) (holds 4 (apart v true)) all
of-version v all true = and_right (holds 4 (apart v false)) (holds 4 (apart v true)) all

-- a number that passed the test
found : (t : ℕ → Bool) (k p : ℕ) → some_from t k p ≡ true → (i : ℕ) × (i < p + k) × (t i ≡ true)
unfolding some_from
found t zero p some = absurd (clash some refl)
found t (suc k) p some =
    ⊎_elim (λ here. (p, omega arith, here)) (λ later. further (found t k (p + 1) later)) (either (t p) (some_from t k (p + 1)) some)
  where
    further : (i : ℕ) × (i < p + 1 + k) × (t i ≡ true) → (i : ℕ) × (i < p + suc k) × (t i ≡ true)
    further f = (f.0, omega (arith, f.1), f.2)

-- a position where the sequence differs from itself at a pose
pub record Apart (v r : ℕ) (reversed : Bool) : Type 0 where
  pub position : ℕ
  pub within : position < positions_of v
  pub differ : beq (mark v position) (mark v (pose_at v r reversed position)) ≡ false

pub pose-apart : (v : ℕ) → IsVersion v → (r : ℕ) (reversed : Bool) → r < 4 → (SamePose r 0 reversed false → ⊥) → Apart v r reversed
unfolding apart differs
pose-apart v is r reversed few other =
    ⊎_elim (λ same. absurd (other (own same))) (λ some. at (found (differs v reversed r) (positions_of v) 0 some))
    (either (eqb r 0 && not reversed) (some_from (differs v reversed r) (positions_of v) 0)
    (holds_at 4 (apart v reversed) (of-version v (version-apart v is) reversed) r few))
  where
    own : (eqb r 0 && not reversed) ≡ true → SamePose r 0 reversed false
    own e = let b = and_both (eqb r 0) (not reversed) e in record { corner = eqb-true r 0 b.0; reversed = not-true reversed b.1 }

    at : (i : ℕ) × (i < 0 + positions_of v) × (differs v reversed r i ≡ true) → Apart v r reversed
    at f = record {
      position = f.0;
      within = omega (arith, f.1);
      differ = not-true (beq (mark v f.0) (mark v (pose_at v r reversed f.0))) f.2;
    }
