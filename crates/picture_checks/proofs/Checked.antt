-- Checks in order. As a function of what follows them: Gate, with gate-open, no check, and gate-check, one check more, and gate-zero; those of a
-- picture:
-- check-on where they pass, check-off where one refuses. check-step: a check that passed, and those after it; side-in: what a side's
-- check tells; points-in: what the check of a list of points tells. Assumes nothing.
use mathlib.Core.Bool.{Bool, false, true}
use mathlib.Core.Path.{◌≡◌, refl, sym}
use Prim.Native.Nat.{ℕ, zero, suc, ◌*◌, ◌/◌, ◌%◌, ◌≤◌, ◌<◌}
use native.Mathlib.Omega.{arith}
use lib.Dec.{eqb, leb, lit<}
use borrow.Author.Tests.{leb-true, eqb-true}
use Rattle.laws.proofs.Bools.{and_left, and_right}
use Rattle.laws.specs.Check.{or_refuse}
use Rattle.picture_checks.specs.Picture.{is_side, check_picture}
use Rattle.picture_checks.specs.Points.{is_points}

-- ---- checks as a function of what follows them
-- Where they pass, what follows counts; else it does not matter.
pub record Gate (f : ℕ → ℕ) : Type 0 where
  pub on : f 0 ≡ 0 → (rest : ℕ) → f rest ≡ rest
  pub off : (f 0 ≡ 0 → ⊥) → (rest : ℕ) → f rest ≡ f 0

pub gate-open : Gate (λ rest. rest)
gate-open = record { on = λ e rest. refl; off = λ e rest. absurd (e refl) }

pub gate-check : (b : Bool) (n : ℕ) {f : ℕ → ℕ} → 0 < n → Gate f → Gate (λ rest. or_refuse b n (f rest))
gate-check true n l g = record { on = g.on; off = g.off }
gate-check false n l g = record { on = λ e rest. absurd (none n l e); off = λ e rest. refl }
  where
    none : (n : ℕ) → 0 < n → n ≡ 0 → ⊥
    none n l e = omega arith

-- what follows is no refusal: nor are they
pub gate-zero : {f : ℕ → ℕ} → Gate f → (rest : ℕ) → f rest ≡ 0 → f 0 ≡ 0
gate-zero {f} g rest e = go (f 0) refl
  where
    go : (n : ℕ) → f 0 ≡ n → f 0 ≡ 0
    go zero q = q
    go (suc n) q = absurd (omega (arith, q, e, g.off (λ z. omega (arith, z, q)) rest))

-- ---- the checks of a picture
picture-gate : (w h bytes : ℕ) → Gate (check_picture w h bytes)
picture-gate w h bytes =
    gate-check (is_side w) 1 (lit< tt) (gate-check (is_side h) 1 (lit< tt) (gate-check (eqb bytes (w * h)) 2 (lit< tt) gate-open))

-- no refusal by the picture's own checks: what follows them counts
pub check-on : (w h bytes rest : ℕ) → check_picture w h bytes 0 ≡ 0 → check_picture w h bytes rest ≡ rest
check-on w h bytes rest on = (picture-gate w h bytes).on on rest

-- a refusal by the picture's own checks, whatever follows them
pub check-off : (w h bytes rest : ℕ) → (check_picture w h bytes 0 ≡ 0 → ⊥) → check_picture w h bytes 0 ≡ check_picture w h bytes rest
check-off w h bytes rest off = sym ((picture-gate w h bytes).off off rest)

-- ---- check by check
-- a check that passed, and the checks after it
pub check-step : (b : Bool) (n rest : ℕ) → 0 < n → or_refuse b n rest ≡ 0 → (b ≡ true) × (rest ≡ 0)
check-step true n rest l e = (refl, e)
check-step false n rest l e = absurd (none n l e)
  where
    none : (n : ℕ) → 0 < n → n ≡ 0 → ⊥
    none n l e = omega arith

pub side-in : (n : ℕ) → is_side n ≡ true → (1 ≤ n) × (n ≤ 4096)
side-in n e = (leb-true 1 n (and_left (leb 1 n) (leb n 4096) e), leb-true n 4096 (and_right (leb 1 n) (leb n 4096) e))

pub points-in : (n : ℕ) → is_points n ≡ true → (n ≡ 2 * (n / 2)) × (n ≤ 32768)
points-in n e = (
  even (eqb-true (n % 2) 0 (and_left (eqb (n % 2) 0) (leb n 32768) e)),
  leb-true n 32768 (and_right (eqb (n % 2) 0) (leb n 32768) e),
)
  where
    even : n % 2 ≡ 0 → n ≡ 2 * (n / 2)
    even z = omega arith
