-- Points of a list of numbers by their number, and the numbers of points.
--     length_pairs, pair-at, pair-any                 the points of a list of numbers
--     numbers-append, length-numbers, pairs-numbers   the numbers of a list of points
-- Assumes nothing.
use mathlib.Core.Path.{◌≡◌, refl, ap, ap₂, ◌∙◌}
use mathlib.Core.List.{List, [], ◌∷◌}
use Prim.Native.Nat.{ℕ, zero, suc, ◌+◌, ◌*◌, ◌<◌}
use native.Mathlib.Omega.{arith}
use lib.ListN.{length, get_or}
use Rattle.hull.specs.Points.{many, numbers_of}
use Rattle.doubled.specs.Points.{pairs_of, x_at, y_at}

-- ---- the points of a list
pub length_pairs : (p : List ℕ) → length (pairs_of p) ≡ many p
unfolding pairs_of
length_pairs [] = omega arith
length_pairs (x ∷ []) = omega arith
length_pairs (x ∷ y ∷ l) = let e = length_pairs l in omega arith

pub pair-at : (p : List ℕ) (i : ℕ) → i < many p → get_or (pairs_of p) i (0, 0) ≡ (x_at p i, y_at p i)
unfolding pairs_of
pair-at [] i l = absurd (omega arith)
pair-at (x ∷ []) i l = absurd (omega arith)
pair-at (x ∷ y ∷ p) zero l = refl
pair-at (x ∷ y ∷ p) (suc i) l =
    pair-at p i (omega arith) ∙ ap₂ (λ (a b : ℕ). (get_or (x ∷ y ∷ p) a 0, get_or (x ∷ y ∷ p) b 0)) (even i) (odd i)
  where
    even : (i : ℕ) → suc (suc (2 * i)) ≡ 2 * suc i
    even i = omega arith

    odd : (i : ℕ) → suc (suc (2 * i + 1)) ≡ 2 * suc i + 1
    odd i = omega arith

-- a list of whole points has the coordinates of each, past its end too
pub pair-any : (p : List ℕ) → length p ≡ 2 * many p → (i : ℕ) → get_or (pairs_of p) i (0, 0) ≡ (x_at p i, y_at p i)
unfolding pairs_of
pair-any [] e i = refl
pair-any (x ∷ []) e i = absurd (omega arith)
pair-any (x ∷ y ∷ p) e zero = refl
pair-any (x ∷ y ∷ p) e (suc i) =
    pair-any p (omega arith) i ∙ ap₂ (λ (a b : ℕ). (get_or (x ∷ y ∷ p) a 0, get_or (x ∷ y ∷ p) b 0)) (even i) (odd i)
  where
    even : (i : ℕ) → suc (suc (2 * i)) ≡ 2 * suc i
    even i = omega arith

    odd : (i : ℕ) → suc (suc (2 * i + 1)) ≡ 2 * suc i + 1
    odd i = omega arith

-- ---- the numbers of points
pub pairs-numbers : (L : List (ℕ × ℕ)) → pairs_of (numbers_of L) ≡ L
unfolding pairs_of numbers_of
pairs-numbers [] = refl
pairs-numbers (q ∷ L) = ap (λ (l : List (ℕ × ℕ)). q ∷ l) (pairs-numbers L)
