-- The doors accept the numbers of points in doubled coordinates, and those of the vertices of their hull.
--     hull-good, quad-good               lists of at most 16,384 points with coordinates up to 8,192
--     fewer                              no more vertices than points
-- Assumes nothing.
use mathlib.Core.Path.{◌≡◌, refl, sym, ap, ◌∙◌}
use mathlib.Core.Bool.{true}
use mathlib.Core.List.Memᴰ
use mathlib.Core.List.{List, [], ◌∷◌}
use Prim.Native.Nat.{ℕ, zero, suc, ◌+◌, ◌*◌, ◌%◌, ◌≤◌}
use native.Mathlib.Omega.{arith}
use lib.Dec.{leb, eqb}
use lib.ListN.{length, get_or}
use borrow.Author.Tests.{le-leb, eq-eqb}
use Rattle.hull.proofs.Floats.{length-numbers}
use Rattle.laws.proofs.Bools.{both}
use Rattle.whole.specs.Hull.{hull}
use Rattle.whole.proofs.IsHull.{hull-is}
use Rattle.whole.proofs.Run.{pigeon}
use Rattle.picture_checks.specs.Points.{is_points}
use Rattle.hull.specs.Points.{pts_of, numbers_of, UpTo}
use Rattle.hull.proofs.Exact.{length-pts}
use Rattle.doubled.specs.Outline.{hull_whole}
use Rattle.doubled.specs.Checks.{coordinates_on, check_hull, check_quad}
use Rattle.doubled.proofs.Exact.{hull-pts}

-- every number of the points is a coordinate
number-at : (L : List (ℕ × ℕ)) → UpTo 8192 L → (i : ℕ) → get_or (numbers_of L) i 0 ≤ 8192
unfolding numbers_of
number-at [] up i = omega arith
number-at (q ∷ L) up zero = (up q (Memᴰ.head refl)).0
number-at (q ∷ L) up (suc zero) = (up q (Memᴰ.head refl)).1
number-at (q ∷ L) up (suc (suc i)) = number-at L (λ r m. up r (Memᴰ.tail m)) i

good : (p : List ℕ) → ((i : ℕ) → get_or p i 0 ≤ 8192) → (d k : ℕ) → coordinates_on p d k ≡ true
unfolding coordinates_on
good p all zero k = refl
good p all (suc d) k = both (leb (get_or p k 0) 8192) (coordinates_on p d (k + 1)) (le-leb (get_or p k 0) 8192 (all k)) (good p all d (k + 1))

points-good : (n : ℕ) → n ≤ 16384 → is_points (2 * n) ≡ true
points-good n l = both (eqb (2 * n % 2) 0) (leb (2 * n) 32768) (eq-eqb (2 * n % 2) 0 (omega arith)) (le-leb (2 * n) 32768 (omega arith))

pub hull-good : (L : List (ℕ × ℕ)) → UpTo 8192 L → length L ≤ 16384 → (room : ℕ) → 2 * length L ≤ room → check_hull (numbers_of L) room ≡ 0
hull-good L up few room fit =
    rw (
      length-numbers L,
      points-good (length L) few,
      le-leb (2 * length L) room fit,
      good (numbers_of L) (number-at L up) (2 * length L) 0,
    )

pub quad-good : (L : List (ℕ × ℕ)) → UpTo 8192 L → length L ≤ 16384 → check_quad (numbers_of L) ≡ 0
quad-good L up few =
    rw (length-numbers L, points-good (length L) few, good (numbers_of L) (number-at L up) (2 * length L) 0)

pub fewer : (L : List (ℕ × ℕ)) → length (hull_whole L) ≤ length L
fewer L =
    let r = hull-is (pts_of L) in
    let e : length (hull (pts_of L)) ≡ length (hull_whole L) = ap length (sym (hull-pts L)) ∙ length-pts (hull_whole L) in
    let f = length-pts L in
    let g = pigeon (hull (pts_of L)) (pts_of L) r.distinct r.points in
    omega arith
