-- Points in doubled coordinates and the f32 numbers that stand for them.
--     numbers-append, length-numbers, length-floats   how many numbers there are
--     x-any, y-any       coordinates by number, past the list's end too
--     points-floats      the numbers of points chosen by number
--     many-floats        as many points;  hull-floats        the hull of the numbers has the numbers of the hull;  quad-floats  and so has the quad
-- Assumes nothing.
use mathlib.Core.Path.{◌≡◌, refl, ap, ap₂, ◌∙◌}
use mathlib.Core.List.{List, [], ◌∷◌, ◌++◌, map}
use Prim.Native.Nat.{ℕ, zero, suc, ◌+◌, ◌*◌}
use native.Mathlib.Omega.{arith}
use lib.Ieee.{Float, round, of_bits}
use lib.ListN.{length, get_or}
use Rattle.ieee.specs.Constants.{0f}
use Rattle.hull.specs.Points.{many, x_at, y_at, points_at, half_of, numbers_of, floats_of}
use Rattle.hull.specs.Hull.{hull_of, hull_floats, hull_points}
use Rattle.hull.specs.Quad.{quad_of, quad_floats, quad_points}

-- ---- numbers of points
pub numbers-append : (l m : List (ℕ × ℕ)) → numbers_of (l ++ m) ≡ numbers_of l ++ numbers_of m
unfolding numbers_of
numbers-append [] m = refl
numbers-append (q ∷ l) m = ap (λ (k : List ℕ). q.0 ∷ q.1 ∷ k) (numbers-append l m)

pub length-numbers : (l : List (ℕ × ℕ)) → length (numbers_of l) ≡ 2 * length l
unfolding numbers_of
length-numbers [] = refl
length-numbers (q ∷ l) = let e = length-numbers l in omega arith

pub length-floats : (l : List (ℕ × ℕ)) → length (floats_of l) ≡ 2 * length l
unfolding floats_of numbers_of
length-floats [] = refl
length-floats (q ∷ l) = two (length (floats_of l)) (length l) (length-floats l)
  where
    two : (a b : ℕ) → a ≡ 2 * b → suc (suc a) ≡ 2 * suc b
    two a b e = omega arith

-- ---- coordinates by number
half-none : 0f ≡ half_of 0
unfolding half_of round of_bits
half-none = refl

pub x-any : (L : List (ℕ × ℕ)) (i : ℕ) → x_at (floats_of L) i ≡ half_of (get_or L i (0, 0)).0
unfolding floats_of numbers_of
x-any [] i = half-none
x-any (q ∷ L) zero = refl
x-any (q ∷ L) (suc i) = ap (λ (k : ℕ). get_or (floats_of (q ∷ L)) k 0f) (two i) ∙ x-any L i
  where
    two : (i : ℕ) → 2 * suc i ≡ suc (suc (2 * i))
    two i = omega arith

pub y-any : (L : List (ℕ × ℕ)) (i : ℕ) → y_at (floats_of L) i ≡ half_of (get_or L i (0, 0)).1
unfolding floats_of numbers_of
y-any [] i = half-none
y-any (q ∷ L) zero = refl
y-any (q ∷ L) (suc i) = ap (λ (k : ℕ). get_or (floats_of (q ∷ L)) k 0f) (two i) ∙ y-any L i
  where
    two : (i : ℕ) → 2 * suc i + 1 ≡ suc (suc (2 * i + 1))
    two i = omega arith

pub points-floats : (L : List (ℕ × ℕ)) (is : List ℕ) → points_at (floats_of L) is ≡ floats_of (map (λ i. get_or L i (0, 0)) is)
points-floats L [] = unfold points_at floats_of numbers_of in refl
points-floats L (i ∷ is) = step (points-floats L is)
  where
    step : points_at (floats_of L) is ≡ floats_of (map (λ i. get_or L i (0, 0)) is)
        → points_at (floats_of L) (i ∷ is) ≡ floats_of (map (λ i. get_or L i (0, 0)) (i ∷ is))
    step e =
        unfold points_at floats_of numbers_of in
        ap₂ (λ (x : Float) (l : List Float). x ∷ l) (x-any L i) (ap₂ (λ (y : Float) (l : List Float). y ∷ l) (y-any L i) e)

pub many-floats : (L : List (ℕ × ℕ)) → many (floats_of L) ≡ length L
many-floats L = let e = length-floats L in omega arith

pub hull-floats : (L : List (ℕ × ℕ)) → hull_floats (floats_of L) ≡ floats_of (hull_points L)
unfolding hull_points
hull-floats L =
    points-floats L (hull_of (floats_of L) (many (floats_of L)))
    ∙ ap (λ (n : ℕ). floats_of (map (λ i. get_or L i (0, 0)) (hull_of (floats_of L) n))) (many-floats L)

pub quad-floats : (L : List (ℕ × ℕ)) → quad_floats (floats_of L) ≡ floats_of (quad_points L)
unfolding quad_points
quad-floats L =
    points-floats L (quad_of (floats_of L) (many (floats_of L)))
    ∙ ap (λ (n : ℕ). floats_of (map (λ i. get_or L i (0, 0)) (quad_of (floats_of L) n))) (many-floats L)
