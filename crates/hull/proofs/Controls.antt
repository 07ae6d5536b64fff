-- Closed cases whose answers come from outside (rule 49's lines on hulls and quads), by computation. Coordinates are doubled. Assumes
-- nothing.
use mathlib.Core.Path.{◌≡◌, refl}
use mathlib.Core.List.{List, [], ◌∷◌}
use Prim.Native.Nat.{ℕ}
use lib.Ieee.{of_bits, round, add, sub, mul, lt, le, eq, is_nan}
use Rattle.ieee.specs.Ops.{sign, before}
use Rattle.whole.specs.Walk.{best_with, lowest_with, next_with, walk_with, hull_with, keep, farthest_with, ends, quad_with}
use Rattle.hull.specs.Points.{half_of, numbers_of, floats_of}
use Rattle.hull.specs.Hull.{cross_at, d2_at, better_at, lower_at, same_at, hull_of, hull_points}
use Rattle.hull.specs.Quad.{lace_at, area_at, quad_of, quad_points}

-- Hull of (0,0), (4,0), (4,4), (0,4), (2,0) is the first four, in that order; its quad too.
star : List (ℕ × ℕ)
star = (0, 0) ∷ (8, 0) ∷ (8, 8) ∷ (0, 8) ∷ (4, 0) ∷ []

star-hull : hull_points star ≡ (0, 0) ∷ (8, 0) ∷ (8, 8) ∷ (0, 8) ∷ []
unfolding star hull_points hull_of hull_with walk_with next_with best_with lowest_with better_at lower_at same_at cross_at d2_at floats_of numbers_of half_of before sign is_nan lt
    eq round of_bits add sub mul
star-hull = refl

star-quad : quad_points ((0, 0) ∷ (8, 0) ∷ (8, 8) ∷ (0, 8) ∷ []) ≡ (0, 0) ∷ (8, 0) ∷ (8, 8) ∷ (0, 8) ∷ []
unfolding quad_points quad_of quad_with farthest_with ends keep cross_at d2_at lace_at area_at floats_of numbers_of half_of lt le eq round of_bits add sub mul
star-quad = refl

-- Hulls: no points 0 vertices; (1,1) twice 1; (0,0), (1,0), (2,0) 2.
none : hull_points [] ≡ []
unfolding hull_points hull_of hull_with walk_with next_with best_with lowest_with better_at lower_at same_at cross_at d2_at floats_of numbers_of half_of before sign is_nan lt eq
    round of_bits add sub mul
none = refl

twice : hull_points ((2, 2) ∷ (2, 2) ∷ []) ≡ (2, 2) ∷ []
unfolding hull_points hull_of hull_with walk_with next_with best_with lowest_with better_at lower_at same_at cross_at d2_at floats_of numbers_of half_of before sign is_nan lt eq
    round of_bits add sub mul
twice = refl

three : hull_points ((0, 0) ∷ (2, 0) ∷ (4, 0) ∷ []) ≡ (0, 0) ∷ (4, 0) ∷ []
unfolding hull_points hull_of hull_with walk_with next_with best_with lowest_with better_at lower_at same_at cross_at d2_at floats_of numbers_of half_of before sign is_nan lt eq
    round of_bits add sub mul
three = refl
