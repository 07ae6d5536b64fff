-- Closed cases whose answers come from outside (rule 49's lines and the example of README), by computation. Assumes nothing.
use mathlib.Core.Path.{◌≡◌, refl}
use mathlib.Core.Bool.{Bool, ◌&&◌}
use mathlib.Core.List.Memᴰ
use mathlib.Core.List.{List, [], ◌∷◌}
use Prim.Native.Nat.{ℕ, ◌+◌}
use lib.Dec.{leb, ltb}
use lib.ListN.{length}
use lib.Ieee.{of_bits, round, add, sub, mul, lt, le, eq, is_nan}
use Rattle.laws.specs.Fold.{first, end_of, joined}
use native.Mathlib.Omega.{arith}
use Rattle.laws.specs.Move.{flipped, is_flipped, Box}
use Rattle.ieee.specs.Ops.{sign, before}
use Rattle.whole.specs.Numbers.{◌⊕◌, neg}
use Rattle.whole.specs.Points.{Rot}
use Rattle.whole.specs.Hull.{same_pt}
use Rattle.whole.specs.Moves.{mirror, often, moved_point, moved_round}
use Rattle.whole.proofs.Reordered.{rot-same}
use Rattle.whole.specs.Walk.{best_with, lowest_with, next_with, walk_with, hull_with, keep, farthest_with, ends, quad_with}
use Rattle.boundary.specs.Runs.{some, every, run_at, in_run, run_start, run_end, edges}
use Rattle.boundary.specs.Boundary.{row_points, column_points, rows_from, columns_from, boundary}
use Rattle.hull.specs.Points.{pt_of, pts_of, half_of, numbers_of, floats_of}
use Rattle.hull.specs.Hull.{cross_at, d2_at, better_at, lower_at, same_at, hull_of, hull_points}
use Rattle.hull.specs.Quad.{lace_at, area_at, quad_of, quad_points}
use Rattle.whole.proofs.Rounds.{mem-often}

-- a line of 10 pixels with members from 2 to 2 + n
from2 : ℕ → ℕ → Bool
from2 n i = leb 2 i && ltb i (2 + n)

-- A run of 3 gives nothing, of 4 its ends.
run-3 : edges 4 10 (from2 3) 0 ≡ []
unfolding edges run_start run_end first end_of in_run run_at some every from2
run-3 = refl

run-4 : edges 4 10 (from2 4) 0 ≡ 4 ∷ 12 ∷ []
unfolding edges run_start run_end first end_of in_run run_at some every from2
run-4 = refl

-- The example of README: members at x and y from 16 to 47.
square : ℕ → ℕ → Bool
square x y = (leb 16 x && ltb x 48) && (leb 16 y && ltb y 48)

frame : Box
frame = record { x0 = 16; y0 = 16; x1 = 48; y1 = 48 }

square-points : length (boundary 4 square frame) ≡ 128
unfolding square frame boundary rows_from columns_from joined row_points column_points edges run_start run_end first end_of in_run run_at some every
square-points = refl

square-hull : hull_points (boundary 4 square frame)
    ≡ (32, 33) ∷ (33, 32) ∷ (95, 32) ∷ (96, 33) ∷ (96, 95) ∷ (95, 96) ∷ (33, 96) ∷ (32, 95) ∷ []
unfolding square frame boundary rows_from columns_from joined row_points column_points edges run_start run_end first end_of in_run run_at some every
    hull_points hull_of hull_with walk_with next_with best_with lowest_with better_at lower_at same_at cross_at d2_at floats_of numbers_of half_of before sign is_nan lt eq round
    of_bits add sub mul
square-hull = refl

square-quad : quad_points ((32, 33) ∷ (33, 32) ∷ (95, 32) ∷ (96, 33) ∷ (96, 95) ∷ (95, 96) ∷ (33, 96) ∷ (32, 95) ∷ [])
    ≡ (32, 33) ∷ (95, 32) ∷ (96, 95) ∷ (33, 96) ∷ []
unfolding quad_points quad_of quad_with farthest_with ends keep cross_at d2_at lace_at area_at floats_of numbers_of half_of lt le eq round of_bits add sub mul
square-quad = refl

-- That picture is its own mirror image, and its quad is not: the conditions of demand 3 on quads are needed.
corners : List (ℕ × ℕ)
corners = (32, 33) ∷ (95, 32) ∷ (96, 95) ∷ (33, 96) ∷ []

not_there : often (pt_of (32, 33)) (moved_round flipped 64 64 (pts_of corners)) ≡ 0
unfolding corners often moved_round is_flipped moved_point mirror pt_of same_pt ◌⊕◌ neg
not_there = refl

square-mirrored : Rot (moved_round flipped 64 64 (pts_of corners)) (pts_of corners) → ⊥
unfolding corners
square-mirrored r = omega (
  arith,
  not_there,
  mem-often
      ((rot-same (moved_round flipped 64 64 (pts_of corners)) (pts_of corners) r (pt_of (32, 33))).1 (Memᴰ.head refl)),
)
