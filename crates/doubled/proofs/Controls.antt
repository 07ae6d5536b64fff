-- Closed cases whose answers come from outside, by computation: rule 49's lines on hulls and quads, and the four points of which f32
-- loses one, at 4,096 a side. Coordinates are doubled. Assumes nothing.
use mathlib.Core.Path.{◌≡◌, refl}
use mathlib.Core.List.{[], ◌∷◌}
use Rattle.whole.specs.Numbers.{◌⊕◌, ◌⊗◌, neg, 𝟘, 𝟙}
use Rattle.whole.specs.Points.{cross, d2, pt_at, origin}
use Rattle.whole.specs.Hull.{better, lower, same_pt}
use Rattle.whole.specs.Quad.{area, lace}
use Rattle.whole.specs.Walk.{best_with, lowest_with, next_with, walk_with, hull_with, whole_tests, keep, farthest_with, ends, quad_with, whole_ops}
use Rattle.hull.specs.Points.{pt_of}
use Rattle.doubled.specs.Outline.{hull_whole, quad_whole}

-- Hull of (0,0), (4,0), (4,4), (0,4), (2,0) is the first four, in that order; its quad too.
star-hull : hull_whole ((0, 0) ∷ (8, 0) ∷ (8, 8) ∷ (0, 8) ∷ (4, 0) ∷ []) ≡ (0, 0) ∷ (8, 0) ∷ (8, 8) ∷ (0, 8) ∷ []
unfolding hull_whole hull_with walk_with next_with best_with lowest_with whole_tests better lower same_pt pt_at origin pt_of cross d2 ◌⊕◌ ◌⊗◌ neg
star-hull = refl

star-quad : quad_whole ((0, 0) ∷ (8, 0) ∷ (8, 8) ∷ (0, 8) ∷ []) ≡ (0, 0) ∷ (8, 0) ∷ (8, 8) ∷ (0, 8) ∷ []
unfolding quad_whole quad_with farthest_with ends keep whole_ops area lace pt_at origin pt_of cross d2 ◌⊕◌ ◌⊗◌ neg 𝟘 𝟙
star-quad = refl

-- Hulls: no points 0 vertices; (1,1) twice 1; (0,0), (1,0), (2,0) 2.
none : hull_whole [] ≡ []
unfolding hull_whole hull_with walk_with
none = refl

twice : hull_whole ((2, 2) ∷ (2, 2) ∷ []) ≡ (2, 2) ∷ []
unfolding hull_whole hull_with walk_with next_with best_with lowest_with whole_tests better lower same_pt pt_at origin pt_of cross d2 ◌⊕◌ ◌⊗◌ neg
twice = refl

three : hull_whole ((0, 0) ∷ (2, 0) ∷ (4, 0) ∷ []) ≡ (0, 0) ∷ (4, 0) ∷ []
unfolding hull_whole hull_with walk_with next_with best_with lowest_with whole_tests better lower same_pt pt_at origin pt_of cross d2 ◌⊕◌ ◌⊗◌ neg
three = refl

-- (4096,0), (0,0), (3588.5,3994), (500,556.5): all four are vertices, and f32 loses the last.
large : hull_whole ((8192, 0) ∷ (0, 0) ∷ (7177, 7988) ∷ (1000, 1113) ∷ []) ≡ (0, 0) ∷ (8192, 0) ∷ (7177, 7988) ∷ (1000, 1113) ∷ []
unfolding hull_whole hull_with walk_with next_with best_with lowest_with whole_tests better lower same_pt pt_at origin pt_of cross d2 ◌⊕◌ ◌⊗◌ neg
large = refl
