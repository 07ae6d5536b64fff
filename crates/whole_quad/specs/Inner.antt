-- What the loops of the quad hold on their way: values by the numbers of a list. A turn is the difference of two sums of products, so that
-- no number is below 0. Definitions only. Assumes nothing.
use Rattle.std.specs.Prelude.{true, false, List, map, ℕ, ◌+◌, ◌-◌, ◌*◌, ltb}
use Rattle.laws.specs.Lists.{range}
use Rattle.laws.specs.Gap.{gap}
use Rattle.whole.specs.Walk.{keep, with-i}
use Rattle.hull.specs.Points.{many}
use Rattle.doubled.specs.Points.{x_at, y_at}

-- The turn from point o over a to b is the first of these less the second.
unfoldable pub turn_l : List ℕ → ℕ → ℕ → ℕ → ℕ
turn_l p o a b = x_at p a * y_at p b + x_at p b * y_at p o + x_at p o * y_at p a

unfoldable pub turn_r : List ℕ → ℕ → ℕ → ℕ → ℕ
turn_r p o a b = y_at p a * x_at p b + y_at p b * x_at p o + y_at p o * x_at p a

-- How far point i lies on the right of the way from a to b, counted from 268,435,456 on the way itself; less than that on the left.
unfoldable pub side_at : List ℕ → ℕ → ℕ → ℕ → ℕ
side_at p a b i = 268435456 + turn_l p a b i - turn_r p a b i

-- The difference of two numbers.
-- The squared distance of points a and b.
unfoldable pub d2_at : List ℕ → ℕ → ℕ → ℕ
d2_at p a b = gap (x_at p a) (x_at p b) * gap (x_at p a) (x_at p b) + gap (y_at p a) (y_at p b) * gap (y_at p a) (y_at p b)

-- One more than that of a pair: 0 is below every distance.
unfoldable pub apart : List ℕ → ℕ × ℕ → ℕ
apart p q = d2_at p q.0 q.1 + 1

-- One step of a fold that keeps the first of the greatest.
unfoldable pub kept1 : {T : Type 0} → (T → ℕ) → T → ℕ → T → T × ℕ
kept1 g x u y = elim (ltb u (g y)) [ true ↦ (y, g y) | false ↦ (x, u) ]

-- The pair of point i with a later point that is farthest apart, with one more than its squared distance; 0 where none is later.
unfoldable pub far_from : List ℕ → ℕ → (ℕ × ℕ) × ℕ
far_from p i = keep ltb (apart p) (0, 0) 0 (map (with-i i) (range (i + 1) (many p - (i + 1))))

unfoldable pub reach_of : List ℕ → ℕ → ℕ
reach_of p i = (far_from p i).1

-- The point farthest out on the right of the way from a to b, with its side; a point st where there is none.
unfoldable pub most_of : List ℕ → ℕ → ℕ → ℕ → ℕ × ℕ
most_of p a b st = keep ltb (side_at p a b) st 268435456 (range 0 (many p))
