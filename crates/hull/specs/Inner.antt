-- What the loops of the hull and the quad hold on their way. Definitions only. Assumes nothing.
use Rattle.std.specs.Prelude.{Bool, true, false, List, ℕ, Float}
use Rattle.std.specs.Float.Ieee.{lt}
use Rattle.laws.specs.Lists.{range}
use Rattle.whole.specs.Walk.{lowest_with}
use Rattle.hull.specs.Points.{many}
use Rattle.hull.specs.Hull.{d2_at, hull_tests}

-- The number of the first vertex.
unfoldable pub start_of : List Float → ℕ
start_of p = lowest_with (hull_tests p) 0 (range 0 (many p))

-- Which test keeps a side: below, or above.
abbrev pub keeps : Bool → Float → Float → Bool
keeps false u s = lt u s
keeps true u s = lt s u

-- One step of a fold that keeps the last candidate that passed.
unfoldable pub kept1 : (Float → Float → Bool) → (ℕ → Float) → ℕ → Float → ℕ → ℕ × Float
kept1 t g x u i = elim (t u (g i)) [ true ↦ (i, g i) | false ↦ (x, u) ]

-- The squared distance of a pair.
abbrev pub apart : List Float → ℕ × ℕ → Float
apart p q = d2_at p q.0 q.1

-- The same step over pairs, by their distance.
unfoldable pub kept2 : List Float → ℕ → ℕ → Float → ℕ → ℕ → (ℕ × ℕ) × Float
kept2 p a b far i j = elim (lt far (d2_at p i j)) [ true ↦ ((i, j), d2_at p i j) | false ↦ ((a, b), far) ]
