-- The hull's door, with refusal 3: what `convex_hull` answers and leaves in the lent list. Definitions only. Assumes nothing.
use Rattle.std.specs.Prelude.{List, ℕ, leb, length, Float}
use Rattle.laws.specs.Check.{or_refuse}
use Rattle.laws.specs.Said.{Said, refuse, none, give}
use Rattle.laws.specs.Lent.{laid}
use Rattle.hull.specs.Points.{many}
use Rattle.hull.specs.Hull.{hull_of, hull_floats}

-- How many vertices the hull of the points l has. 3: a lent list of `room` places has fewer numbers than l
abbrev pub hulled : List Float → ℕ → Said ℕ
hulled l room =
    or_refuse (leb (length l) room) (refuse 3)
    (give (length (hull_of l (many l))))

-- The lent list after the call: the vertices in its first places and the rest untouched, or as it was
abbrev pub vertices_after : Said ℕ → List Float → List Float → List Float
vertices_after (give n) l old = laid (hull_floats l) old
vertices_after (refuse r) l old = old
vertices_after none l old = old
