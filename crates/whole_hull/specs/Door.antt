-- The door of the hull in whole numbers: what it answers, and the lent list afterwards. Definitions only. Assumes nothing.
use Rattle.std.specs.Prelude.{List, ℕ, length}
use Rattle.laws.specs.Lent.{laid}
use Rattle.laws.specs.Said.{Said, refuse, none, give}
use Rattle.refusal.specs.Numbers.{answered}
use Rattle.hull.specs.Points.{numbers_of}
use Rattle.doubled.specs.Points.{pairs_of}
use Rattle.doubled.specs.Outline.{hull_whole}
use Rattle.doubled.specs.Checks.{check_hull}

abbrev pub hull_answer : List ℕ → ℕ → Said ℕ
hull_answer p room = answered (check_hull p room) (length (hull_whole (pairs_of p)))

-- The lent list after the call: the vertices in its first places and the rest untouched, or as it was.
abbrev pub hull_after : Said ℕ → List ℕ → List ℕ → List ℕ
hull_after (give n) p old = laid (numbers_of (hull_whole (pairs_of p))) old
hull_after (refuse n) p old = old
hull_after none p old = old
