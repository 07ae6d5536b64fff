-- The ring door's answer, by rules 33 to 36. Definitions only. Assumes nothing.
use Rattle.std.specs.Prelude.{ℕ, zero, suc, List, Float, length}
use Rattle.laws.specs.Said.{Said, refuse, none, give}
use Rattle.ring.specs.Checks.{check_ring}
use Rattle.ring.specs.Trace.{attempt_of}
use Rattle.ring.specs.declared.quads.Trace.{Trace}

-- The trace where no check fails, else the number of the first that does.
unfoldable pub answer_by : ℕ → List ℕ → ℕ → ℕ → List Float → ℕ → Said Trace
answer_by zero gray w h s most = give (attempt_of gray w h s most)
answer_by (suc n) gray w h s most = refuse (suc n)

-- What the door answers; a, b and c are the lengths of the working lists.
unfoldable pub answer_of : List ℕ → ℕ → ℕ → List Float → ℕ → ℕ → ℕ → ℕ → Said Trace
answer_of gray w h s most a b c = answer_by (check_ring w h (length gray) s a b c most) gray w h s most

-- How many places of a working list a call may write: as many as there are numbers, and none where it refuses.
unfoldable pub needed_of : Said Trace → List Float → ℕ
needed_of (give t) s = length s
needed_of (refuse n) s = 0
needed_of none s = 0
