-- The finder's entry, as ring.rs has it in `trace` and `detect_ring`: which outlines are tried, which trace stands, and what the entry
-- answers and leaves. `gray` holds the picture's bytes, w and h are its sides. Definitions only. Assumes nothing.
use Rattle.std.specs.Prelude.{ℕ, zero, suc, ◌+◌, Bool, cond, ◌&&◌, List, leb, ltb, None}
use Rattle.laws.specs.Move.{box_at}
use Rattle.laws.specs.Check.{or_refuse}
use Rattle.laws.specs.Fold.{bit}
use Rattle.laws.specs.Plane.{Plane, plane}
use Rattle.laws.specs.Said.{Said, refuse, none, give}
use Rattle.lcr_core.specs.Version.{is_version}
use Rattle.labels.specs.Cells.{groups_of}
use Rattle.regions.specs.Kept.{kept_count, kept_label}
use Rattle.picture.specs.Door.{check_grids}
use Rattle.boundary.specs.Boundary.{is_member, boundary, outline_of}
use Rattle.region_outline.specs.Region.{need_of}
use Rattle.hull.specs.Points.{floats_of}
use Rattle.ring.specs.Trace.{is_fixed, first_of, short_trace, attempt_of}
use Rattle.ring.specs.Checks.{has_room}
use Rattle.ring.specs.declared.quads.Trace.{Trace}
use Rattle.finder.specs.declared.Found.{Found}

-- ---- what is tried
-- How many outlines are tried: one a kept region, and all ink together where there is more than one region, kept or not.
unfoldable pub tries_of : Plane → ℕ → ℕ → ℕ
tries_of p w h = kept_count p w h + bit (ltb 1 (groups_of p w h))

-- The points of all ink together: of any label, in the whole picture's box.
abbrev pub all_ink : Plane → ℕ → ℕ → List (ℕ × ℕ)
all_ink p w h = boundary 4 (is_member p w h 0) (box_at 0 0 w h)

-- The points of try i: the outline of the i-th kept region, and past these all ink.
unfoldable pub try_points : Plane → ℕ → ℕ → ℕ → List (ℕ × ℕ)
try_points p w h i = cond (ltb i (kept_count p w h)) (outline_of 4 p w h (kept_label p w h i)) (all_ink p w h)

-- The trace of try i.
unfoldable pub try_of : List ℕ → ℕ → ℕ → ℕ → ℕ → Trace
try_of gray w h most i = attempt_of gray w h (floats_of (try_points (plane w gray) w h i)) most

-- ---- which trace stands
-- Of the first n traces of f: the first with a fix, else the first of those with the greatest top score; none is the empty trace.
unfoldable pub best_trace : (ℕ → Trace) → ℕ → Trace
best_trace f zero = short_trace 0
best_trace f (suc zero) = f 0
best_trace f (suc (suc n)) = first_of (best_trace f (suc n)) (f (suc n))

-- Without a fix the fallback is promoted to it.
unfoldable pub promoted_of : Trace → Trace
promoted_of t =
    cond (is_fixed t.fix) t
    (record { hull = t.hull; quad = t.quad; scores = t.scores; fix = t.fallback; fallback = None })

-- The trace of a picture.
unfoldable pub trace_of : List ℕ → ℕ → ℕ → ℕ → Trace
trace_of gray w h most = promoted_of (best_trace (try_of gray w h most) (tries_of (plane w gray) w h))

-- ---- the checks
-- Four lists of lengths a, b, c and d have n numbers or more.
abbrev pub has_rooms : ℕ → ℕ → ℕ → ℕ → ℕ → Bool
has_rooms n a b c d = leb n a && has_room n b c d

-- What follows where a number is no refusal, else that refusal.
abbrev pub then_check : ℕ → ℕ → ℕ
then_check zero rest = rest
then_check (suc n) rest = suc n

-- The picture door's 1, 2 and 3, then 3: a list of numbers too short. 8: a greatest version outside 1..64. 0: no refusal.
abbrev pub check_find : ℕ → ℕ → ℕ → ℕ → ℕ → ℕ → ℕ → ℕ → ℕ → ℕ → ℕ → ℕ
check_find w h bytes levels labels stack a b c d most =
    then_check (check_grids w h bytes levels labels stack)
    (or_refuse (has_rooms (need_of w h) a b c d) 3
    (or_refuse (is_version most) 8 0))

-- ---- the answer, and the lent lists
-- The answer by the number of the first check that fails, 0 where none does: how many regions there are, and the trace.
unfoldable pub answer_by : ℕ → List ℕ → ℕ → ℕ → ℕ → Said Found
answer_by zero gray w h most = give (record { regions = groups_of (plane w gray) w h; trace = trace_of gray w h most })
answer_by (suc n) gray w h most = refuse (suc n)

-- How many places of a list of numbers a call may write, of n: none where it refuses.
unfoldable pub needed_of : {A : Type 0} → Said A → ℕ → ℕ
needed_of (give a) n = n
needed_of none n = 0
needed_of (refuse k) n = 0
