-- The picture door, by rules 14 and 15: its answer, and what it leaves in the lent lists.
-- `s` holds the picture's bytes, w and h are its sides. Definitions only. Assumes nothing.
use Rattle.std.specs.Prelude.{Bool, true, false, cond, List, ◌≡◌, ℕ, zero, suc, ◌*◌, eqb, leb, length}
use Rattle.laws.specs.Lent.{UntouchedPast}
use Rattle.laws.specs.Check.{or_refuse}
use Rattle.laws.specs.Said.{Said, refuse, give}
use Rattle.picture_checks.specs.Picture.{check_picture}
use Rattle.laws.specs.Plane.{plane, drawn}
use Rattle.levels.specs.Level.{cells, level}
use Rattle.labels.specs.Cells.{cells8, cells_of, label_at}
use Rattle.regions.specs.declared.answer.Kept.{Kept}
use Rattle.regions.specs.Regions.{kept_regions}

-- ---- the checks

-- 3: a lent grid shorter than its cells, or the stack shorter than the region cells. 0 is no refusal.
abbrev pub check_grids : ℕ → ℕ → ℕ → ℕ → ℕ → ℕ → ℕ
check_grids w h bytes grid labels stack =
    check_picture w h bytes
    (or_refuse (leb (cells w * cells h) grid) 3
    (or_refuse (leb (cells_of w h) labels) 3
    (or_refuse (leb (cells_of w h) stack) 3
    0)))

-- ---- the answer, and the lent lists

-- The answer by the number of the refusal, 0 where there is none.
abbrev pub answer_by : ℕ → Kept → Said Kept
answer_by zero k = give k
answer_by (suc n) k = refuse (suc n)

-- The answer for a picture s and lent lists of so many places.
abbrev pub picture_answer : List ℕ → ℕ → ℕ → ℕ → ℕ → ℕ → Said Kept
picture_answer s w h grid labels stack = answer_by (check_grids w h (length s) grid labels stack) (kept_regions (plane w s) w h)

-- By the answer's number n: the level grid and the labels after the call.
abbrev pub levels_after : ℕ → List ℕ → ℕ → ℕ → List ℕ → List ℕ
levels_after n s w h old = cond (eqb n 0) (drawn (cells w) (cells h) (level (plane w s) w h) old) old

abbrev pub labels_after : ℕ → List ℕ → ℕ → ℕ → List ℕ → List ℕ
labels_after n s w h old = cond (eqb n 0) (drawn (cells8 w) (cells8 h) (label_at (plane w s) w h) old) old

-- The stack after the call: a working list of which n places are needed where the regions are given.
abbrev pub StackBy : Bool → ℕ → List ℕ → List ℕ → Type 0
StackBy true n old new = UntouchedPast n old new
StackBy false n old new = new ≡ old

abbrev pub StackAfter : ℕ → ℕ → ℕ → List ℕ → List ℕ → Type 0
StackAfter n w h old new = StackBy (eqb n 0) (cells_of w h) old new
