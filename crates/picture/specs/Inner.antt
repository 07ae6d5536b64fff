-- What the picture door's inner functions keep: the checks of the lent lists, also as facts, and the labels of a picture in a lent list.
-- Definitions only. Assumes nothing.
use Rattle.std.specs.Prelude.{List, ◌≡◌, ℕ, ◌*◌, ◌≤◌, leb, take}
use Rattle.laws.specs.Check.{or_refuse}
use Rattle.laws.specs.Fold.{tab}
use Rattle.laws.specs.Plane.{plane}
use Rattle.levels.specs.Level.{cells}
use Rattle.labels.specs.Cells.{cells_of, cell_label, groups_of}

-- 3: a lent list shorter than its cells, of which there are a of the level grid and n of the labels and of the stack.
abbrev pub check_lists : ℕ → ℕ → ℕ → ℕ → ℕ → ℕ
check_lists a n grid labels stack =
    or_refuse (leb a grid) 3
    (or_refuse (leb n labels) 3
    (or_refuse (leb n stack) 3
    0))

-- What the checks of the lent lists tell where none refuses: the places that they have.
pub record ListRooms (w h grid labels stack : ℕ) : Type 0 where
  pub grids : cells w * cells h ≤ grid
  pub label : cells_of w h ≤ labels
  pub room : cells_of w h ≤ stack

-- A list holds the labels of a picture, of which there are v.
pub record LabelledBy (s : List ℕ) (w h : ℕ) (labels : List ℕ) (v : ℕ) : Type 0 where
  pub held : take (cells_of w h) labels ≡ tab (cells_of w h) (cell_label (plane w s) w h)
  pub all : v ≡ groups_of (plane w s) w h
