-- What labels are, of rules 9 to 13, of every picture with sides of any length; and that the labelling of a picture pushes each cell no
-- more than once. Cells are numbers in row order. Statements only.
use Rattle.std.specs.Prelude.{◌≡◌, ◌↔◌, true, false, ℕ, suc, ◌<◌, ◌≤◌, get_or, length}
use Rattle.laws.specs.Plane.{Plane}
use Rattle.laws.specs.Lists.{NoDup}
use Rattle.labels.specs.Labels.{Linked, near}
use Rattle.labels.specs.Cells.{cells8, cells_of, ink_cell, cell_label, groups_of}
use Rattle.labels.specs.Labelling.{State, marked_cells, picture_labelling, Reached}

-- Cell c is an ink cell, and the first of its label in row order.
pub record IsFirst (p : Plane) (w h c : ℕ) : Type 0 where
  pub ink : ink_cell p w h c ≡ true
  pub before : (d : ℕ) → d < c → ¬ (cell_label p w h d ≡ cell_label p w h c)

pub record Labelling (p : Plane) (w h : ℕ) : Type 0 where
  -- "Two ink cells share a label if and only if linked by ink cells at Chebyshev steps of at most 3."
  pub shared : (a b : ℕ) → ink_cell p w h a ≡ true → ink_cell p w h b ≡ true
      → (cell_label p w h a ≡ cell_label p w h b) ↔ Linked (ink_cell p w h) (near (cells8 w)) a b
  -- "Labels count from 1": the labels of ink cells are the numbers from 1 to how many groups there are, each of them,
  pub most : (c : ℕ) → ink_cell p w h c ≡ true → (1 ≤ cell_label p w h c) × (cell_label p w h c ≤ groups_of p w h)
  pub each : (i : ℕ) → i < groups_of p w h → (c : ℕ) × (c < cells_of w h) × (cell_label p w h c ≡ suc i)
  -- "by first cell in row order";
  pub ordered : (a b : ℕ) → IsFirst p w h a → IsFirst p w h b → a < b → cell_label p w h a < cell_label p w h b
  -- "0 is no ink."
  pub none : (c : ℕ) → (cell_label p w h c ≡ 0) ↔ (ink_cell p w h c ≡ false)

unfoldable pub LabelsCount : Type 0
LabelsCount = (p : Plane) (w h : ℕ) → Labelling p w h

-- ---- the cell stack
-- No cell is pushed twice; so no more are pushed than there are, n, and the stack holds no more.
pub record EachOnce (n : ℕ) (σ : State) : Type 0 where
  pub once : NoDup σ.pushed
  pub few : length σ.pushed ≤ n
  pub depth : length σ.stack ≤ n

-- The labelling of a picture: it gives each cell its label, and each state on its way is one in which no cell was pushed twice.
pub record Pushes (p : Plane) (w h : ℕ) : Type 0 where
  pub size : length (picture_labelling p w h).held ≡ cells_of w h
  pub labels : (c : ℕ) → get_or (picture_labelling p w h).held c 0 ≡ cell_label p w h c
  pub all : (picture_labelling p w h).given ≡ groups_of p w h
  pub way : Reached (marked_cells p w h) (picture_labelling p w h)
  pub each : (σ : State) → Reached (marked_cells p w h) σ → EachOnce (cells_of w h) σ

unfoldable pub PushedOnce : Type 0
PushedOnce = (p : Plane) (w h : ℕ) → 1 ≤ w → w ≤ 4096 → h ≤ 4096 → Pushes p w h
