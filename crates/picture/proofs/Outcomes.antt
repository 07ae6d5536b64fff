-- The outcome of the door put together: checks in order, the level grid for the marks, marks for the labels, labels for the regions.
--     the level grid: levelled-of, level-cells-few
--     marks, then labels: mapped
--     the regions of the labels: labelled_by, labels-most, many-most
-- Assumes nothing.
use mathlib.Core.List.{List, ◌++◌}
use mathlib.Core.Path.{◌∙◌, ◌≡◌, ap, ap₂, sym}
use Prim.Native.Nat.{◌*◌, ◌≤◌, ℕ}
use native.Mathlib.Nat.{mul_comm, mul-le-mul}
use native.Mathlib.Omega.{arith}
use lib.ListN.{drop, get_or, length, take}
use Rattle.picture_checks.specs.Picture.{Picture}
use Rattle.labels.proofs.InkCells.{cells-drawn, marks-are, tab-all}
use Rattle.labels.proofs.Pushes.{picture-pushes}
use Rattle.labels.specs.Claims.{Pushes}
use Rattle.labels.specs.Labelling.{State, labelling, picture_labelling}
use Rattle.labels.proofs.Labelled.{cell-most, labelling as labelling-of}
use Rattle.labels.proofs.Pictures.{ink-outside}
use Rattle.labels.specs.Inner.{Levelled, cell_mark_at}
use Rattle.laws.proofs.Counts.{count_most}
use Rattle.laws.proofs.Folds.{is-tab}
use Rattle.laws.proofs.Past.{past_more, past-then, past-written}
use Rattle.laws.proofs.Planes.{plane-drawn}
use Rattle.laws.proofs.Writes.{written-ext}
use Rattle.laws.specs.Lent.{UntouchedPast, laid}
use Rattle.laws.specs.Plane.{Plane, drawn, plane, rowwise}
use Rattle.levels.specs.Level.{cells, level}
use Rattle.picture.specs.Inner.{LabelledBy}
use Rattle.labels.proofs.MovedGroups.{cell-of}
use Rattle.labels.specs.Cells.{cell_label, cells8, cells_of, groups_of, ink_cell, label_at}
use Rattle.labels.specs.Labels.{first?, near}

-- the level grid that marks are made by
pub levelled-of : {s grid : List ℕ} {w h : ℕ} (old : List ℕ) → Picture s w h → grid ≡ drawn (cells w) (cells h) (level (plane w s) w h) old
    → cells w * cells h ≤ length grid → Levelled s w h grid
levelled-of {s} {grid} {w} {h} old picture is room = record {
  picture = picture;
  room = room;
  held = λ x y lx ly. rw is (plane-drawn (cells w) (cells h) (level (plane w s) w h) old x y lx ly);
}

-- there are no fewer region cells than level cells
pub level-cells-few : (w h : ℕ) → cells w * cells h ≤ cells_of w h
level-cells-few w h =
    rw (mul_comm (cells8 h) (cells8 w))
    (mul-le-mul {n₁ = cells w} {m₁ = cells h} {n₂ = cells8 w} {m₂ = cells8 h} (omega arith) (omega arith))

-- ---- marks, then labels, over lists that were used before
module _ (s : List ℕ) {labels worked marked : List ℕ} {w h : ℕ} (picture : Picture s w h) (room : cells_of w h ≤ length labels)
    (past : UntouchedPast (cells w * cells h) labels worked)
    (is : marked ≡ drawn (cells8 w) (cells8 h) (cell_mark_at (plane w s) w h) worked) where
  abbrev p : Plane
  p = plane w s

  pushes : Pushes p w h
  pushes = picture-pushes p w h picture.w-low picture.w-high picture.h-high

  after : {cw ch : ℕ} → cw ≡ cells8 w → ch ≡ cells8 h → labelling cw ch (take (ch * cw) marked) ≡ picture_labelling p w h
  after ew eh = rw (ew, eh) (ap (labelling (cells8 w) (cells8 h)) (marks-are p w h worked is))

  past-marks : UntouchedPast (cells_of w h) labels marked
  past-marks =
      past-then (past_more (cells_of w h) (level-cells-few w h) past)
      (past-written (cells_of w h) (rowwise (cells8 w) (cell_mark_at p w h)) worked (omega (arith, past.same))
      (rw (mul_comm (cells8 w) (cells8 h)) at is))

  pub mapped : {cw ch r : ℕ} {new : List ℕ} → cw ≡ cells8 w → ch ≡ cells8 h → r ≡ (labelling cw ch (take (ch * cw) marked)).given
      → new ≡ laid (labelling cw ch (take (ch * cw) marked)).held marked
      → (r ≡ groups_of p w h) × (new ≡ drawn (cells8 w) (cells8 h) (label_at p w h) labels)
  unfolding label_at
  mapped ew eh all list =
      let held = is-tab (cells_of w h) (cell_label p w h) (picture_labelling p w h).held pushes.size (λ c b. pushes.labels c) in (
        all ∙ ap (λ (σ : State). σ.given) (after ew eh) ∙ pushes.all,
        list
            ∙ ap (λ (σ : State). laid σ.held marked) (after ew eh)
            ∙ ap (λ (k : ℕ). (picture_labelling p w h).held ++ drop k marked) pushes.size
            ∙ ap₂ (λ (a b : List ℕ). a ++ b) held past-marks.past
            ∙ rw (mul_comm (cells8 h) (cells8 w))
            (written-ext (cells8 w * cells8 h) (cell_label p w h) (rowwise (cells8 w) (label_at p w h)) labels
            (λ k b. ap (cell_label p w h) (sym (cell-of (cells8 w) k)))),
      )

-- ---- the regions of the labels
-- the labels that the list holds once they are drawn
pub labelled_by : (s old : List ℕ) (w h : ℕ) {labels : List ℕ} {v : ℕ} → labels ≡ drawn (cells8 w) (cells8 h) (label_at (plane w s) w h) old
    → v ≡ groups_of (plane w s) w h
    → LabelledBy s w h labels v
unfolding label_at
labelled_by s old w h is all = record {
  held = cells-drawn (cells8 w) (cells8 h) (label_at (plane w s) w h) (cell_label (plane w s) w h) old is
      (λ c b. ap (cell_label (plane w s) w h) (cell-of (cells8 w) c));
  all = all;
}

module _ {s labels : List ℕ} {w h v : ℕ} (by : LabelledBy s w h labels v) where
  -- a label is at most the number of labels, past the list's end too
  pub labels-most : (c : ℕ) → get_or (take (cells_of w h) labels) c 0 ≤ v
  labels-most c =
      let p = plane w s in
      omega (
        arith,
        ap (λ (l : List ℕ). get_or l c 0) by.held,
        tab-all (cells_of w h) (cell_label p w h) (λ d b. ((labelling-of p w h).none d).1 (ink-outside p w h d b)) c,
        cell-most p w h c,
        by.all,
      )

  pub many-most : v ≤ cells_of w h
  unfolding groups_of
  many-most = omega (arith, by.all, count_most (first? (ink_cell (plane w s) w h) (near (cells8 w)) (cells_of w h)) (cells_of w h))
