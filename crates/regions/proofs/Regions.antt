-- A kept region has a cell. The regions of a moved picture: as many, and as many kept, of which the i-th has the moved cells, the moved
-- box and as many cells.
--     a kept region of any picture: so many are large enough, and the region has a cell: region-cell
--     the moved picture: group-count-of, kept-count-of, label-is', size_of, region-of, cell-box-of, region-finer, box_of_lem, region-in
-- Assumes nothing.
use mathlib.Core.Path.{◌≡◌, refl, sym, ap, ap₂, ◌∙◌}
use mathlib.Core.Logic.{◌↔◌, ⊎_elim}
use mathlib.Core.Bool.{Bool, true}
use Prim.Native.Nat.{ℕ, suc, ◌+◌, ◌*◌, ◌/◌, ◌%◌, ◌≤◌, ◌<◌, min}
use native.Mathlib.Omega.{arith}
use native.Mathlib.Nat.{min-le_right}
use lib.Dec.{eqb}
use borrow.Author.Tests.{eq-eqb}
use Rattle.laws.specs.Plane.{Plane, Alike}
use Rattle.laws.specs.Count.{count}
use Rattle.laws.specs.Move.{Move, wide_of, high_of, moved, place_of, box_of}
use Rattle.laws.proofs.Bools.{which}
use Rattle.laws.proofs.Moves.{place-within, sides-times}
use Rattle.labels.specs.Labels.{near, label, NearGrid}
use Rattle.labels.specs.Cells.{cells8, cell, ink_cell, cells_of, cell_label, label_at, groups_of, group_size}
use Rattle.regions.specs.Kept.{want, kept_of, kept_at, kept_count, kept_label}
use Rattle.regions.specs.Boxes.{lowest, highest, cell_box, region_box}
use Rattle.labels.proofs.Graph.{label-none, label-ink}
use Rattle.labels.proofs.MovedGroups.{Carry, undo, cell-column, cell_row, column-lt, row_lt, moved-groups}
use Rattle.regions.proofs.Boxes.{highest-le}
use Rattle.regions.proofs.MovedBox.{lowest-lower, highest-upper, Pair, group, group-self, move-pair}
use Rattle.labels.proofs.Order.{cell_of, cell-of, sized, renumber, renumber-is, renumber-lt, renumber-back, moved-sized}
use Rattle.labels.proofs.Moving.{cell_to, cell-to}
use Rattle.labels.proofs.Pictures.{grid-of, picture-carry, cell-ink-of, wide-cells, high-cells, ink-inside}
use Rattle.regions.proofs.Kept.{Anew, Untied, kept-at, many-same, kept_same, kept-anew}
use Rattle.regions.proofs.BoxMoves.{box_by, box-pair, box-place, box≡, finer_box, box-finer}

-- ---- a kept region of any picture: so many are large enough, and the region has a cell

-- the first cell of the i-th
abbrev lead_cell : Plane → ℕ → ℕ → ℕ → ℕ
lead_cell p w h i = cell_of (ink_cell p w h) (near (cells8 w)) (cells_of w h) (kept_at (group_size p w h) (groups_of p w h) i)

module _ (p : Plane) (w h i : ℕ) (l : i < kept_count p w h) where
  enough : i < count (want (group_size p w h)) (groups_of p w h)
  unfolding kept_count kept_of
  enough = omega arith

  kept-lt : kept_at (group_size p w h) (groups_of p w h) i < groups_of p w h
  kept-lt = (kept-at (group_size p w h) (groups_of p w h) i enough).below

  lead_is : (ink_cell p w h (lead_cell p w h i) ≡ true)
      × (label (ink_cell p w h) (near (cells8 w)) (cells_of w h) (lead_cell p w h i) ≡ suc (kept_at (group_size p w h) (groups_of p w h) i))
  unfolding groups_of
  lead_is = cell-of (ink_cell p w h) (near (cells8 w)) (cells_of w h) (grid-of p w h) (kept_at (group_size p w h) (groups_of p w h) i) kept-lt

  label_is : cell_label p w h (lead_cell p w h i) ≡ kept_label p w h i
  unfolding cell_label kept_label
  label_is = lead_is.1

  -- there is a cell
  pub region-cell : (d : ℕ) × (d < cells_of w h) × (cell_label p w h d ≡ kept_label p w h i)
  region-cell = (lead_cell p w h i, ink-inside p w h (lead_cell p w h i) lead_is.0, label_is)

-- ---- the moved picture

-- No two groups of 16 or more cells have equal counts: the same as the law of the order asks.
module _ (m : Move) (W H : ℕ) (pos_w : 0 < W) (pos_h : 0 < H) (p p' : Plane)
    (same : Alike (wide_of m (16 * W) (16 * H)) (high_of m (16 * W) (16 * H)) p' (moved m (16 * W) (16 * H) p)) where
  abbrev w : ℕ
  w = 16 * W

  abbrev h : ℕ
  h = 16 * H

  abbrev w' : ℕ
  w' = wide_of m w h

  abbrev h' : ℕ
  h' = high_of m w h

  abbrev a : ℕ
  a = cells8 w

  abbrev b : ℕ
  b = cells8 h

  abbrev ink : ℕ → Bool
  ink = ink_cell p w h

  abbrev ink' : ℕ → Bool
  ink' = ink_cell p' w' h'

  abbrev n : ℕ
  n = cells_of w h

  abbrev n' : ℕ
  n' = cells_of w' h'

  abbrev g : NearGrid ink (near a) n
  g = grid-of p w h

  abbrev g' : NearGrid ink' (near (cells8 w')) n'
  g' = grid-of p' w' h'

  abbrev f : ℕ → ℕ
  f = cell_to m a b (cells8 w')

  abbrev carry : Carry ink (near a) ink' (near (cells8 w')) f
  carry = picture-carry m W H pos_w pos_h p p' same

  abbrev r : ℕ → ℕ
  r = renumber ink (near a) n ink' (near (cells8 w')) n' f

  abbrev r' : ℕ → ℕ
  r' = renumber ink' (near (cells8 w')) n' ink (near a) n carry.back

  anew : Anew (group_size p w h) (groups_of p w h) (group_size p' w' h') (groups_of p' w' h') r r'
  unfolding groups_of group_size cell_label sized undo
  anew = record {
    to = λ i l. renumber-lt n n' g g' carry i l;
    from = λ j l. renumber-lt n' n g' g (undo carry) j l;
    again = λ i l. renumber-back n n' g g' carry i l;
    there = λ j l. renumber-back n' n g' g (undo carry) j l;
    size = λ i l. moved-sized n n' g g' carry i l;
  }

  pub group-count-of : groups_of p' w' h' ≡ groups_of p w h
  group-count-of = many-same anew

  pub kept-count-of : kept_count p' w' h' ≡ kept_count p w h
  unfolding kept_count
  kept-count-of = kept_same anew

  module _ (untied : Untied (group_size p w h) (groups_of p w h)) (i : ℕ) (l : i < kept_count p w h) where
    abbrev k : ℕ
    k = kept_at (group_size p w h) (groups_of p w h) i

    -- a cell of the region
    abbrev c : ℕ
    c = lead_cell p w h i

    k_lt : k < groups_of p w h
    k_lt = kept-lt p w h i l

    c-is : (ink c ≡ true) × (label ink (near a) n c ≡ suc k)
    c-is = lead_is p w h i l

    pub label-is' : cell_label p' w' h' (f c) ≡ kept_label p' w' h' i
    unfolding cell_label kept_label groups_of
    label-is' = sym (renumber-is n n' g g' carry k k_lt) ∙ ap suc (sym (kept-anew anew untied i (enough p w h i l)))

    -- as many cells
    pub size_of : group_size p' w' h' (kept_at (group_size p' w' h') (groups_of p' w' h') i)
        ≡ group_size p w h (kept_at (group_size p w h) (groups_of p w h) i)
    size_of = ap (group_size p' w' h') (kept-anew anew untied i (enough p w h i l)) ∙ anew.size k k_lt

    -- a labelled cell is ink
    ink-labelled : (d : ℕ) → label ink (near a) n d ≡ suc k → ink d ≡ true
    ink-labelled d e = ⊎_elim (λ x. x) (λ x. absurd (omega (arith, e, label-none ink (near a) n g d x))) (which (ink d))

    ink-labelled' : (d : ℕ) → label ink' (near (cells8 w')) n' d ≡ label ink' (near (cells8 w')) n' (f c) → ink' d ≡ true
    ink-labelled' d e = ⊎_elim (λ x. x)
        (λ x. absurd (omega (
          arith,
          e,
          label-ink ink' (near (cells8 w')) n' g' (f c) (carry.ink-to c c-is.0),
          label-none ink' (near (cells8 w')) n' g' d x,
        ))) (which (ink' d))

    -- the moved cells
    pub region-of : (x y : ℕ) → x < a → y < b
        → (label_at p w h x y ≡ kept_label p w h i) ↔ (label_at p' w' h' (place_of m a b x y).0 (place_of m a b x y).1 ≡ kept_label p' w' h' i)
    unfolding label_at cell_label
    region-of x y lx ly = (to, from)
      where
        d : ℕ
        d = cell a x y

        fd : f d ≡ cell (cells8 w') (place_of m a b x y).0 (place_of m a b x y).1
        fd = cell-to m a b (cells8 w') x y lx

        to : label ink (near a) n (cell a x y) ≡ kept_label p w h i
            → label ink' (near (cells8 w')) n' (cell (cells8 w') (place_of m a b x y).0 (place_of m a b x y).1) ≡ kept_label p' w' h' i
        to e =
            let e₀ : label ink (near a) n (cell a x y) ≡ suc k = e ∙ sym (label_is p w h i l) ∙ c-is.1 in
            let j = ink-labelled (cell a x y) e₀ in
            ap (label ink' (near (cells8 w')) n') (sym fd)
            ∙ (moved-groups n n' g g' carry (cell a x y) c j c-is.0).0 (e₀ ∙ sym c-is.1) ∙ label-is'

        from : label ink' (near (cells8 w')) n' (cell (cells8 w') (place_of m a b x y).0 (place_of m a b x y).1) ≡ kept_label p' w' h' i
            → label ink (near a) n (cell a x y) ≡ kept_label p w h i
        from e =
            let e₀ : label ink' (near (cells8 w')) n' (cell (cells8 w') (place_of m a b x y).0 (place_of m a b x y).1)
            ≡ label ink' (near (cells8 w')) n' (f c) = e ∙ sym label-is' in
            let j' = ink-labelled' (cell (cells8 w') (place_of m a b x y).0 (place_of m a b x y).1) e₀ in
            let j : ink (cell a x y) ≡ true = sym (cell-ink-of m W H p p' same x y lx ly) ∙ j' in
            (moved-groups n n' g g' carry (cell a x y) c j c-is.0).1 (ap (label ink' (near (cells8 w')) n') fd ∙ e₀) ∙ label_is p w h i l

    -- the moved box, in cells
    abbrev q : ℕ → Bool
    q = group ink (near a) n c

    pair : Pair q n (group ink' (near (cells8 w')) n' (f c)) n' f carry.back
    pair = move-pair n n' g g' carry c c-is.0

    in-a : (d : ℕ) → d < n → (d % a < a) × (d / a < b)
    in-a d s = (column-lt a b d s (omega arith), row_lt a b d s (omega arith))

    to_at : (d : ℕ) → d < n → (f d % cells8 w' ≡ (place_of m a b (d % a) (d / a)).0) × (f d / cells8 w' ≡ (place_of m a b (d % a) (d / a)).1)
    unfolding cell_to
    to_at d s =
        let t = in-a d s in
        let u : (place_of m a b (d % a) (d / a)).0 < cells8 w' =
        rw (wide-cells m W H p p' same) (place-within m a b (d % a) (d / a) t.0 t.1).0 in
        (cell-column (cells8 w') _ _ u, cell_row (cells8 w') _ _ u)

    pub cell-box-of : cell_box p' w' h' (kept_label p' w' h' i) ≡ box_of m a b (cell_box p w h (kept_label p w h i))
    unfolding cell_box box_by group cell_label
    cell-box-of =
        ap (λ (z : ℕ). box_by (λ d. eqb (label ink' (near (cells8 w')) n' d) z) (λ d. d % cells8 w') (λ d. d / cells8 w') (cells8 w')
        (cells8 h') n') (sym label-is')
        ∙ ap₂ (λ (i j : ℕ). box_by (group ink' (near (cells8 w')) n' (f c)) (λ d. d % cells8 w') (λ d. d / cells8 w') i j n')
        (wide-cells m W H p p' same) (high-cells m W H p p' same)
        ∙ box-pair pair (λ d. (place_of m a b (d % a) (d / a)).0) (λ d. (place_of m a b (d % a) (d / a)).1) (λ d. d % cells8 w')
        (λ d. d / cells8 w') (wide_of m a b) (high_of m a b)
        c c_lt (group-self ink (near a) n c) (λ d s t. let u = in-a d s in place-within m a b (d % a) (d / a) u.0 u.1)
        (λ d s t. to_at d s)
        ∙ box-place q n c c_lt (group-self ink (near a) n c) m a b (λ d. d % a) (λ d. d / a) (λ d s t. in-a d s)
        ∙ ap (λ (z : ℕ). box_of m a b (box_by (λ d. eqb (label ink (near a) n d) z) (λ d. d % a) (λ d. d / a) a b n)) (label_is p w h i l)
      where
        c_lt : c < n
        c_lt = ink-inside p w h c c-is.0

-- The box in pixels is that in cells, 8 times as fine, where the sides are whole cells.
pub region-finer : (p : Plane) (W H l : ℕ) → 0 < W → 0 < H → region_box p (16 * W) (16 * H) l ≡ finer_box 8 (cell_box p (16 * W) (16 * H) l)
unfolding region_box finer_box cell_box
region-finer p W H l pos_w pos_h =
    box≡ _ _ refl refl
    (clip (highest (λ c. eqb (cell_label p (16 * W) (16 * H) c) l) (λ c. c % cells8 (16 * W)) (cells_of (16 * W) (16 * H))) W
    (highest-le (λ c. eqb (cell_label p (16 * W) (16 * H) c) l) (λ c. c % cells8 (16 * W)) (cells8 (16 * W)) (cells_of (16 * W) (16 * H))
    (λ c s. column-lt (cells8 (16 * W)) (cells8 (16 * H)) c s (omega arith))))
    (clip (highest (λ c. eqb (cell_label p (16 * W) (16 * H) c) l) (λ c. c / cells8 (16 * W)) (cells_of (16 * W) (16 * H))) H
    (highest-le (λ c. eqb (cell_label p (16 * W) (16 * H) c) l) (λ c. c / cells8 (16 * W)) (cells8 (16 * H)) (cells_of (16 * W) (16 * H))
    (λ c s. row_lt (cells8 (16 * W)) (cells8 (16 * H)) c s (omega arith))))
  where
    clip : (x W : ℕ) → x ≤ cells8 (16 * W) → min (8 * x) (16 * W) ≡ 8 * x
    clip x W h = omega arith

module _ (m : Move) (W H : ℕ) (pos_w : 0 < W) (pos_h : 0 < H) (p p' : Plane)
    (same : Alike (wide_of m (16 * W) (16 * H)) (high_of m (16 * W) (16 * H)) p' (moved m (16 * W) (16 * H) p))
    (untied : Untied (group_size p (16 * W) (16 * H)) (groups_of p (16 * W) (16 * H))) (i : ℕ) (l : i < kept_count p (16 * W) (16 * H)) where
  -- the moved box, in pixels
  pub box_of_lem : region_box p' (wide_of m (16 * W) (16 * H)) (high_of m (16 * W) (16 * H))
      (kept_label p' (wide_of m (16 * W) (16 * H)) (high_of m (16 * W) (16 * H)) i)
      ≡ box_of m (16 * W) (16 * H) (region_box p (16 * W) (16 * H) (kept_label p (16 * W) (16 * H) i))
  box_of_lem =
      let s = sides-times m 16 W H in
      let L = kept_label p (16 * W) (16 * H) i in
      let L' = kept_label p' (wide_of m (16 * W) (16 * H)) (high_of m (16 * W) (16 * H)) i in
      let in' = place-within m W H 0 0 pos_w pos_h in
      let e : 16 * W ≡ 8 * cells8 (16 * W) = omega arith in
      let f : 16 * H ≡ 8 * cells8 (16 * H) = omega arith in
      ap₂ (λ (x y : ℕ). region_box p' x y L') s.0 s.1
      ∙ region-finer p' (wide_of m W H) (high_of m W H) L' (omega arith) (omega arith)
      ∙ sym (ap₂ (λ (x y : ℕ). finer_box 8 (cell_box p' x y L')) s.0 s.1)
      ∙ ap (finer_box 8) (cell-box-of m W H pos_w pos_h p p' same untied i l)
      ∙ sym (box-finer m 8 (cells8 (16 * W)) (cells8 (16 * H)) (cell_box p (16 * W) (16 * H) L))
      ∙ sym (ap₂ (λ (x y : ℕ). box_of m x y (finer_box 8 (cell_box p (16 * W) (16 * H) L))) e f)
      ∙ ap (box_of m (16 * W) (16 * H)) (sym (region-finer p W H L pos_w pos_h))

-- The box of a label that some cell has is a box within the picture, and not empty.
pub region-in : (p : Plane) (w h l : ℕ) → 0 < cells8 w → (d : ℕ) → d < cells_of w h → cell_label p w h d ≡ l
    → ((region_box p w h l).x0 < (region_box p w h l).x1) × ((region_box p w h l).y0 < (region_box p w h l).y1) × ((region_box p w h l).x1 ≤ w)
    × ((region_box p w h l).y1 ≤ h)
unfolding region_box cell_box
region-in p w h l pos d b e =
    let t : eqb (cell_label p w h d) l ≡ true = eq-eqb _ _ e in
    let q : ℕ → Bool = λ c. eqb (cell_label p w h c) l in
    let x = lowest-lower q (λ c. c % cells8 w) (cells8 w) (cells_of w h) d b t in
    let y = lowest-lower q (λ c. c / cells8 w) (cells8 h) (cells_of w h) d b t in
    let X = highest-upper q (λ c. c % cells8 w) (cells_of w h) d b t in
    let Y = highest-upper q (λ c. c / cells8 w) (cells_of w h) d b t in
    let u = column-lt (cells8 w) (cells8 h) d b pos in
    let v = row_lt (cells8 w) (cells8 h) d b pos in (
      clip (lowest q (λ c. c % cells8 w) (cells8 w) (cells_of w h)) (d % cells8 w) (highest q (λ c. c % cells8 w) (cells_of w h)) w x X u,
      clip (lowest q (λ c. c / cells8 w) (cells8 h) (cells_of w h)) (d / cells8 w) (highest q (λ c. c / cells8 w) (cells_of w h)) h y Y v,
      min-le_right (8 * highest q (λ c. c % cells8 w) (cells_of w h)) w,
      min-le_right (8 * highest q (λ c. c / cells8 w) (cells_of w h)) h,
    )
  where
    clip : (x z X w : ℕ) → x ≤ z → z + 1 ≤ X → z < cells8 w → 8 * x < min (8 * X) w
    clip x z X w a c e = omega arith
