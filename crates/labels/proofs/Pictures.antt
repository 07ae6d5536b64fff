-- Ink cells and groups of a moved picture. `p'` is any plane that has the moved pixels within the moved sides.
--     wide-cells, high-cells, cell-ink-of, ink-inside, ink-outside, grid-of, picture-carry, groups-of
-- Assumes nothing.
use mathlib.Core.Path.{◌≡◌, refl, sym, ap, ap₂, ◌∙◌}
use mathlib.Core.Logic.{◌↔◌}
use mathlib.Core.Bool.{false, true}
use Prim.Native.Nat.{ℕ, ◌+◌, ◌-◌, ◌*◌, ◌/◌, ◌%◌, ◌≤◌, ◌<◌}
use native.Mathlib.Omega.{arith}
use native.Mathlib.Nat.{add_comm, add_assoc}
use lib.Dec.{leb, ltb}
use borrow.Author.Tests.{lt-ltb, ltb-true}
use Rattle.laws.specs.Fold.{bit}
use Rattle.laws.specs.Plane.{Plane, Alike, box}
use Rattle.laws.specs.Move.{Move, still, flipped, turned, wide_of, high_of, moved, place_of, mirror, transpose}
use Rattle.laws.proofs.Bools.{and_left, falsely}
use Rattle.laws.proofs.Planes.{box-ext}
use Rattle.laws.proofs.Boxes.{box-mirror, box-transpose}
use Rattle.laws.proofs.Moves.{place-within, sides-times, alike_of}
use Rattle.levels.specs.Level.{ink_at}
use Rattle.levels.proofs.Ink.{ink-of}
use Rattle.labels.specs.Labels.{near, NearGrid}
use Rattle.labels.specs.Cells.{cells8, span8, cell, ink_pixels, ink_cell, cells_of, cell_label, label_at}
use Rattle.labels.proofs.Near.{grid}
use Rattle.labels.proofs.MovedGroups.{Carry, cell-column, cell_row, cell-lt, moved-groups}
use Rattle.labels.proofs.Moving.{cell_to, cell-to, place-carry}

-- A sum over cells of 8 by 8 goes with the cell.
cells-box : (m : Move) (A B : ℕ) (q : Plane) (x y : ℕ) → x < A → y < B
    → box ◌+◌ 0 (moved m (8 * A) (8 * B) q) (8 * (place_of m A B x y).0) (8 * (place_of m A B x y).1) 8 8 ≡ box ◌+◌ 0 q (8 * x) (8 * y) 8 8
unfolding moved place_of
cells-box still A B q x y lx ly = refl
cells-box flipped A B q x y lx ly =
    let e : 8 * A - (8 * (A - 1 - x) + 8) ≡ 8 * x = omega arith in
    box-mirror ◌+◌ 0 add_comm add_assoc (8 * A) q (8 * (A - 1 - x)) (8 * y) 8 8 (omega arith) ∙ ap (λ (k : ℕ). box ◌+◌ 0 q k (8 * y) 8 8) e
cells-box (turned m) A B q x y lx ly =
    let s = sides-times m 8 A B in
    let P = place_of m A B x y in
    let h = high_of m A B in
    let w = place-within m A B x y lx ly in
    let e : 8 * h - (8 * (h - 1 - P.1) + 8) ≡ 8 * P.1 = far8 h P.1 w.1 in
    ap (λ (k : ℕ). box ◌+◌ 0 (mirror k (transpose (moved m (8 * A) (8 * B) q))) (8 * (h - 1 - P.1)) (8 * P.0) 8 8) s.1
    ∙ box-mirror ◌+◌ 0 add_comm add_assoc (8 * h) (transpose (moved m (8 * A) (8 * B) q)) (8 * (h - 1 - P.1)) (8 * P.0) 8 8
    (in8 h P.1 w.1)
    ∙ ap (λ (k : ℕ). box ◌+◌ 0 (transpose (moved m (8 * A) (8 * B) q)) k (8 * P.0) 8 8) e
    ∙ box-transpose ◌+◌ 0 add_comm add_assoc refl (moved m (8 * A) (8 * B) q) (8 * P.1) (8 * P.0) 8 8
    ∙ cells-box m A B q x y lx ly
  where
    far8 : (h y : ℕ) → y < h → 8 * h - (8 * (h - 1 - y) + 8) ≡ 8 * y
    far8 h y l = omega arith

    in8 : (h y : ℕ) → y < h → 8 * (h - 1 - y) + 8 ≤ 8 * h
    in8 h y l = omega arith

cells8-8 : (A : ℕ) → cells8 (8 * A) ≡ A
cells8-8 A = omega arith

span8-in : (A x : ℕ) → x < A → span8 (8 * A) x ≡ 8
span8-in A x l = omega arith

module _ (m : Move) (W H : ℕ) (p p' : Plane)
    (same : Alike (wide_of m (16 * W) (16 * H)) (high_of m (16 * W) (16 * H)) p' (moved m (16 * W) (16 * H) p)) where
  abbrev w' : ℕ
  w' = wide_of m (16 * W) (16 * H)

  abbrev h' : ℕ
  h' = high_of m (16 * W) (16 * H)

  abbrev a : ℕ
  a = cells8 (16 * W)

  abbrev b : ℕ
  b = cells8 (16 * H)

  -- sides in cells
  wide8 : w' ≡ 8 * wide_of m a b
  wide8 =
      let e : 16 * W ≡ 8 * a = omega arith in
      let f : 16 * H ≡ 8 * b = omega arith in
      ap (λ (k : ℕ). wide_of m k (16 * H)) e ∙ ap (λ (k : ℕ). wide_of m (8 * a) k) f ∙ (sides-times m 8 a b).0

  high8 : h' ≡ 8 * high_of m a b
  high8 =
      let e : 16 * W ≡ 8 * a = omega arith in
      let f : 16 * H ≡ 8 * b = omega arith in
      ap (λ (k : ℕ). high_of m k (16 * H)) e ∙ ap (λ (k : ℕ). high_of m (8 * a) k) f ∙ (sides-times m 8 a b).1

  pub wide-cells : cells8 w' ≡ wide_of m a b
  wide-cells = ap cells8 wide8 ∙ cells8-8 (wide_of m a b)

  pub high-cells : cells8 h' ≡ high_of m a b
  high-cells = ap cells8 high8 ∙ cells8-8 (high_of m a b)

  -- as many ink pixels in the moved cell
  pixels-of : (x y : ℕ) → x < a → y < b
      → ink_pixels p' w' h' (place_of m a b x y).0 (place_of m a b x y).1 ≡ ink_pixels p (16 * W) (16 * H) x y
  unfolding ink_pixels
  pixels-of x y lx ly =
      let P = place_of m a b x y in
      let w = place-within m a b x y lx ly in
      let q : Plane = λ i j. bit (ink_at p (16 * W) (16 * H) i j) in
      let q' : Plane = λ i j. bit (ink_at p' w' h' i j) in
      let al : Alike w' h' q' (moved m (16 * W) (16 * H) q) =
      alike_of m (16 * W) (16 * H) q' q (λ i j li lj. ap bit (ink-of m W H p p' same i j li lj)) in
      let sx : span8 w' P.0 ≡ 8 = ap (λ (k : ℕ). span8 k P.0) wide8 ∙ span8-in (wide_of m a b) P.0 w.0 in
      let sy : span8 h' P.1 ≡ 8 = ap (λ (k : ℕ). span8 k P.1) high8 ∙ span8-in (high_of m a b) P.1 w.1 in
      let e : 16 * W ≡ 8 * a = omega arith in
      let f : 16 * H ≡ 8 * b = omega arith in
      let tx : span8 (16 * W) x ≡ 8 = ap (λ (k : ℕ). span8 k x) e ∙ span8-in a x lx in
      let ty : span8 (16 * H) y ≡ 8 = ap (λ (k : ℕ). span8 k y) f ∙ span8-in b y ly in
      ap₂ (λ (i j : ℕ). box ◌+◌ 0 q' (8 * P.0) (8 * P.1) i j) sx sy
      ∙ box-ext ◌+◌ 0 q' (moved m (16 * W) (16 * H) q) (8 * P.0) (8 * P.1) 8 8
      (λ i j li lj. al (8 * P.0 + i) (8 * P.1 + j) (rw wide8 (in-8 (wide_of m a b) P.0 i w.0 li))
      (rw high8 (in-8 (high_of m a b) P.1 j w.1 lj)))
      ∙ ap₂ (λ (i j : ℕ). box ◌+◌ 0 (moved m i j q) (8 * P.0) (8 * P.1) 8 8) e f
      ∙ cells-box m a b q x y lx ly
      ∙ sym (ap₂ (λ (i j : ℕ). box ◌+◌ 0 q (8 * x) (8 * y) i j) tx ty)
    where
      in-8 : (n x i : ℕ) → x < n → i < 8 → 8 * x + i < 8 * n
      in-8 n x i l k = omega arith

  pub cell-ink-of : (x y : ℕ) → x < a → y < b
      → ink_cell p' w' h' (cell (cells8 w') (place_of m a b x y).0 (place_of m a b x y).1) ≡ ink_cell p (16 * W) (16 * H) (cell a x y)
  unfolding ink_cell
  cell-ink-of x y lx ly =
      let P = place_of m a b x y in
      let w = place-within m a b x y lx ly in
      let lw : P.0 < cells8 w' = rw wide-cells w.0 in
      let lh : P.1 < cells8 h' = rw high-cells w.1 in
      rw (
        cell-column (cells8 w') P.0 P.1 lw,
        cell_row (cells8 w') P.0 P.1 lw,
        cell-column a x y lx,
        cell_row a x y lx,
        lt-ltb (cell (cells8 w') P.0 P.1) (cells_of w' h') (cell-lt (cells8 w') (cells8 h') P.0 P.1 lw lh),
        lt-ltb (cell a x y) (cells_of (16 * W) (16 * H)) (cell-lt a b x y lx ly),
        pixels-of x y lx ly,
      )

pub ink-inside : (p : Plane) (w h c : ℕ) → ink_cell p w h c ≡ true → c < cells_of w h
unfolding ink_cell
ink-inside p w h c t = ltb-true c (cells_of w h) (and_left (ltb c (cells_of w h)) (leb 4 (ink_pixels p w h (c % cells8 w) (c / cells8 w))) t)

pub ink-outside : (p : Plane) (w h c : ℕ) → (c < cells_of w h → ⊥) → ink_cell p w h c ≡ false
ink-outside p w h c b = falsely (ink_cell p w h c) (λ e. b (ink-inside p w h c e))

pub grid-of : (p : Plane) (w h : ℕ) → NearGrid (ink_cell p w h) (near (cells8 w)) (cells_of w h)
grid-of p w h = grid (ink_cell p w h) (cells8 w) (cells_of w h) (ink-inside p w h)

module _ (m : Move) (W H : ℕ) (pos_w : 0 < W) (pos_h : 0 < H) (p p' : Plane)
    (same : Alike (wide_of m (16 * W) (16 * H)) (high_of m (16 * W) (16 * H)) p' (moved m (16 * W) (16 * H) p)) where
  pub picture-carry : Carry (ink_cell p (16 * W) (16 * H)) (near (cells8 (16 * W)))
      (ink_cell p' (wide_of m (16 * W) (16 * H)) (high_of m (16 * W) (16 * H))) (near (cells8 (wide_of m (16 * W) (16 * H))))
      (cell_to m (cells8 (16 * W)) (cells8 (16 * H)) (cells8 (wide_of m (16 * W) (16 * H))))
  picture-carry =
      place-carry m (cells8 (16 * W)) (cells8 (16 * H)) (cells8 (w' m W H p p' same)) (cells8 (h' m W H p p' same))
      (wide-cells m W H p p' same) (high-cells m W H p p' same)
      (omega arith) (rw (wide-cells m W H p p' same) (wide-pos m (cells8 (16 * W)) (cells8 (16 * H)) (omega arith) (omega arith)))
      (ink_cell p (16 * W) (16 * H)) (ink_cell p' (wide_of m (16 * W) (16 * H)) (high_of m (16 * W) (16 * H)))
      (ink-inside p (16 * W) (16 * H)) (ink-inside p' (wide_of m (16 * W) (16 * H)) (high_of m (16 * W) (16 * H)))
      (cell-ink-of m W H p p' same)
    where
      wide-pos : (m : Move) (a b : ℕ) → 0 < a → 0 < b → 0 < wide_of m a b
      wide-pos m a b pa pb = let w = place-within m a b 0 0 pa pb in omega arith

  -- The groups are the moved groups.
  pub groups-of : (x y u v : ℕ) → x < cells8 (16 * W) → y < cells8 (16 * H) → u < cells8 (16 * W) → v < cells8 (16 * H)
      → ink_cell p (16 * W) (16 * H) (cell (cells8 (16 * W)) x y) ≡ true → ink_cell p (16 * W) (16 * H) (cell (cells8 (16 * W)) u v) ≡ true
      → (label_at p (16 * W) (16 * H) x y ≡ label_at p (16 * W) (16 * H) u v)
      ↔ (label_at p' (wide_of m (16 * W) (16 * H)) (high_of m (16 * W) (16 * H)) (place_of m (cells8 (16 * W)) (cells8 (16 * H)) x y).0
      (place_of m (cells8 (16 * W)) (cells8 (16 * H)) x y).1
      ≡ label_at p' (wide_of m (16 * W) (16 * H)) (high_of m (16 * W) (16 * H)) (place_of m (cells8 (16 * W)) (cells8 (16 * H)) u v).0
      (place_of m (cells8 (16 * W)) (cells8 (16 * H)) u v).1)
  unfolding label_at cell_label
  groups-of x y u v lx ly lu lv i j =
      let a = cells8 (16 * W) in
      let b = cells8 (16 * H) in
      let a' = cells8 (wide_of m (16 * W) (16 * H)) in
      rw (← cell-to m a b a' x y lx, ← cell-to m a b a' u v lu)
      (moved-groups (cells_of (16 * W) (16 * H)) (cells_of (wide_of m (16 * W) (16 * H)) (high_of m (16 * W) (16 * H)))
      (grid-of p (16 * W) (16 * H)) (grid-of p' (wide_of m (16 * W) (16 * H)) (high_of m (16 * W) (16 * H)))
      picture-carry (cell a x y) (cell a u v) i j)
