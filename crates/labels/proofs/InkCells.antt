-- Laws of ink cells.
--     how many cells there are: cells-few
--     pixels below a threshold, row by row: row-none, row_step, row-le, box-step, box-le, row_inside
--     the count of a cell: level-place, inside-cell, cell-ink-is
--     lists of cells: cells-drawn, tab-all, marks-are
-- Assumes nothing.
use mathlib.Core.Bool.{cond}
use mathlib.Core.List.{List}
use mathlib.Core.Path.{◌∙◌, ◌≡◌, ap, refl, sym}
use Prim.Native.Nat.{◌*◌, ◌+◌, ◌-◌, ◌/◌, ◌<◌, ◌≤◌, ℕ}
use native.Mathlib.Decide.{dec_lt}
use native.Mathlib.Nat.{add_assoc, mul_comm, mul-le-mul, mul-le-mul_right, mul-one}
use native.Mathlib.Omega.{arith}
use lib.Dec.{ltb}
use lib.ListN.{get_or-eq_default, drop, get_or, length, length-drop, length-take, take}
use lib.Seq.{take_at}
use borrow.Author.Tests.{lt-ltb}
use Rattle.labels.specs.Inner.{CellInside, Levelled, below, cell_mark_at, row_below}
use Rattle.labels.specs.Labelling.{MARK, marked_cells}
use Rattle.laws.proofs.Folds.{bit_le, fold-ext, fold-suc, get_or-tab, length-tab, tab-ext}
use Rattle.laws.proofs.Planes.{box-ext, box-more, get_d_part, part, place-lt, row-end}
use Rattle.laws.specs.Fold.{bit, fold, sum_to, tab}
use Rattle.laws.specs.Plane.{Plane, box, box_row, drawn, plane, rowwise}
use Rattle.levels.proofs.Hist.{sum-le}
use Rattle.levels.specs.Level.{ink_of, cells, ink_at, level}
use Rattle.picture_checks.specs.Picture.{Picture}
use Rattle.labels.specs.Cells.{cells8, cells_of, ink_cell, ink_pixels, span8}

-- ---- how many cells there are
pub cells-few : {w h : ℕ} → w ≤ 4096 → h ≤ 4096 → cells_of w h ≤ 262144
cells-few {w} {h} wide high = mul-le-mul {n₁ = cells8 h} {m₁ = cells8 w} {n₂ = 512} {m₂ = 512} (omega arith) (omega arith)

-- ---- a row
pub row-none : (row : List ℕ) (t : ℕ) → sum_to 0 (row_below row t) ≡ 0
unfolding fold
row-none row t = refl

pub row_step : (row : List ℕ) (t i : ℕ) {n v : ℕ} → n ≡ sum_to i (row_below row t) → v ≡ bit (ltb (get_or row i 0) t)
    → n + v ≡ sum_to (i + 1) (row_below row t)
unfolding row_below
row_step row t i en ev = rw (fold-suc, en, ev)

pub row-le : (row : List ℕ) (t i : ℕ) → sum_to i (row_below row t) ≤ i
unfolding row_below
row-le row t i = rw (mul-one i) at (sum-le 1 i (λ k. bit (ltb (get_or row k 0) t)) (λ k. bit_le (ltb (get_or row k 0) t)))

-- ---- a box
row-part : (s : List ℕ) (w x0 y lx t : ℕ)
    → sum_to lx (row_below (take lx (drop (y * w + x0) s)) t) ≡ box_row ◌+◌ 0 (below (plane w s) t) x0 lx y
unfolding box_row row_below below
row-part s w x0 y lx t =
    fold-ext ◌+◌ 0 lx (λ i. bit (ltb (get_or (take lx (drop (y * w + x0) s)) i 0) t)) (λ i. bit (ltb (plane w s (x0 + i) y) t))
    (λ i l. ap (λ (v : ℕ). bit (ltb v t)) (get_d_part s (y * w + x0) lx i l ∙ ap (λ (k : ℕ). get_or s k 0) (add_assoc (y * w) x0 i)))

pub box-step : (s : List ℕ) (w x0 y0 lx j t : ℕ) {n r : ℕ} → (y0 + j) * w + x0 + lx ≤ length s
    → n ≡ box ◌+◌ 0 (below (plane w s) t) x0 y0 lx j
    → r ≡ sum_to (length (part ((y0 + j) * w + x0) ((y0 + j) * w + x0 + lx) s))
    (row_below (part ((y0 + j) * w + x0) ((y0 + j) * w + x0 + lx) s) t)
    → n + r ≡ box ◌+◌ 0 (below (plane w s) t) x0 y0 lx (j + 1)
box-step s w x0 y0 lx j t room en er =
    let d : (y0 + j) * w + x0 + lx - ((y0 + j) * w + x0) ≡ lx = omega arith in
    let m : length (take lx (drop ((y0 + j) * w + x0) s)) ≡ lx = simp (length-take, length-drop) (omega arith) in
    let row = rw (d, m) at er in
    rw (box-more, en, row, row-part)

pub box-le : (p : Plane) (x0 y0 lx ly t : ℕ) → box ◌+◌ 0 (below p t) x0 y0 lx ly ≤ ly * lx
unfolding box box_row below
box-le p x0 y0 lx ly t =
    sum-le lx ly (λ j. fold ◌+◌ 0 lx (λ i. bit (ltb (p (x0 + i) (y0 + j)) t)))
    (λ j. rw (mul-one lx) at (sum-le 1 lx (λ i. bit (ltb (p (x0 + i) (y0 + j)) t)) (λ i. bit_le (ltb (p (x0 + i) (y0 + j)) t))))

-- a row of the part lies in the picture
pub row_inside : {s : List ℕ} {w x0 y0 lx ly j : ℕ} → CellInside s w x0 y0 lx ly → j < ly → (y0 + j) * w + x0 + lx ≤ length s
row_inside {w = w} {y0 = y0} {ly = ly} {j = j} p l = omega (arith, p.right, p.bottom, row-end (y0 + j) (y0 + ly) w (omega arith))

-- ---- a cell
-- the level cell in which a cell lies
pub level-place : {s grid : List ℕ} {w h cw : ℕ} (cx cy : ℕ) → Levelled s w h grid → 8 * cx < w → 8 * cy < h → cw ≡ cells w
    → cy / 2 * cw + cx / 2 < length grid
level-place {w = w} {h} cx cy p lw lh e =
    rw e (omega (arith, place-lt (cx / 2) (cy / 2) (cells w) (cells h) (omega arith) (omega arith), p.room))

half : (c i : ℕ) → i < 8 → (8 * c + i) / 16 ≡ c / 2
half c i l = omega arith

pub inside-cell : {s : List ℕ} {w h lx ly : ℕ} → Picture s w h → (cx cy : ℕ) → 8 * cx < w → 8 * cy < h → lx ≡ span8 w cx → ly ≡ span8 h cy
    → CellInside s w (8 * cx) (8 * cy) lx ly
inside-cell {s} {w} {h} {lx} {ly} p cx cy lw lh ex ey = record {
  wide = omega arith;
  high = omega arith;
  right = omega arith;
  low = omega (arith, p.h-high);
  bottom = omega (arith, mul-le-mul_right {m = 8 * cy + ly} {n = h} w (omega arith), mul_comm w h, p.count);
}

pub cell-ink-is : {s grid : List ℕ} {w h : ℕ} → Levelled s w h grid → (cx cy : ℕ) {t lx ly : ℕ} → 8 * cx < w → 8 * cy < h
    → t ≡ plane (cells w) grid (cx / 2) (cy / 2) → lx ≡ span8 w cx → ly ≡ span8 h cy
    → box ◌+◌ 0 (below (plane w s) t) (8 * cx) (8 * cy) lx ly ≡ ink_pixels (plane w s) w h cx cy
unfolding ink_pixels below ink_at ink_of
cell-ink-is {s} {grid} {w} {h} held cx cy {t} lw lh et ex ey =
    let p = plane w s in
    let level-t : t ≡ level p w h (cx / 2) (cy / 2) = et ∙ held.held (cx / 2) (cy / 2) (omega arith) (omega arith) in
    rw (ex, ey)
    (box-ext ◌+◌ 0 (λ x y. bit (ltb (p x y) t)) (λ x y. bit (ltb (p x y) (level p w h (x / 16) (y / 16)))) (8 * cx) (8 * cy) (span8 w cx)
    (span8 h cy)
    (λ i j li lj. rw (half cx i (omega arith), half cy j (omega arith), level-t)))

-- ---- lists of cells
-- the cells of a drawn list in row order
pub cells-drawn : (w h : ℕ) (g : Plane) (f : ℕ → ℕ) (old : List ℕ) {l : List ℕ} → l ≡ drawn w h g old
    → ((c : ℕ) → c < h * w → rowwise w g c ≡ f c) → take (h * w) l ≡ tab (h * w) f
cells-drawn w h g f old e same =
    ap (take (h * w)) (rw (mul_comm w h) at e)
    ∙ take_at (tab (h * w) (rowwise w g)) (drop (h * w) old) (h * w) (length-tab (h * w) (rowwise w g))
    ∙ tab-ext (h * w) (rowwise w g) f same

-- with nothing past the cells, each of them
pub tab-all : (n : ℕ) (f : ℕ → ℕ) → ((c : ℕ) → (c < n → ⊥) → f c ≡ 0) → (c : ℕ) → get_or (tab n f) c 0 ≡ f c
tab-all n f none c = go (dec_lt c n)
  where
    go : Dec (c < n) → get_or (tab n f) c 0 ≡ f c
    go (yes b) = get_or-tab n f c 0 b
    go (no b) = get_or-eq_default (tab n f) 0 (rw (length-tab n f) (omega arith)) ∙ sym (none c b)

-- the marks that the code makes are those of the picture's cells
pub marks-are : (p : Plane) (w h : ℕ) (old : List ℕ) {l : List ℕ} → l ≡ drawn (cells8 w) (cells8 h) (cell_mark_at p w h) old
    → take (cells_of w h) l ≡ marked_cells p w h
unfolding marked_cells ink_cell cell_mark_at
marks-are p w h old e =
    cells-drawn (cells8 w) (cells8 h) (cell_mark_at p w h) (λ c. cond (ink_cell p w h c) MARK 0) old e (λ c b. rw (lt-ltb c (cells_of w h) b))
