-- Counts before a column and a row, and the count of a box from four of them.
--     before-..                            none, one row more, bounds
--     row-none, row_more, row-le           the count of a row
--     four-reads, empty-box, of-picture    the claims
-- Assumes nothing.
use mathlib.Core.List.{List}
use mathlib.Core.Path.{◌∙◌, ◌≡◌, ap, refl}
use Prim.Native.Nat.{◌*◌, ◌+◌, ◌-◌, ◌/◌, ◌<◌, ◌≤◌, ℕ}
use native.Mathlib.Nat.{mul-le-mul, mul-one, zero-add}
use native.Mathlib.Omega.{arith}
use lib.Dec.{ltb}
use Rattle.laws.proofs.Boxes.{box-across, box-down, box-narrow}
use Rattle.laws.proofs.Folds.{fold-suc}
use Rattle.laws.proofs.Planes.{box-ext, box-more, box-none, plane-drawn}
use Rattle.laws.specs.Fold.{bit, fold, sum_to}
use Rattle.laws.specs.Plane.{Plane, box, box_row, drawn, plane}
use Rattle.levels.proofs.Hist.{sum-le}
use Rattle.levels.specs.Level.{cells, ink_at, ink_of, level}
use Rattle.darkness.specs.Claims.{EmptyBox, FourReads, OfPicture, ink_of_picture}
use Rattle.darkness.specs.Darkness.{ink_before, ink_bit, ink_in}
use Rattle.darkness.specs.Inner.{row_ink}

-- ---- counts before a column and a row
module _ (f : Plane) where
  pub before-top : (x : ℕ) → ink_before f x 0 ≡ 0
  unfolding ink_before
  before-top x = box-none ◌+◌ 0 f 0 0 x

  pub before-left : (y : ℕ) → ink_before f 0 y ≡ 0
  unfolding ink_before
  before-left y = box-narrow f 0 0 y

  pub before-row : (x y : ℕ) → ink_before f x (y + 1) ≡ ink_before f x y + row_ink f x y
  unfolding ink_before
  before-row x y = box-more ◌+◌ 0 f 0 0 x y ∙ ap (λ (k : ℕ). box ◌+◌ 0 f 0 0 x y + box_row ◌+◌ 0 f 0 x k) (zero-add y)

  pub row-none : (y : ℕ) → row_ink f 0 y ≡ 0
  unfolding box_row fold
  row-none y = refl

  pub row_more : (x y : ℕ) → row_ink f (x + 1) y ≡ row_ink f x y + f x y
  unfolding box_row
  row_more x y = fold-suc ◌+◌ 0 x (λ i. f (0 + i) y) ∙ ap (λ (k : ℕ). sum_to x (λ i. f (0 + i) y) + f k y) (zero-add x)

  -- ---- bounds
  module _ (small : (x y : ℕ) → f x y ≤ 1) where
    pub row-le : (x y : ℕ) → row_ink f x y ≤ x
    unfolding box_row
    row-le x y = rw (mul-one x) at (sum-le 1 x (λ i. f (0 + i) y) (λ i. small (0 + i) y))

    pub before-le : (x y : ℕ) → ink_before f x y ≤ y * x
    unfolding ink_before box
    before-le x y = sum-le x y (λ j. box_row ◌+◌ 0 f 0 x (0 + j)) (λ j. row-le x (0 + j))

    pub before_small : (x y : ℕ) → x ≤ 4096 → y ≤ 4096 → ink_before f x y ≤ 16777216
    before_small x y lx ly = omega (arith, before-le x y, mul-le-mul {n₁ = y} {m₁ = x} {n₂ = 4096} {m₂ = 4096} ly lx)

-- ---- four reads
pub four-reads : FourReads
unfolding FourReads ink_before ink_in
four-reads f x0 y0 x1 y1 lx ly =
    let ey : y0 + (y1 - y0) ≡ y1 = omega arith in
    let ex : x0 + (x1 - x0) ≡ x1 = omega arith in
    let right : box ◌+◌ 0 f 0 0 x1 y1 ≡ box ◌+◌ 0 f 0 0 x1 y0 + box ◌+◌ 0 f 0 y0 x1 (y1 - y0) =
    rw (ey, zero-add y0) at (box-down f 0 0 x1 y0 (y1 - y0)) in
    let left : box ◌+◌ 0 f 0 0 x0 y1 ≡ box ◌+◌ 0 f 0 0 x0 y0 + box ◌+◌ 0 f 0 y0 x0 (y1 - y0) =
    rw (ey, zero-add y0) at (box-down f 0 0 x0 y0 (y1 - y0)) in
    let split : box ◌+◌ 0 f 0 y0 x1 (y1 - y0) ≡ box ◌+◌ 0 f 0 y0 x0 (y1 - y0) + box ◌+◌ 0 f x0 y0 (x1 - x0) (y1 - y0) =
    rw (ex, zero-add x0) at (box-across f 0 y0 x0 (x1 - x0) (y1 - y0)) in
    omega arith

-- ---- a box without columns or rows
pub empty-box : EmptyBox
unfolding EmptyBox ink_in
empty-box f x0 y0 x1 y1 =
    let ex : x0 - x0 ≡ 0 = omega arith in
    let ey : y0 - y0 ≡ 0 = omega arith in
    (rw ex (box-narrow f x0 y0 (y1 - y0)), rw ey (box-none ◌+◌ 0 f x0 y0 (x1 - x0)))

-- ---- by the picture door's level grid
pub of-picture : OfPicture
unfolding OfPicture ink_in
of-picture w h s old x0 y0 x1 y1 right bottom =
    box-ext ◌+◌ 0 (ink_bit w s grid) (ink_of_picture (plane w s) w h) x0 y0 (x1 - x0) (y1 - y0) same
  where
    grid : List ℕ
    grid = drawn (cells w) (cells h) (level (plane w s) w h) old

    same : (i j : ℕ) → i < x1 - x0 → j < y1 - y0
        → ink_bit w s grid (x0 + i) (y0 + j) ≡ ink_of_picture (plane w s) w h (x0 + i) (y0 + j)
    same i j li lj =
        unfold ink_bit ink_of ink_of_picture ink_at in
        ap (λ (t : ℕ). bit (ltb (plane w s (x0 + i) (y0 + j)) t))
        (plane-drawn (cells w) (cells h) (level (plane w s) w h) old ((x0 + i) / 16) ((y0 + j) / 16) (omega arith) (omega arith))
