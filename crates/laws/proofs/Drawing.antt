-- A loop that draws a plane into a list, place by place, with the place's column and row counted beside it: what it keeps (Drawing), at the
-- begin, in a turn that goes on in the row (drawing-on) or begins the next row (drawing-row), and at the end. Assumes nothing.
use mathlib.Core.List.{List}
use mathlib.Core.Path.{◌∙◌, ◌≡◌, refl}
use Prim.Native.Nat.{◌*◌, ◌+◌, ◌-◌, ◌<◌, ◌≤◌, ℕ}
use native.Mathlib.Omega.{arith}
use lib.ListN.{length, length-set, set}
use Rattle.laws.proofs.Folds.{written_none, written_step}
use Rattle.laws.proofs.Planes.{counted-col, counted-row, next_row, rowwise-at, zero-place}
use Rattle.laws.specs.Fold.{written}
use Rattle.laws.specs.Plane.{Plane, drawn, rowwise}

-- The first k places of the list are drawn, and place k is in column x and row y.
pub record Drawing (w h : ℕ) (g : Plane) (old list : List ℕ) (k x y : ℕ) : Type 0 where
  pub upto : k ≤ w * h
  pub same : length list ≡ length old
  pub held : list ≡ written k (rowwise w g) old
  pub place : k ≡ y * w + x
  pub column : x ≤ w - 1

pub drawing-begin : (w h : ℕ) (g : Plane) (old : List ℕ) → Drawing w h g old old 0 0 0
drawing-begin w h g old =
    record { upto = omega arith; same = refl; held = written_none (rowwise w g) old; place = zero-place w; column = omega arith }

module _ {w h : ℕ} {g : Plane} {old list : List ℕ} {k x y : ℕ} (d : Drawing w h g old list k x y) (within : k < w * h) where
  pub drawing-x : x < w
  drawing-x = counted-col k x y w h within d.column

  pub drawing-y : y < h
  drawing-y = counted-row k x y w h within d.place drawing-x

  module _ (room : w * h ≤ length old) {v : ℕ} (is : v ≡ g x y) where
    step : set list k v ≡ written (k + 1) (rowwise w g) old
    step = written_step k (rowwise w g) old d.held (is ∙ rowwise-at w g k x y d.place drawing-x) (omega arith)

    longer : length (set list k v) ≡ length old
    longer = length-set list k v ∙ d.same

    pub drawing-on : (x + 1 ≡ w → ⊥) → Drawing w h g old (set list k v) (k + 1) (x + 1) y
    drawing-on more = record
        { upto = omega arith; same = longer; held = step; place = omega (arith, d.place); column = omega (arith, drawing-x) }

    pub drawing-row : x + 1 ≡ w → Drawing w h g old (set list k v) (k + 1) 0 (y + 1)
    drawing-row full = record
        { upto = omega arith; same = longer; held = step; place = next_row k x y w d.place full; column = omega arith }

pub drawing-end : {w h : ℕ} {g : Plane} {old list : List ℕ} {k x y : ℕ} → Drawing w h g old list k x y → w * h ≤ k → list ≡ drawn w h g old
drawing-end {w} {h} {k = k} d past =
    let e : w * h ≡ k = omega (arith, d.upto) in
    rw e d.held
