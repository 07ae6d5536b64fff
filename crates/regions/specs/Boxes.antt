-- The box of a region, by rules 14 and 15. Definitions only. Assumes nothing.
use Rattle.std.specs.Prelude.{Bool, cond, ℕ, zero, suc, ◌+◌, ◌*◌, ◌/◌, ◌%◌, min, max, eqb}
use Rattle.laws.specs.Plane.{Plane}
use Rattle.laws.specs.Move.{Box}
use Rattle.labels.specs.Cells.{cells8, cells_of, cell_label}

-- The least value of `f` at the numbers below `k` that meet `p`, and `d` where that is less; one more than the greatest, and 0 where none
-- meets it.
unfoldable pub lowest : (ℕ → Bool) → (ℕ → ℕ) → ℕ → ℕ → ℕ
lowest p f d zero = d
lowest p f d (suc k) = cond (p k) (min (lowest p f d k) (f k)) (lowest p f d k)

unfoldable pub highest : (ℕ → Bool) → (ℕ → ℕ) → ℕ → ℕ
highest p f zero = 0
highest p f (suc k) = cond (p k) (max (highest p f k) (f k + 1)) (highest p f k)

-- The box of the cells with the label l, in cells.
unfoldable pub cell_box : Plane → ℕ → ℕ → ℕ → Box
cell_box p w h l = record {
  x0 = lowest (λ c. eqb (cell_label p w h c) l) (λ c. c % cells8 w) (cells8 w) (cells_of w h);
  y0 = lowest (λ c. eqb (cell_label p w h c) l) (λ c. c / cells8 w) (cells8 h) (cells_of w h);
  x1 = highest (λ c. eqb (cell_label p w h c) l) (λ c. c % cells8 w) (cells_of w h);
  y1 = highest (λ c. eqb (cell_label p w h c) l) (λ c. c / cells8 w) (cells_of w h);
}

-- The same in pixels: 8 pixels a cell, right and bottom clipped.
unfoldable pub region_box : Plane → ℕ → ℕ → ℕ → Box
region_box p w h l = record {
  x0 = 8 * (cell_box p w h l).x0;
  y0 = 8 * (cell_box p w h l).y0;
  x1 = min (8 * (cell_box p w h l).x1) w;
  y1 = min (8 * (cell_box p w h l).y1) h;
}
