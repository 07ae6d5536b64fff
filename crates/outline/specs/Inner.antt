-- What the loops over rows and columns hold on their way. Definitions only. Assumes nothing.
use Rattle.std.specs.Prelude.{◌≡◌, Bool, true, false, cond, List, [], ◌∷◌, ℕ, zero, suc, ◌+◌, ◌-◌, ◌*◌, ◌/◌, ◌≤◌, ◌<◌, leb, ltb, eqb, length, get_or, take, drop, Float, Option, Some, None}
use Rattle.laws.specs.Lent.{Stored}
use Rattle.laws.specs.Plane.{plane}
use Rattle.levels.specs.Level.{cells}
use Rattle.labels.specs.Cells.{cells8}
use Rattle.hull.specs.Points.{floats_of}
use Rattle.boundary.specs.Runs.{run_start, run_end}
use Rattle.boundary.specs.Boundary.{counts}
use Rattle.laws.specs.Fold.{joined}

-- ---- lines
-- Place i of a line of n, from either end.
abbrev pub toward : Bool → ℕ → ℕ → ℕ
toward true n i = n - 1 - i
toward false n i = i

-- A row and a column of a box, from either end.
unfoldable pub row_line : (ℕ → ℕ → Bool) → ℕ → ℕ → ℕ → Bool → ℕ → Bool
row_line p x0 n y back i = p (x0 + toward back n i) y

unfoldable pub column_line : (ℕ → ℕ → Bool) → ℕ → ℕ → ℕ → Bool → ℕ → Bool
column_line p y0 n x back i = p x (y0 + toward back n i)

-- Start of the first and end of the last run of k or more, or none.
unfoldable pub extremes_of : ℕ → ℕ → (ℕ → Bool) → Option (ℕ × ℕ)
extremes_of k n t = cond (ltb (run_start k n t) n) (Some (run_start k n t, run_end k n t)) None

-- ---- rows: from k on, the pixels that no run can start at; 0 where one starts at k
unfoldable pub skip_of : ℕ → (ℕ → Bool) → ℕ → ℕ
skip_of zero t k = 0
skip_of (suc j) t k = cond (t (k + j)) (skip_of j t k) (suc j)

-- ---- columns: the state of a scan is one number. Below k, how many members stand just before place i; from k on, the first run was found,
-- and it starts at state - k.
unfoldable pub scan_step : ℕ → ℕ → Bool → ℕ → ℕ
scan_step k s b i = cond (leb k s) s (cond b (cond (eqb (s + 1) k) (i + 1) (s + 1)) 0)

unfoldable pub scan : ℕ → (ℕ → Bool) → ℕ → ℕ
scan k t zero = zero
scan k t (suc i) = scan_step k (scan k t i) (t i) i

-- The points of a column whose scans ended in d from the top and in u from the bottom.
unfoldable pub column_found : ℕ → ℕ → ℕ → ℕ → ℕ → ℕ → List (ℕ × ℕ)
column_found run y0 n x d u =
    cond (leb run d) ((2 * x + 1, 2 * (y0 + (d - run))) ∷ (2 * x + 1, 2 * (y0 + (n + run - u))) ∷ []) []

-- The points of n columns from x on, whose states are listed.
unfoldable pub columns_found : ℕ → List ℕ → List ℕ → ℕ → ℕ → ℕ → ℕ → List (ℕ × ℕ)
columns_found run down up y0 rows x n = joined n (λ i. column_found run y0 rows (x + i) (get_or down i 0) (get_or up i 0))

-- ---- grids
-- The threshold of a region cell, or 0 where its label does not count.
unfoldable pub cut_of : ℕ → ℕ → List ℕ → List ℕ → ℕ → ℕ → ℕ
cut_of want w levels labels cx cy = cond (counts want (plane (cells8 w) labels cx cy)) (plane (cells w) levels (cx / 2) (cy / 2)) 0

-- The lent grids of a picture of w by h have their cells.
pub record Grids (levels labels : List ℕ) (w h : ℕ) : Type 0 where
  pub wide : w ≤ 4096
  pub high : h ≤ 4096
  pub level_room : cells w * cells h ≤ length levels
  pub region_room : cells8 w * cells8 h ≤ length labels

-- The n columns from x on of the m rows from y0 on, of which there are some, lie in the picture s of w by h.
pub record Columns (s : List ℕ) (w h x n y0 m : ℕ) : Type 0 where
  pub bytes : length s ≡ w * h
  pub across : x + n ≤ w
  pub down : y0 + m ≤ h
  pub some : 0 < m

-- Thresholds of the n pixels from x on, in a row of region cells.
pub record CutRow (want w : ℕ) (levels labels : List ℕ) (x n cy : ℕ) (cuts : List ℕ) : Type 0 where
  pub size : length cuts ≡ 64
  pub each : (i : ℕ) → i < n → get_or cuts i 0 ≡ cut_of want w levels labels ((x + i) / 8) cy

-- The n elements of a list from place a on.
abbrev pub part_of : ℕ → ℕ → List ℕ → List ℕ
part_of a n l = take n (drop a l)

-- States of a strip of columns, one step of a scan later.
pub record Stepped (run : ℕ) (row cuts old : List ℕ) (k i : ℕ) (new : List ℕ) : Type 0 where
  pub size : length new ≡ 64
  pub done : (j : ℕ) → j < i → get_or new j 0 ≡ scan_step run (get_or old j 0) (ltb (get_or row j 0) (get_or cuts j 0)) k
  pub left : (j : ℕ) → i ≤ j → get_or new j 0 ≡ get_or old j 0

-- States of the n columns from x on, after i of the rows.
pub record Swept (run : ℕ) (p : ℕ → ℕ → Bool) (y0 rows x n : ℕ) (back : Bool) (i : ℕ) (states : List ℕ) : Type 0 where
  pub size : length states ≡ 64
  pub each : (j : ℕ) → j < n → get_or states j 0 ≡ scan run (column_line p y0 rows (x + j) back) i

-- The first n of a list are at most m.
abbrev pub AtMost : ℕ → ℕ → List ℕ → Type 0
AtMost n m l = (i : ℕ) → i < n → get_or l i 0 ≤ m

-- ---- the lent list
-- From old to new the numbers of points were stored from place at on, and r is the place after them.
pub record Wrote (at : ℕ) (ps : List (ℕ × ℕ)) (old new : List Float) (r : ℕ) : Type 0 where
  pub stored : Stored at (floats_of ps) old new r
