-- The level grid in the steps that the code takes: what its inner functions ask of the lists that they are handed, and what each leaves.
-- Definitions only. Assumes nothing.
use Rattle.std.specs.Prelude.{Bool, false, true, List, ◌≡◌, ◌*◌, ◌+◌, ◌<◌, ◌≤◌, max, min, ℕ, get_or, length}
use Rattle.laws.specs.Fold.{fold}
use Rattle.laws.specs.Plane.{Plane, box_row}
use Rattle.levels.specs.Level.{count_list, from3, in_bin, many3}
use Rattle.threshold.specs.Threshold.{threshold}

-- A grid of w by h level cells in the first places of a list.
pub record LevelGrid (g : List ℕ) (w h : ℕ) : Type 0 where
  pub wide : w ≤ 256
  pub high : h ≤ 256
  pub room : w * h ≤ length g

-- Three lent lists with a place for each of n cells.
pub record LevelRooms (n : ℕ) (grid darks lights : List ℕ) : Type 0 where
  pub grids : n ≤ length grid
  pub first : n ≤ length darks
  pub second : n ≤ length lights

-- The first n places of a list hold bytes.
abbrev pub Bytes : ℕ → List ℕ → Type 0
Bytes n l = (i : ℕ) → i < n → get_or l i 0 ≤ 255

-- The part of lx by ly pixels from (x0, y0) lies in a picture of width w, of which s has the rows.
pub record Within (s : List ℕ) (w x0 y0 lx ly : ℕ) : Type 0 where
  pub wide : lx ≤ 16
  pub high : ly ≤ 16
  pub right : x0 + lx ≤ w
  pub low : y0 + ly ≤ 4096
  pub bottom : (y0 + ly) * w ≤ length s

-- ---- bins

-- 32 bins in which f is counted.
pub record Bins (f : ℕ → ℕ) (l : List ℕ) : Type 0 where
  pub many : length l ≡ 32
  pub counts : (b : ℕ) → b < 32 → get_or l b 0 ≡ f b

-- Four times 32 bins in one list, in which bytes are counted by turns: the sums of the four.
abbrev pub sums : List ℕ → ℕ → ℕ
sums l b = get_or l b 0 + get_or l (32 + b) 0 + get_or l (64 + b) 0 + get_or l (96 + b) 0

-- Four times 32 bins in which f is counted.
pub record Counted (f : ℕ → ℕ) (l : List ℕ) : Type 0 where
  pub many : length l ≡ 128
  pub counts : (b : ℕ) → b < 32 → sums l b ≡ f b

-- The sums with one more in the bin of the byte v, and with the bytes of a row counted too.
abbrev pub one_more : ℕ → List ℕ → ℕ → ℕ
one_more v l b = sums l b + in_bin b v

abbrev pub row_more : List ℕ → List ℕ → ℕ → ℕ
row_more row l b = sums l b + count_list row (length row) b

-- Bins of at most n each.
abbrev pub BinsUpTo : ℕ → (ℕ → ℕ) → Type 0
BinsUpTo n f = (b : ℕ) → b < 32 → f b ≤ n

-- ---- least and greatest within 3 cells, in two steps: across the columns, then down the rows

-- The two operations, greatest where `most` is true, with what they begin from.
abbrev pub pool_step : Bool → ℕ → ℕ → ℕ
pool_step true = max
pool_step false = min

abbrev pub unit : Bool → ℕ
unit true = 0
unit false = 255

unfoldable pub pooled_across : Bool → ℕ → Plane → Plane
pooled_across most w g x y = box_row (pool_step most) (unit most) g (from3 x) (many3 w x) y

unfoldable pub column_extreme : Bool → Plane → ℕ → ℕ → ℕ → ℕ
column_extreme most g x y0 n = fold (pool_step most) (unit most) n (λ j. g x (y0 + j))

unfoldable pub pooled_down : Bool → ℕ → Plane → Plane
pooled_down most h g x y = column_extreme most g x (from3 y) (many3 h y)

unfoldable pub pooled : Bool → ℕ → ℕ → Plane → Plane
pooled most w h g = pooled_down most h (pooled_across most w g)

-- The thresholds of two lists, place by place.
abbrev pub pairwise : List ℕ → List ℕ → ℕ → ℕ
pairwise d l k = threshold (get_or d k 0) (get_or l k 0)
