-- What the labelling's functions keep: their lists as a state of the labelling, and ink cells as the code counts them. Definitions only.
-- Assumes nothing.
use Rattle.std.specs.Prelude.{Bool, cond, true, ◌≡◌, ◌+◌, ◌<◌, ◌≤◌, suc, ℕ, ◌*◌, eqb, leb, ltb, get_or, length}
use mathlib.Core.List.{List, [], ◌∷◌, Memᴰ}
use Rattle.laws.specs.Fold.{bit}
use Rattle.laws.specs.Lists.{stack_of}
use Rattle.laws.specs.Plane.{Plane, plane, Alike}
use Rattle.levels.specs.Level.{cells, level}
use Rattle.picture_checks.specs.Picture.{Picture}
use Rattle.labels.specs.Cells.{ink_pixels}
use Rattle.labels.specs.Labelling.{MARK, State}

-- How many of a list are marks.
unfoldable pub marks : List ℕ → ℕ
marks [] = 0
marks (x ∷ xs) = cond (eqb x MARK) (suc (marks xs)) (marks xs)

-- No cell near `c` is a mark.
unfoldable pub Shut : (ℕ → ℕ → Bool) → List ℕ → ℕ → Type 0
Shut near l c = (d : ℕ) → near c d ≡ true → get_or l d 0 ≡ MARK → ⊥

-- The marks of the list are the ink cells.
unfoldable pub Inked : (ℕ → Bool) → List ℕ → Type 0
Inked ink l = (c : ℕ) → get_or l c 0 ≡ cond (ink c) MARK 0

-- ---- the labelling's lists
-- The code's list of cells, the first k places of its stack, the last first, and the label that it gives are those of a state.
pub record Shows (l st : List ℕ) (k v : ℕ) (σ : State) : Type 0 where
  pub given : σ.given ≡ v
  pub held : σ.held ≡ l
  pub stack : σ.stack ≡ stack_of st k

-- What keeps the code safe: each mark has a place left on the stack, and what is on the stack are cells.
pub record Safe (l st : List ℕ) (k : ℕ) : Type 0 where
  pub room : k + marks l ≤ length st
  pub inside : (c : ℕ) → Memᴰ c (stack_of st k) → c < length l

-- A grid of h rows of w cells, few enough for a label each.
pub record CellGrid (l : List ℕ) (w h : ℕ) : Type 0 where
  pub size : length l ≡ h * w
  pub few : h * w ≤ 262144
  pub some : 0 < w

-- 1 for a byte below t, at each place of a row and of a plane.
unfoldable pub row_below : List ℕ → ℕ → ℕ → ℕ
row_below row t i = bit (ltb (get_or row i 0) t)

unfoldable pub below : Plane → ℕ → Plane
below p t x y = bit (ltb (p x y) t)

-- The part of lx by ly pixels from (x0, y0), at most a region cell, lies in a picture of width w, of which s has the rows.
pub record CellInside (s : List ℕ) (w x0 y0 lx ly : ℕ) : Type 0 where
  pub wide : lx ≤ 8
  pub high : ly ≤ 8
  pub right : x0 + lx ≤ w
  pub low : y0 + ly ≤ 4096
  pub bottom : (y0 + ly) * w ≤ length s

-- A list holds the level grid of a picture.
pub record Levelled (s : List ℕ) (w h : ℕ) (grid : List ℕ) : Type 0 where
  pub picture : Picture s w h
  pub room : cells w * cells h ≤ length grid
  pub held : Alike (cells w) (cells h) (plane (cells w) grid) (level (plane w s) w h)

-- The mark of a cell with n ink pixels: at least 4 make it an ink cell. The mark of cell (x, y).
abbrev pub cell_mark : ℕ → ℕ
cell_mark n = cond (leb 4 n) MARK 0

unfoldable pub cell_mark_at : Plane → ℕ → ℕ → Plane
cell_mark_at p w h x y = cell_mark (ink_pixels p w h x y)
