-- How far a shadow reaches, in the request's words: over every two pictures, as lists of bytes s and t, with the same sides w and h. No side
-- is too small or too large for what is said here: those of the pictures that the doors take are among them. Statements only.
use Rattle.std.specs.Prelude.{true, false, List, ◌≡◌, ℕ, ◌/◌, ◌<◌, get_or}
use Rattle.laws.specs.Plane.{plane}
use Rattle.levels.specs.Level.{cells, level, ink_at, ink_of}
use Rattle.levels.specs.Reach.{WithinCells}
use Rattle.picture_checks.specs.Picture.{Picture}
use Rattle.turned.specs.Calls.{Pictured}
use Rattle.shadow.specs.Shadow.{Away, OneCell, clear_bytes, shaded_bytes}

-- A threshold goes by the pixels of the level cells within r columns and r rows of its own: pictures that agree there have it in common,
-- however many others differ.
unfoldable pub LevelsBy : ℕ → Type 0
LevelsBy r = (w h : ℕ) (s t : List ℕ) (x y : ℕ) → x < cells w → y < cells h
    → ((u v : ℕ) → u < w → v < h → WithinCells r x y (u / 16) (v / 16) → plane w s u v ≡ plane w t u v)
    → level (plane w s) w h x y ≡ level (plane w t) w h x y

-- Pictures that differ only in pixels of one level cell have equal thresholds in every level cell more than r columns or more than r rows
-- away from it, and equal ink at every pixel of such a cell.
unfoldable pub LevelsPast : ℕ → Type 0
LevelsPast r = (w h : ℕ) (s t : List ℕ) (cx cy : ℕ) → OneCell w h cx cy s t
    → (x y : ℕ) → x < cells w → y < cells h → Away r cx cy x y
    → level (plane w s) w h x y ≡ level (plane w t) w h x y

unfoldable pub InkPast : ℕ → Type 0
InkPast r = (w h : ℕ) (s t : List ℕ) (cx cy : ℕ) → OneCell w h cx cy s t
    → (x y : ℕ) → x < w → y < h → Away r cx cy (x / 16) (y / 16)
    → ink_at (plane w s) w h x y ≡ ink_at (plane w t) w h x y

-- 11 cannot be 10: two pictures that the doors take differ only in level cell (0, 0); in cell (11, 0), which is more than 10 columns away,
-- the thresholds are 0 and 204, and the pixel at (176, 0), in that cell, is ink in the second only.
pub record NotTen : Type 0 where
  pub first : Picture clear_bytes 224 16
  pub second : Picture shaded_bytes 224 16
  pub bytes : (i : ℕ) → (get_or clear_bytes i 0 < 256) × (get_or shaded_bytes i 0 < 256)
  pub one_cell : OneCell 224 16 0 0 clear_bytes shaded_bytes
  pub away : Away 10 0 0 11 0
  pub first-level : level (plane 224 clear_bytes) 224 16 11 0 ≡ 0
  pub second-level : level (plane 224 shaded_bytes) 224 16 11 0 ≡ 204
  pub first-ink : ink_at (plane 224 clear_bytes) 224 16 176 0 ≡ false
  pub second-ink : ink_at (plane 224 shaded_bytes) 224 16 176 0 ≡ true
  pub no-levels : LevelsPast 10 → ⊥
  pub no-ink : InkPast 10 → ⊥

-- The whole claim.
pub record Shadow : Type 0 where
  pub by : LevelsBy 11
  pub levels : LevelsPast 11
  pub ink : InkPast 11
  pub not-ten : NotTen

-- What the doors leave: the level grids of two accepted calls of the picture door (crate turned, `Pictured`), for two pictures that differ
-- only in one level cell, are equal at every cell so far away, and so is the ink by these grids at every pixel of such a cell.
unfoldable pub GridsPast : ℕ → Type 0
GridsPast r = (w h : ℕ) (s t : List ℕ) (cx cy : ℕ) → OneCell w h cx cy s t → (c : Pictured s w h) (d : Pictured t w h)
    → ((x y : ℕ) → x < cells w → y < cells h → Away r cx cy x y
    → plane (cells w) c.grid x y ≡ plane (cells w) d.grid x y)
    × ((x y : ℕ) → x < w → y < h → Away r cx cy (x / 16) (y / 16)
    → ink_of (plane w s) (plane (cells w) c.grid) x y ≡ ink_of (plane w t) (plane (cells w) d.grid) x y)

unfoldable pub DoorsPast : Type 0
DoorsPast = GridsPast 11
