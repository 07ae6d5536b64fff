-- What the functions over a picture and its regions keep, and what those that write text hold on their way. Definitions only. Assumes
-- nothing.
use Rattle.std.specs.Prelude.{◌≡◌, List, [], ◌∷◌, ◌++◌, map, ℕ, ◌*◌, ◌≤◌, ◌<◌, length, get_or, Float}
use Rattle.ieee.specs.Constants.{0f}
use Rattle.regions.specs.declared.answer.Region.{Region}
use Rattle.region_outline.specs.Region.{Boxed}
use Rattle.std.specs.Float.{binary32}
use Rattle.std.specs.Float.Ieee.{of_bits, mul, to_unsigned}
use Rattle.hull.specs.Points.{many}
use Rattle.hull.specs.Hull.{hull_of, hull_floats}
use Rattle.hull.specs.Quad.{quad_floats}
use Rattle.text.specs.Text.{line_of, quad_word, none_word}
use Rattle.traylist_text.specs.Listing.{outline_word}

-- The bytes of a picture with sides up to 160.
pub record TrayPicture (s : List ℕ) (w h : ℕ) : Type 0 where
  pub bytes : length s ≡ w * h
  pub some_wide : 1 ≤ w
  pub wide : w ≤ 160
  pub some_high : 1 ≤ h
  pub high : h ≤ 160

-- A region whose box lies in a picture of w by h and is not empty, and whose numbers are below 100,000.
pub record TrayRegion (w h : ℕ) (r : Region) : Type 0 where
  pub label : r.label < 100000
  pub cells : r.cells < 100000
  pub boxed : Boxed w h r

-- Every number of a list is below 100,000.
abbrev pub Short : List ℕ → Type 0
Short ns = (i : ℕ) → i < length ns → get_or ns i 0 < 100000

-- The number 2 x, cut to a whole number.
unfoldable pub cut_double : Float → ℕ
cut_double x = to_unsigned 32 (mul binary32 x (of_bits binary32 0x4000_0000))

-- The line of a quad whose corners are given as numbers.
unfoldable pub corners_line : List Float → List ℕ
corners_line [] = line_of none_word []
corners_line (x ∷ xs) = line_of quad_word (map cut_double (x ∷ xs))

-- Every coordinate doubled is below 1,000.
abbrev pub NearPoints : List Float → Type 0
NearPoints l = (i : ℕ) → cut_double (get_or l i 0f) < 1000

-- Points of an outline: at most 640, and near.
pub record OutlinePoints (p : List Float) : Type 0 where
  pub few : length p ≤ 1280
  pub near : NearPoints p

-- The lines of an outline whose points are given as numbers.
unfoldable pub lines_by : List Float → List ℕ
lines_by p = line_of outline_word (many p ∷ length (hull_of p (many p)) ∷ []) ++ corners_line (quad_floats (hull_floats p))
