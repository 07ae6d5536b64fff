-- Lists of points, by rules 16 and 17: f32 numbers, x and y
-- alternating, and points in doubled whole coordinates, so that centres and edges of pixels are whole numbers. Definitions only. Assumes
-- nothing.
use Rattle.std.specs.Prelude.{false, ℕ, ◌+◌, ◌*◌, ◌/◌, ◌≤◌, length, get_or, pos, Float}
use mathlib.Core.List.{List, [], ◌∷◌, map, Memᴰ}
use Rattle.std.specs.Float.{binary32}
use Rattle.std.specs.Float.Ieee.{round}
use Rattle.whole.specs.Points.{Pt}
use Rattle.ieee.specs.Constants.{0f}

-- How many points a list of numbers has: whole ones only.
abbrev pub many : {A : Type 0} → List A → ℕ
many l = length l / 2

-- The coordinates of point i.
abbrev pub x_at : List Float → ℕ → Float
x_at l i = get_or l (2 * i) 0f

abbrev pub y_at : List Float → ℕ → Float
y_at l i = get_or l (2 * i + 1) 0f

-- The numbers of the points at some indices.
unfoldable pub points_at : List Float → List ℕ → List Float
points_at l [] = []
points_at l (i ∷ is) = x_at l i ∷ y_at l i ∷ points_at l is

-- ---- doubled coordinates
-- The f32 number n / 2.
unfoldable pub half_of : ℕ → Float
half_of n = round binary32 false n 2

-- The coordinates of a list of points, x and y alternating; and as the f32 numbers that they are when not doubled.
unfoldable pub numbers_of : List (ℕ × ℕ) → List ℕ
numbers_of [] = []
numbers_of (q ∷ l) = q.0 ∷ q.1 ∷ numbers_of l

unfoldable pub floats_of : List (ℕ × ℕ) → List Float
floats_of l = map half_of (numbers_of l)

-- The same points as points of the plane of whole numbers.
unfoldable pub pt_of : ℕ × ℕ → Pt
pt_of q = record { x = pos q.0; y = pos q.1 }

abbrev pub pts_of : List (ℕ × ℕ) → List Pt
pts_of l = map pt_of l

-- Every coordinate is at most n.
abbrev pub UpTo : ℕ → List (ℕ × ℕ) → Type 0
UpTo n L = (q : ℕ × ℕ) → Memᴰ q L → (q.0 ≤ n) × (q.1 ≤ n)

-- At most 2,048, doubled: the picture's sides are at most 1,024.
abbrev pub Small : List (ℕ × ℕ) → Type 0
Small L = UpTo 2048 L
