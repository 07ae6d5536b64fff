-- Points as whole numbers in doubled coordinates, x and y alternating, as the request on outlines in whole numbers has them: a coordinate is
-- 0 to 8,192, for pictures of up to 4,096 a side. Definitions only. Assumes nothing.
use Rattle.std.specs.Prelude.{List, [], ◌∷◌, ℕ, ◌+◌, ◌*◌, ◌≤◌, ◌<◌, length, get_or}

-- The points of a list of numbers, x and y alternating; a number left over is none.
unfoldable pub pairs_of : List ℕ → List (ℕ × ℕ)
pairs_of [] = []
pairs_of (x ∷ []) = []
pairs_of (x ∷ y ∷ l) = (x, y) ∷ pairs_of l

-- The coordinates of point i.
abbrev pub x_at : List ℕ → ℕ → ℕ
x_at l i = get_or l (2 * i) 0

abbrev pub y_at : List ℕ → ℕ → ℕ
y_at l i = get_or l (2 * i + 1) 0

-- Every number is a coordinate.
abbrev pub Bounded : List ℕ → Type 0
Bounded l = (i : ℕ) → i < length l → get_or l i 0 ≤ 8192
