-- Level cells that lie away from each other, and pictures that differ in one level cell, as the request on how far a shadow reaches has
-- them; the pair of pictures that shows that 11 cannot be 10. Definitions only. Assumes nothing.
use Rattle.std.specs.Prelude.{cond, ◌&&◌, List, [], ◌⊎◌, ◌≡◌, ℕ, ◌/◌, ◌<◌, eqb, ltb}
use Rattle.laws.specs.Gap.{gap}
use Rattle.laws.specs.Plane.{Plane, plane, drawn}

-- How far gap two columns, or two rows, are.
-- Cell (x, y) is more than r columns or more than r rows away from cell (cx, cy).
abbrev pub Away : ℕ → ℕ → ℕ → ℕ → ℕ → Type 0
Away r cx cy x y = (r < gap x cx) ⊎ (r < gap y cy)

-- Two pictures of w by h, with the bytes s and t, differ only in pixels of level cell (cx, cy): they are equal at every other pixel.
abbrev pub OneCell : ℕ → ℕ → ℕ → ℕ → List ℕ → List ℕ → Type 0
OneCell w h cx cy s t = (x y : ℕ) → x < w → y < h → ((x / 16 ≡ cx) × (y / 16 ≡ cy) → ⊥) → plane w s x y ≡ plane w t x y

-- ---- the pair, 224 by 16 pixels: every pixel is 255 but for one of 0 in level cell 11, at x = 176 and y = 0; and in the second picture 13
-- of 0 in level cell 0, at x = 0 to 12 and y = 0
abbrev pub clear_plane : Plane
clear_plane x y = cond (eqb x 176 && eqb y 0) 0 255

abbrev pub shaded : Plane
shaded x y = cond (ltb x 13 && eqb y 0) 0 (clear_plane x y)

-- Their bytes.
unfoldable pub clear_bytes : List ℕ
clear_bytes = drawn 224 16 clear_plane []

unfoldable pub shaded_bytes : List ℕ
shaded_bytes = drawn 224 16 shaded []
