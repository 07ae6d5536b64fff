-- The tray list, by rules 43 and 44: the refusal of a bad input, or the listing of its picture over the definitions
-- of the picture door, the outline door, hull and quad. Definitions only. Assumes nothing.
use Rattle.std.specs.Prelude.{List, [], ◌∷◌, ◌++◌, ℕ, zero, suc, length, get_or, drop, replicate}
use Rattle.laws.specs.Plane.{Plane, plane}
use Rattle.regions.specs.Regions.{region_fields, no_region, kept_regions}
use Rattle.regions.specs.declared.answer.Region.{Region}
use Rattle.hull.specs.Points.{numbers_of}
use Rattle.hull.specs.Hull.{hull_points}
use Rattle.hull.specs.Quad.{quad_points}
use Rattle.laws.specs.Fold.{joined}
use Rattle.region_outline.specs.Region.{region_points}
use Rattle.text.specs.Text.{line_of, refused_word, quad_word, none_word}
use Rattle.tray.specs.Input.{check_input, input_width, input_height, input_pixels}

-- ---- the words
-- regions
abbrev pub regions_word : List ℕ
regions_word = 114 ∷ 101 ∷ 103 ∷ 105 ∷ 111 ∷ 110 ∷ 115 ∷ []

-- region
abbrev pub region_word : List ℕ
region_word = 114 ∷ 101 ∷ 103 ∷ 105 ∷ 111 ∷ 110 ∷ []

-- outline
abbrev pub outline_word : List ℕ
outline_word = 111 ∷ 117 ∷ 116 ∷ 108 ∷ 105 ∷ 110 ∷ 101 ∷ []

-- ---- the listing
-- The corners doubled, or none.
unfoldable pub quad_line : List (ℕ × ℕ) → List ℕ
quad_line [] = line_of none_word []
quad_line (q ∷ l) = line_of quad_word (numbers_of (q ∷ l))

-- The lines of an outline: how many points and hull vertices, and the quad.
unfoldable pub outline_lines : List (ℕ × ℕ) → List ℕ
outline_lines L = line_of outline_word (length L ∷ length (hull_points L) ∷ []) ++ quad_line (quad_points (hull_points L))

-- The lines of a region: label, cells, box, then its outline.
unfoldable pub region_lines : Plane → ℕ → ℕ → Region → List ℕ
region_lines p w h r =
    line_of region_word (region_fields r)
    ++ outline_lines (region_points p w h r)

-- The lines of the first n kept regions.
unfoldable pub first_lines : Plane → ℕ → ℕ → ℕ → List ℕ
first_lines p w h n = joined n (λ i. region_lines p w h (get_or (kept_regions p w h).list i no_region))

-- The listing of a picture: all regions and kept, then the kept regions.
unfoldable pub picture_text : Plane → ℕ → ℕ → List ℕ
picture_text p w h =
    line_of regions_word ((kept_regions p w h).all ∷ (kept_regions p w h).kept ∷ []) ++ first_lines p w h (kept_regions p w h).kept

-- The listing of an input that is refused with the number n; 0 is no refusal.
unfoldable pub text_by : ℕ → List ℕ → List ℕ
text_by zero s = picture_text (plane (input_width s) (input_pixels s)) (input_width s) (input_height s)
text_by (suc n) s = line_of refused_word (suc n ∷ [])

unfoldable pub text_of : List ℕ → List ℕ
text_of s = text_by (check_input s) s

-- 512 bytes that begin with a text, zeros after it.
abbrev pub filled : List ℕ → List ℕ
filled t = t ++ drop (length t) (replicate 512 0)
