-- An attempt's trace as numbers. Versions, corners and flags are exact in either format. Definitions only. Assumes nothing.
use Rattle.std.specs.Prelude.{ℕ, ◌%◌, Bool, true, false, List, [], ◌∷◌, Option, Some, None, replicate, pos, from_bits, Float}
use Rattle.std.specs.Float.{binary32, binary64}
use Rattle.std.specs.Float.Ieee.{of_int}
use Rattle.laws.specs.Fold.{bit, joined}
use Rattle.hull.specs.Quad.{values_of}
use Rattle.hull.specs.declared.points.Quad.{Quad}
use Rattle.search.specs.declared.versions.Score.{Score}
use Rattle.accept.specs.Accept.{place_at}
use Rattle.accept.specs.declared.Fix.{Fix}
use Rattle.transform.specs.Mapping.{eleven_of}

-- A score's numbers: version, agreement, corner, and 1 where the ring runs backwards, else 0. A corner is 0 to 3, so that the remainder is
-- the corner itself.
abbrev pub four_of : Score → List Float
four_of s =
    of_int binary32 (pos s.version) ∷ s.agreement ∷ of_int binary32 (pos (s.corner % 4)) ∷ of_int binary32 (pos (bit s.mirrored)) ∷ []

-- Those of place k of a list, of the first n places, and of all 64.
abbrev pub row_at : List Score → ℕ → List Float
row_at l k = four_of (place_at l k)

abbrev pub rows_to : List Score → ℕ → List Float
rows_to l n = joined n (row_at l)

abbrev pub score_rows : List Score → List Float
score_rows l = rows_to l 64

-- A ring's numbers: version, agreement, corner, mirrored as above, then the transform's eleven.
abbrev pub fifteen_of : Fix → List Float
fifteen_of f =
    of_int binary64 (pos f.version) ∷ f.agreement ∷ of_int binary64 (pos (f.corner % 4)) ∷ of_int binary64 (pos (bit f.mirrored))
    ∷ eleven_of f.map

-- The same of a ring or none: all 0 where there is none.
abbrev pub ring_of : Option Fix → List Float
ring_of (Some f) = fifteen_of f
ring_of None = replicate 15 (from_bits binary64 0)

-- A quad's numbers, all 0 where there is none, and whether there is one.
abbrev pub found_numbers : Option Quad → List Float
found_numbers (Some q) = values_of (Some q)
found_numbers None = replicate 8 (from_bits binary32 0)

abbrev pub is_found : Option Quad → Bool
is_found (Some q) = true
is_found None = false
