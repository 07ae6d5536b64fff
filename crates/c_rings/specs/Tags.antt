-- Tags as numbers. Versions and flags are exact in f32. Definitions only. Assumes nothing.
use Rattle.std.specs.Prelude.{ℕ, false, List, [], ◌∷◌, pos, slice_index_or, Float}
use Rattle.std.specs.Float.{nan, binary32}
use Rattle.std.specs.Float.Ieee.{of_int}
use Rattle.laws.specs.Fold.{bit, joined}
use Rattle.hull.specs.declared.points.Point.{Point}
use Rattle.tag_list.specs.declared.tag.Tag.{Tag}

-- A tag's numbers: version, agreement, 1 where it is mirrored, else 0, then x and y of its corners in order.
abbrev pub tag_numbers : Tag → List Float
tag_numbers t =
    let q = t.corners in
    of_int binary32 (pos t.version) ∷ t.agreement ∷ of_int binary32 (pos (bit t.mirrored))
    ∷ q.a.x ∷ q.a.y ∷ q.b.x ∷ q.b.y ∷ q.c.x ∷ q.c.y ∷ q.d.x ∷ q.d.y ∷ []

-- What stands past the end of a list of tags.
abbrev pub past_point : Point
past_point = record { x = nan; y = nan }

abbrev pub past_tag : Tag
past_tag = record {
  version = 0;
  agreement = nan;
  mirrored = false;
  corners = record { a = past_point; b = past_point; c = past_point; d = past_point };
}

-- The numbers of place k of a list, and of all four places.
abbrev pub place_numbers : List Tag → ℕ → List Float
place_numbers l k = tag_numbers (slice_index_or l k past_tag)

abbrev pub list_numbers : List Tag → List Float
list_numbers l = joined 4 (place_numbers l)
