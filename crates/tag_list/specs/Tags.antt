-- The tags of a picture: which there are, where their corners lie, and what the entry answers. `gray` holds the picture's bytes, w and h
-- are its sides. Definitions only. Assumes nothing.
use Rattle.std.specs.Prelude.{ℕ, zero, suc, false, List, [], ◌∷◌, ◌++◌, Option, Some, None, Float, length}
use Rattle.std.specs.Float.Ieee.{neg}
use Rattle.ieee.specs.Constants.{0f}
use Rattle.laws.specs.Plane.{plane}
use Rattle.laws.specs.Said.{Said, refuse, give}
use Rattle.lcr_core.specs.Version.{side_of}
use Rattle.regions.specs.Kept.{kept_count}
use Rattle.transform.specs.Mapping.{applied}
use Rattle.transform.specs.declared.Transform.{Transform}
use Rattle.hull.specs.declared.points.Point.{Point}
use Rattle.hull.specs.declared.points.Quad.{Quad}
use Rattle.fit.specs.F32.{◌⊕◌, whole_float, 3f}
use Rattle.accept.specs.declared.Fix.{Fix}
use Rattle.ring.specs.declared.quads.Trace.{Trace}
use Rattle.finder.specs.Find.{try_of, trace_of}
use Rattle.tag_list.specs.declared.tag.Tag.{Tag}
use Rattle.tag_list.specs.declared.tag.Tags.{Tags}

-- ---- a tag
-- The place in the picture of a place (u, v) of module space.
unfoldable pub mapped_point : Transform → Float → Float → Point
mapped_point m u v = record { x = (applied m u v).x; y = (applied m u v).y }

-- The corners of a ring in the picture, in its own order: of its outer square, from −3 to side + 3 in x and y, first the corner of
-- position 0, then along rising positions.
unfoldable pub ring_corners : Fix → Quad
ring_corners f =
    let lo = neg 3f in
    let hi = whole_float (side_of f.version) ⊕ 3f in
    record { a = mapped_point f.map lo lo; b = mapped_point f.map hi lo; c = mapped_point f.map hi hi; d = mapped_point f.map lo hi }

-- The tag of a fix.
unfoldable pub tag_of : Fix → Tag
tag_of f = record { version = f.version; agreement = f.agreement; mirrored = f.mirrored; corners = ring_corners f }

-- ---- the tags of a picture
-- The tag of a fix or none, as a list.
unfoldable pub fix_tags : Option Fix → List Tag
fix_tags (Some f) = tag_of f ∷ []
fix_tags None = []

-- The tags of the first n traces of f, in order.
unfoldable pub own_tags : (ℕ → Trace) → ℕ → List Tag
own_tags f zero = []
own_tags f (suc n) = own_tags f n ++ fix_tags (f n).fix

-- A list, and another where it is empty.
unfoldable pub or_else : List Tag → List Tag → List Tag
or_else [] other = other
or_else (t ∷ s) other = t ∷ s

-- The tags of a picture: of the kept regions' own fixes, in the regions' order; where there is none, of what the finder finds.
unfoldable pub tags_of : List ℕ → ℕ → ℕ → ℕ → List Tag
tags_of gray w h most =
    or_else (own_tags (try_of gray w h most) (kept_count (plane w gray) w h)) (fix_tags (trace_of gray w h most).fix)

-- ---- the answer
-- What stands in the places past the tags.
abbrev pub no_point : Point
no_point = record { x = 0f; y = 0f }

unfoldable pub no_tag : Tag
no_tag = record {
  version = 0;
  agreement = 0f;
  mirrored = false;
  corners = record { a = no_point; b = no_point; c = no_point; d = no_point };
}

-- The first n tags of a list, and that where it has ended.
unfoldable pub padded : ℕ → List Tag → List Tag
padded zero s = []
padded (suc n) [] = no_tag ∷ padded n []
padded (suc n) (t ∷ s) = t ∷ padded n s

-- A list of at most four tags: how many, and four places.
unfoldable pub four_tags : List Tag → Tags
four_tags s = record { many = length s; list = padded 4 s }

abbrev pub no_tags : Tags
no_tags = four_tags []

-- The answer by the number of the first check that fails, 0 where none does.
unfoldable pub tags_by : ℕ → List ℕ → ℕ → ℕ → ℕ → Said Tags
tags_by zero gray w h most = give (four_tags (tags_of gray w h most))
tags_by (suc n) gray w h most = refuse (suc n)
