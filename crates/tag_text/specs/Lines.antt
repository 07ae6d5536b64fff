-- The tags of a picture as text: a line for each, `none` where there is none, `refused` and a number for a refusal. Definitions only.
-- Assumes nothing.
use Rattle.std.specs.Prelude.{ℕ, zero, suc, min, Bool, cond, List, [], ◌∷◌, ◌++◌, length, drop, replicate, slice_index_or, Float}
use Rattle.laws.specs.Fold.{joined}
use Rattle.laws.specs.Said.{Said, refuse, none, give}
use Rattle.text.specs.Text.{decimal, line_of, refused_word}
use Rattle.hull.specs.declared.points.Point.{Point}
use Rattle.hull.specs.declared.points.Quad.{Quad}
use Rattle.tag_list.specs.Tags.{no_tag}
use Rattle.tag_list.specs.declared.tag.Tag.{Tag}
use Rattle.tag_list.specs.declared.tag.Tags.{Tags}
use Rattle.tag_text.specs.Decimal.{fixed}

-- ---- the words
-- none
abbrev pub none_text : List ℕ
none_text = 110 ∷ 111 ∷ 110 ∷ 101 ∷ []

-- version
abbrev pub version_word : List ℕ
version_word = 118 ∷ 101 ∷ 114 ∷ 115 ∷ 105 ∷ 111 ∷ 110 ∷ []

-- agreement, with a space before it
abbrev pub agreement_word : List ℕ
agreement_word = 32 ∷ 97 ∷ 103 ∷ 114 ∷ 101 ∷ 101 ∷ 109 ∷ 101 ∷ 110 ∷ 116 ∷ []

-- mirrored, with a space before it
abbrev pub mirrored_word : List ℕ
mirrored_word = 32 ∷ 109 ∷ 105 ∷ 114 ∷ 114 ∷ 111 ∷ 114 ∷ 101 ∷ 100 ∷ []

-- yes, with a space before it
abbrev pub yes_word : List ℕ
yes_word = 32 ∷ 121 ∷ 101 ∷ 115 ∷ []

-- no, with a space before it
abbrev pub no_word : List ℕ
no_word = 32 ∷ 110 ∷ 111 ∷ []

-- corners, with a space before it
abbrev pub corners_word : List ℕ
corners_word = 32 ∷ 99 ∷ 111 ∷ 114 ∷ 110 ∷ 101 ∷ 114 ∷ 115 ∷ []

-- The end of a line.
abbrev pub end : List ℕ
end = 10 ∷ []

-- ---- a tag
-- yes or no
abbrev pub yes_or_no : Bool → List ℕ
yes_or_no b = cond b yes_word no_word

-- A point, x then y, to a tenth of a pixel.
unfoldable pub point_text : Point → List ℕ
point_text p = fixed 1 p.x ++ fixed 1 p.y

-- Four corners in their order.
unfoldable pub corners_text : Quad → List ℕ
corners_text q = point_text q.a ++ (point_text q.b ++ (point_text q.c ++ point_text q.d))

-- What a tag is: version, agreement to a thousandth.
unfoldable pub ring_text : ℕ → Float → List ℕ
ring_text version agreement = version_word ++ ((32 ∷ decimal version) ++ (agreement_word ++ fixed 3 agreement))

-- How it lies: whether it is mirrored, corners in the ring's own order.
unfoldable pub pose_text : Bool → Quad → List ℕ
pose_text mirrored corners = mirrored_word ++ (yes_or_no mirrored ++ (corners_word ++ (corners_text corners ++ end)))

-- The line of a tag.
unfoldable pub tag_line : Tag → List ℕ
tag_line t = ring_text t.version t.agreement ++ pose_text t.mirrored t.corners

-- ---- an answer
-- The lines of the first n tags of a list.
unfoldable pub tag_lines : List Tag → ℕ → List ℕ
tag_lines list n = joined n (λ i. tag_line (slice_index_or list i no_tag))

-- The lines of n tags, or `none`.
unfoldable pub some_lines : List Tag → ℕ → List ℕ
some_lines list zero = none_text ++ end
some_lines list (suc n) = tag_lines list (suc n)

-- The lines of the tags, of which there are at most four.
unfoldable pub tags_text : Tags → List ℕ
tags_text t = some_lines t.list (min t.many 4)

-- The answer's refusal, or its tags; the entry says nothing else.
unfoldable pub answer_text : Said Tags → List ℕ
answer_text (give t) = tags_text t
answer_text (refuse n) = line_of refused_word (n ∷ [])
answer_text none = []

-- 1,024 bytes that begin with a text, zeros after it.
abbrev pub filled : List ℕ → List ℕ
filled t = t ++ drop (length t) (replicate 1024 0)
