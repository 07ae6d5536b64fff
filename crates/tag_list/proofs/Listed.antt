-- Lists of tags: with-fix-is of one more; own-few, own-next of the tags of traces; own-stand, found-stand of which list stands; four of how
-- many. Assumes nothing.
use mathlib.Core.Path.{◌≡◌, refl, sym, ap, ap₂, ◌∙◌}
use mathlib.Core.List.{List, [], ◌∷◌, ◌++◌, append-nil}
use Prim.Native.Nat.{ℕ, zero, suc, ◌+◌, ◌≤◌, ◌<◌}
use native.Mathlib.Numerals.{add-one}
use native.Mathlib.Omega.{arith}
use lib.ListN.{length, length-append, set}
use Rattle.laws.specs.Plane.{plane}
use Rattle.regions.specs.Kept.{kept_count, kept_of}
use Rattle.std.proofs.Common.{Option, Some, None}
use Rattle.accept.specs.declared.Fix.{Fix}
use Rattle.ring.specs.declared.quads.Trace.{Trace}
use Rattle.finder.specs.Find.{try_of, trace_of}
use Rattle.tag_list.specs.declared.tag.Tag.{Tag}
use Rattle.tag_list.specs.declared.tag.Tags.{Tags}
use Rattle.tag_list.specs.Tags.{tag_of, fix_tags, own_tags, or_else, tags_of, padded, four_tags}
use Rattle.tag_list.specs.Inner.{with_tag, with_fix}
use Rattle.tag_list.specs.Claims.{AtMostFour}

-- ---- one more
padded-set : (n : ℕ) (s : List Tag) (t : Tag) → length s < n → set (padded n s) (length s) t ≡ padded n (s ++ (t ∷ []))
unfolding padded
padded-set zero s t l = absurd (omega arith)
padded-set (suc n) [] t l = refl
padded-set (suc n) (x ∷ s) t l = ap {B = List Tag} (λ r. x ∷ r) (padded-set n s t (omega arith))

with-tag-is : (s : List Tag) (t : Tag) → length s < 4 → with_tag (four_tags s) t ≡ four_tags (s ++ (t ∷ []))
unfolding with_tag four_tags
with-tag-is s t l =
    ap₂ (λ (n : ℕ) (q : List Tag). record { many = n; list = q }) (sym (length-append s (t ∷ []))) (padded-set 4 s t l)

pub with-fix-is : (s : List Tag) (f : Option Fix) → length s < 4 → with_fix (four_tags s) f ≡ four_tags (s ++ fix_tags f)
unfolding with_fix fix_tags
with-fix-is s (Some f) l = with-tag-is s (tag_of f) l
with-fix-is s None l = ap four_tags (sym (append-nil s))

-- how many there are
pub many_is : (s : List Tag) (t : Tags) → t ≡ four_tags s → t.many ≡ length s
unfolding four_tags
many_is s t e = ap (λ (t : Tags). t.many) e

-- ---- the tags of traces
fix-few : (f : Option Fix) → length (fix_tags f) ≤ 1
unfolding fix_tags
fix-few (Some f) = omega arith
fix-few None = omega arith

pub own-few : (f : ℕ → Trace) (n : ℕ) → length (own_tags f n) ≤ n
unfolding own_tags
own-few f zero = omega arith
own-few f (suc n) = omega (arith, length-append (own_tags f n) (fix_tags (f n).fix), own-few f n, fix-few (f n).fix)

pub own-next : (f : ℕ → Trace) (i : ℕ) → own_tags f i ++ fix_tags (f i).fix ≡ own_tags f (i + 1)
unfolding own_tags
own-next f i = ap (own_tags f) (sym (add-one i))

-- ---- which list stands
else-some : (s other : List Tag) → 0 < length s → or_else s other ≡ s
unfolding or_else
else-some [] other l = absurd (omega arith)
else-some (t ∷ s) other l = refl

else-none : (s other : List Tag) → length s ≤ 0 → or_else s other ≡ other
unfolding or_else
else-none [] other l = refl
else-none (t ∷ s) other l = absurd (omega arith)

module _ (gray : List ℕ) (w h most n : ℕ) (e : n ≡ kept_count (plane w gray) w h) (t : Tags)
    (et : t ≡ four_tags (own_tags (try_of gray w h most) n)) where
  own-kept : own_tags (try_of gray w h most) n ≡ own_tags (try_of gray w h most) (kept_count (plane w gray) w h)
  own-kept = ap (own_tags (try_of gray w h most)) e

  own-many : t.many ≡ length (own_tags (try_of gray w h most) (kept_count (plane w gray) w h))
  own-many = many_is _ t et ∙ ap (λ (s : List Tag). length s) own-kept

  pub own-stand : 0 < t.many → t ≡ four_tags (tags_of gray w h most)
  unfolding tags_of
  own-stand l =
      et ∙ ap four_tags (own-kept ∙ sym (else-some (own_tags (try_of gray w h most) (kept_count (plane w gray) w h))
      (fix_tags (trace_of gray w h most).fix) (omega (arith, own-many, l))))

  pub found-stand : (r : Tags) → t.many ≤ 0 → r ≡ four_tags (fix_tags (trace_of gray w h most).fix) → r ≡ four_tags (tags_of gray w h most)
  unfolding tags_of
  found-stand r l er =
      er ∙ ap four_tags (sym (else-none (own_tags (try_of gray w h most) (kept_count (plane w gray) w h))
      (fix_tags (trace_of gray w h most).fix) (omega (arith, own-many, l))))

-- ---- how many
else-few : (s other : List Tag) → length s ≤ 4 → length other ≤ 4 → length (or_else s other) ≤ 4
unfolding or_else
else-few [] other a b = b
else-few (t ∷ s) other a b = a

pub at-most-four : AtMostFour
unfolding AtMostFour tags_of kept_count kept_of
at-most-four gray w h most =
    else-few _ _ (omega (arith, own-few (try_of gray w h most) (kept_count (plane w gray) w h)))
    (omega (arith, fix-few (trace_of gray w h most).fix))
