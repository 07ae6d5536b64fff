-- What the inner functions of the list of tags keep. Definitions only. Assumes nothing.
use Rattle.std.specs.Prelude.{ℕ, ◌+◌, cond, List, Option, Some, None, ◌≡◌, eqb, set}
use Rattle.accept.specs.declared.Fix.{Fix}
use Rattle.ring.specs.Trace.{first_of}
use Rattle.ring.specs.declared.quads.Trace.{Trace}
use Rattle.finder.specs.Find.{try_of, best_trace}
use Rattle.tag_list.specs.declared.tag.Tag.{Tag}
use Rattle.tag_list.specs.declared.tag.Tags.{Tags}
use Rattle.tag_list.specs.declared.sweep.Swept.{Swept}
use Rattle.tag_list.specs.Tags.{tag_of, own_tags, four_tags}

-- One tag more, in the next place.
unfoldable pub with_tag : Tags → Tag → Tags
with_tag s t = record { many = s.many + 1; list = set s.list s.many t }

-- The same of a fix or none.
unfoldable pub with_fix : Tags → Option Fix → Tags
with_fix s (Some f) = with_tag s (tag_of f)
with_fix s None = s

-- The trace that stands after try i, whose trace is t: the first stands whatever it is.
unfoldable pub standing_of : Trace → Trace → ℕ → Trace
standing_of best t i = cond (eqb i 0) t (first_of best t)

-- What is known after i tries of a picture: the trace that stands, and the tags of their own fixes.
pub record After (gray : List ℕ) (w h most i : ℕ) (s : Swept) : Type 0 where
  pub best : s.best ≡ best_trace (try_of gray w h most) i
  pub tags : s.tags ≡ four_tags (own_tags (try_of gray w h most) i)
