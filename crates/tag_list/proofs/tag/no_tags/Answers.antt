-- By computation. Assumes nothing.
use mathlib.Core.Path.{ap}
use Rattle.tag_list.specs.declared.tag.Tag.{Tag}
use Rattle.tag_list.specs.Tags.{padded, four_tags}
use mathlib.Core.List.{[], ◌∷◌}
use Rattle.tag_list.proofs.tag.no_tags.Goals as goal

pub returns : goal.returns
unfolding four_tags padded
returns c = ap (λ (t : Tag). record { many = 0; list = t ∷ t ∷ t ∷ t ∷ [] }) c.no_tag-t.ensures
