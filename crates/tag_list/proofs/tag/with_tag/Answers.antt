-- By computation. Assumes nothing.
use mathlib.Core.Path.{refl}
use Rattle.tag_list.specs.Inner.{with_tag}
use Rattle.tag_list.proofs.tag.with_tag.Goals as goal

pub returns : goal.returns
unfolding with_tag
returns c = refl
