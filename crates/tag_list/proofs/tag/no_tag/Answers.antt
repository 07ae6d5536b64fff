-- By computation. Assumes nothing.
use mathlib.Core.Path.{refl}
use Rattle.tag_list.specs.Tags.{no_tag}
use Rattle.tag_list.proofs.tag.no_tag.Goals as goal

pub returns : goal.returns
unfolding no_tag
returns c = refl
