-- `tag_list::tag::corners_of` meets its contract: four places through the transform. Assumes nothing.
use Rattle.tag_list.specs.Tags.{ring_corners}
use Rattle.tag_list.proofs.tag.corners_of.Goals as goal

pub returns : goal.returns
unfolding ring_corners
returns c = cc
