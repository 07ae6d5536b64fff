-- By computation: a pixel is what the transform gives. Assumes nothing.
use mathlib.Core.Path.{ap}
use Rattle.transform.specs.declared.Pixel.{Pixel}
use Rattle.tag_list.specs.Tags.{mapped_point}
use Rattle.tag_list.proofs.tag.point_of.Goals as goal

pub returns : goal.returns
unfolding mapped_point
returns c = ap (λ (p : Pixel). record { x = p.x; y = p.y }) c.apply-p.ensures
