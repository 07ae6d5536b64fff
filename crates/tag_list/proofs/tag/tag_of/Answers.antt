-- By computation over its corners. Assumes nothing.
use mathlib.Core.Path.{ap}
use Rattle.hull.specs.declared.points.Quad.{Quad}
use Rattle.tag_list.specs.Tags.{tag_of}
use Rattle.tag_list.proofs.tag.tag_of.Goals as goal

pub returns : goal.returns
unfolding tag_of
returns c =
    let f = c.args.f in
    ap (λ (q : Quad). record { version = f.version; agreement = f.agreement; mirrored = f.mirrored; corners = q }) c.corners_of-q.ensures
