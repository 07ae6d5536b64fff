-- `lcr_ring::outlines::lcr_convex_hull` meets its contract: the door's answer, handed on. Assumes nothing.
use mathlib.Core.Path.{ap, ◌∙◌}
use Rattle.laws.specs.Said.{result_of, left_of}
use Rattle.hull.specs.Door.{vertices_after}
use Rattle.lcr_ring.proofs.outlines.lcr_convex_hull.Goals as goal

pub returns : goal.returns
returns c =
    let a = c.args in
    let door = c.convex_hull.ensures in
    record {
      answer = c.put.ensures.number ∙ ap result_of door.answer;
      vertices = c.put.ensures.out ∙ ap (λ s. left_of s a.vertices.now) door.answer;
      out = door.out ∙ ap (λ s. vertices_after s a.points.now a.out.now) door.answer;
    }
