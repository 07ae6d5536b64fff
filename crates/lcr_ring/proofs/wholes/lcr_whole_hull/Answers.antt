-- `lcr_ring::wholes::lcr_whole_hull` meets its contract: the door's answer, handed on. Assumes nothing.
use mathlib.Core.Path.{ap, ◌∙◌}
use Rattle.laws.specs.Said.{result_of, left_of}
use Rattle.whole_hull.specs.Door.{hull_after}
use Rattle.lcr_ring.proofs.wholes.lcr_whole_hull.Goals as goal

pub returns : goal.returns
returns c =
    let a = c.args in
    let door = c.convex_hull-a.ensures in
    record {
      answer = c.put_vertices.ensures.answer ∙ ap result_of door.answer;
      vertices = c.put_vertices.ensures.vertices ∙ ap (λ x. left_of x a.vertices.now) door.answer;
      out = door.out ∙ ap (λ x. hull_after x a.points.now a.out.now) door.answer;
    }
