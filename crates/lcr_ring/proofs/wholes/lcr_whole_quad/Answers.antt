-- `lcr_ring::wholes::lcr_whole_quad` meets its contract: the door's answer, handed on. Assumes nothing.
use mathlib.Core.Path.{ap, ◌∙◌}
use Rattle.laws.specs.Said.{result_of, left_by}
use Rattle.whole_quad.specs.Door.{quad_numbers}
use Rattle.lcr_ring.proofs.wholes.lcr_whole_quad.Goals as goal

pub returns : goal.returns
returns c =
    let a = c.args in
    let door = c.quad.ensures in
    record {
      answer = c.put_corners.ensures.answer ∙ ap result_of door;
      quad = c.put_corners.ensures.quad ∙ ap (λ x. left_by quad_numbers x a.quad.now) door;
    }
