-- `lcr_ring::plates::lcr_draw_ring` meets its contract. Assumes nothing.
use mathlib.Core.Path.{ap, ◌∙◌}
use Rattle.laws.specs.Said.{result_of}
use Rattle.proof_ring.specs.Doors.{pixels_after}
use Rattle.lcr_ring.proofs.plates.lcr_draw_ring.Goals as goal

pub returns : goal.returns
returns c =
    let a = c.args in
    let d = c.draw_ring.ensures in
    record {
      answer = c.number_of.ensures ∙ ap result_of d.answer;
      gray = d.pixels
          ∙ ap (λ s. pixels_after s a.version a.pitch a.corner a.reversed a.gray.now a.width a.height) d.answer;
    }
