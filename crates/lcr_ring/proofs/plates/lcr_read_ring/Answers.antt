-- `lcr_ring::plates::lcr_read_ring` meets its contract. Assumes nothing.
use mathlib.Core.Path.{ap, ◌∙◌}
use Rattle.laws.specs.Said.{result_of}
use Rattle.proof_ring.specs.Doors.{marks_after}
use Rattle.lcr_ring.proofs.plates.lcr_read_ring.Goals as goal

pub returns : goal.returns
returns c =
    let a = c.args in
    let d = c.read_ring.ensures in
    record {
      answer = c.number_of.ensures ∙ ap result_of d.answer;
      marks = d.marks ∙ ap (λ s. marks_after s a.version a.pitch a.gray.now a.width a.marks.now) d.answer;
    }
