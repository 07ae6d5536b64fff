-- `lcr_ring::poses::lcr_classify` meets its contract. Assumes nothing.
use mathlib.Core.Path.{ap, ◌∙◌}
use Rattle.laws.specs.Said.{result_of}
use Rattle.marks.specs.Doors.{marks_after}
use Rattle.lcr_ring.proofs.poses.lcr_classify.Goals as goal

pub returns : goal.returns
returns c =
    let d = c.classify.ensures in
    record {
      answer = c.number_of.ensures ∙ ap result_of d.answer;
      marks = d.marks ∙ ap (λ s. marks_after s c.args.lumas.now c.args.marks.now) d.answer;
    }
