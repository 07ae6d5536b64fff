-- `lcr_ring::cells::lcr_sequence_light` meets its contract. Assumes nothing.
use mathlib.Core.Path.{ap, ◌∙◌}
use Rattle.laws.specs.Said.{left_of, result_of}
use Rattle.lcr_ring.proofs.cells.lcr_sequence_light.Goals as goal

pub returns : goal.returns
returns c =
    let e = c.sequence_light.ensures in
    record {
      answer = c.put_mark.ensures.answer ∙ ap result_of e;
      light = c.put_mark.ensures.light ∙ ap (λ s. left_of s c.args.light.now) e;
    }
