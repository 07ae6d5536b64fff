-- `lcr_ring::cells::lcr_position` meets its contract. Assumes nothing.
use mathlib.Core.Path.{ap, ◌∙◌}
use Rattle.laws.specs.Said.{left_of, result_of}
use Rattle.lcr_core.specs.Doors.{place_answer}
use Rattle.lcr_ring.proofs.Signed.{at-cell}
use Rattle.lcr_ring.proofs.cells.lcr_position.Goals as goal

pub returns : goal.returns
returns c =
    let e = c.position.ensures
    ∙ at-cell (place_answer c.args.version) c.args.x c.args.y c.ranges.x c.ranges.y in
    record {
      answer = c.put_place.ensures.answer ∙ ap result_of e;
      position = c.put_place.ensures.position ∙ ap (λ s. left_of s c.args.position.now) e;
    }
