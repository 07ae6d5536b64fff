-- `lcr_ring::rows::lcr_rows_with` meets its contract: the entry's answer, handed on. Assumes nothing.
use mathlib.Core.Path.{ap, ◌∙◌}
use Rattle.laws.specs.Said.{left_of, result_of}
use Rattle.lcr_ring.proofs.rows.lcr_rows_with.Goals as goal

pub returns : goal.returns
returns c =
    let a = c.args in
    let d = c.rows_with.ensures in
    let p = c.put_count.ensures in
    record {
      answer = p.answer ∙ ap result_of d;
      count = p.count ∙ ap (λ s. left_of s a.count.now) d;
    }
