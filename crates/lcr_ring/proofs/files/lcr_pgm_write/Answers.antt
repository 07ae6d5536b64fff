-- `lcr_ring::files::lcr_pgm_write` meets its contract: the writer's answer, handed on. Assumes nothing.
use mathlib.Core.Path.{ap, ◌∙◌}
use Rattle.laws.specs.Said.{left_of, result_of}
use Rattle.lcr_ring.proofs.files.lcr_pgm_write.Goals as goal

pub returns : goal.returns
returns c =
    let a = c.args in
    let d = c.write-a.ensures in
    let p = c.put_bytes.ensures in
    record {
      answer = p.answer ∙ ap result_of d.answer;
      len = p.len ∙ ap (λ w. left_of w a.len.now) d.answer;
      out = d.out;
    }
