-- `lcr_ring::cells::lcr_shell` meets its contract. Assumes nothing.
use mathlib.Core.Path.{ap, ◌∙◌}
use Rattle.laws.specs.Said.{left_of, result_of}
use Rattle.lcr_core.specs.Doors.{shell_answer}
use Rattle.lcr_ring.proofs.Signed.{at-cell}
use Rattle.lcr_ring.proofs.cells.lcr_shell.Goals as goal

pub returns : goal.returns
returns c =
    let e = c.shell.ensures
    ∙ at-cell (shell_answer c.args.version) c.args.x c.args.y c.ranges.x c.ranges.y in
    record {
      answer = c.put_depth.ensures.answer ∙ ap result_of e;
      depth = c.put_depth.ensures.depth ∙ ap (λ s. left_of s c.args.depth.now) e;
    }
