-- `lcr_ring::poses::lcr_split` meets its contract. Assumes nothing.
use mathlib.Core.Path.{ap, ◌∙◌}
use Rattle.laws.specs.Said.{result_of}
use Rattle.c_cells.specs.Poses.{split_after_call, round_after}
use Rattle.lcr_ring.proofs.poses.lcr_split.Goals as goal

pub returns : goal.returns
returns c =
    let a = c.args in
    let d = c.split_window.ensures in
    let p = c.put_split.ensures in
    record {
      answer = p.answer ∙ ap result_of d;
      split = p.split ∙ ap (λ s. split_after_call s a.split.now) d;
      round = p.round ∙ ap (λ s. round_after s a.round.now) d;
    }
