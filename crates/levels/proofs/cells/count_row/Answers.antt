-- The first i bytes of the row are counted. Assumes nothing.
use mathlib.Core.Path.{◌∙◌}
use native.Mathlib.Omega.{arith}
use Rattle.levels.proofs.Hist.{count_list-le, count_list-more, count_list-none}
use Rattle.levels.proofs.cells.count_row.Goals as goal

pub loop-i-init : goal.loop-i-init
loop-i-init c = record { many = c.requires.bins_len; counts = λ b l. rw count_list-none (omega arith) }

pub count_one-requires-clause-bins_up_to : goal.count_one-requires-clause-bins_up_to
count_one-requires-clause-bins_up_to c b l =
    omega (arith, c.loop-i.invariant.counts b l, c.requires.bins_up_to b l, count_list-le c.args.row.now c.loop-i.i b)

pub loop-i-preserved : goal.loop-i-preserved
loop-i-preserved c =
    let row = c.args.row.now in
    let x = c.count_one.ensures in
    record {
      many = x.many;
      counts = λ b l. x.counts b l ∙ rw (count_list-more row c.loop-i.i b) (omega (arith, c.loop-i.invariant.counts b l));
    }
