-- After so many turns the grid holds so many passes (Filling). Assumes nothing.
use native.Mathlib.Omega.{arith}
use Rattle.levels.proofs.Fill.{filling-begin, filling-end, filling-turn}
use Rattle.levels.proofs.passes.fill_passes.Goals as goal

pub loop-init : goal.loop-init
loop-init c = filling-begin c.args.w c.args.h c.args.grid.now c.args.work.now (omega arith)

pub loop-preserved : goal.loop-preserved
loop-preserved c =
    let f = c.loop.invariant in
    let fill = c.fill_pass in
    let back = c.narrow in
    filling-turn f c.loop-test.true fill.ensures.next
    back.ensures back.auto.dst fill.auto.next

pub returns : goal.returns
returns c =
    record {
      grid = filling-end c.loop.invariant c.loop-test.false;
      work_past = c.loop.invariant.past;
    }
