-- `pgm::steps::run` meets its contract. The loop's invariant: the steps over what is left lead from here to where those over all bytes
-- lead. Assumes nothing.
use Rattle.pgm.proofs.Runs.{run-turn, run_end}
use Rattle.pgm.proofs.Beside.{steps-stay}
use Rattle.pgm.specs.declared.steps.Reading.{Reading}
use Rattle.pgm.specs.Steps.{steps_over}
use lib.ListN.{drop}
use Prim.Native.Nat.{◌+◌}
use mathlib.Core.Path.{◌∙◌, sym, ap}
use Rattle.pgm.proofs.steps.run.Goals as goal

pub loop-i-init : goal.loop-i-init
loop-i-init c = ap (λ (r : Reading). steps_over r (drop 2 c.args.s.now)) c.begin-h.ensures

pub returns-then-ended : goal.returns-then-ended
returns-then-ended c =
    let q = c.loop-i in
    let s = c.args.s.now in
    sym (steps-stay q.h (drop q.i s) (sym c.ended.ensures ∙ c.if-ended.true)) ∙ q.invariant

pub loop-i-preserved : goal.loop-i-preserved
loop-i-preserved c =
    let q = c.loop-i in
    let s = c.args.s.now in
    ap (λ (r : Reading). steps_over r (drop (q.i + 1) s)) c.step-h.ensures ∙ sym (run-turn q.h s q.i c.loop-i-test.true) ∙ q.invariant

pub returns : goal.returns
returns c =
    let q = c.loop-i in
    let s = c.args.s.now in
    sym (run_end q.h s q.i c.loop-i-test.false) ∙ q.invariant
