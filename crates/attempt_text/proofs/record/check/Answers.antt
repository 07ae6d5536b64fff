-- `attempt_text::record::check` meets its contract. Each way out is one line of the chain of checks. Assumes nothing.
use Rattle.attempt_text.proofs.Records.{refuse-short, refuse-many, refuse-pixels, refuse-numbers, check-passes}
use native.Mathlib.Omega.{arith}
use Rattle.attempt_text.proofs.record.check.Goals as goal

pub returns-then-s-lt20 : goal.returns-then-s-lt20
returns-then-s-lt20 c = refuse-short c.args.s.now (omega arith)

pub returns-then-n-gt1048576 : goal.returns-then-n-gt1048576
returns-then-n-gt1048576 c =
    let s = c.args.s.now in
    refuse-many s (omega arith) (omega (arith, c.pixel_count-n.ensures.0))

pub returns-then-s-n : goal.returns-then-s-n
returns-then-s-n c =
    let s = c.args.s.now in
    let p = c.pixel_count-n.ensures.0 in
    refuse-pixels s (omega arith) (omega (arith, p)) (omega (arith, p))

pub returns-then-s-n-2 : goal.returns-then-s-n-2
returns-then-s-n-2 c =
    let s = c.args.s.now in
    let p = c.pixel_count-n.ensures.0 in
    let n = c.number_count-m.ensures.0 in
    refuse-numbers s (omega arith) (omega (arith, p)) (omega (arith, p)) (omega (arith, p, n))

pub returns : goal.returns
returns c =
    let s = c.args.s.now in
    let p = c.pixel_count-n.ensures.0 in
    let n = c.number_count-m.ensures.0 in
    check-passes s (omega arith) (omega (arith, p)) (omega (arith, p)) (omega (arith, p, n))
