-- `read_ring` writes the marks where the checks pass. Assumes nothing.
use mathlib.Core.Path.{refl}
use lib.ListN.{length}
use Rattle.proof_ring.proofs.Answers.{rows_of}
use Rattle.proof_ring.proofs.read_ring.Goals as goal

pub read_marks-requires-clause-w_in_bounds : goal.read_marks-requires-clause-w_in_bounds
read_marks-requires-clause-w_in_bounds c =
    let a = c.args in
    let f = c.in_ok-check.ensures.passed refl in
    rows_of _ a.pitch a.w a.h (length a.pixels.now) f.1.high f.0.count
