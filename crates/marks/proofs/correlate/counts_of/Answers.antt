-- `counts_of` brings the sequence in once and counts. Assumes nothing.
use Rattle.std.proofs.Common.{◌≡◌, arith, length, length-take-le, ◌∙◌}
use Rattle.marks.proofs.correlate.counts_of.Goals as goal

pub counts_by-requires-clause-version_in_bounds : goal.counts_by-requires-clause-version_in_bounds
counts_by-requires-clause-version_in_bounds c =
    let h : length c.sequence.new.out ≡ c.positions.result = c.sequence.auto.out ∙ length-take-le _ _ (omega arith) in
    omega arith
