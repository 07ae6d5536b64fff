-- `word_numbers::floats::f64_of` meets its contract. Assumes nothing.
use Rattle.ieee.proofs.Narrows.{no-nan-pattern-64}
use Rattle.word_numbers.proofs.floats.f64_of.Goals as goal

pub float_from_bits-result : goal.float_from_bits-result
float_from_bits-result c = no-nan-pattern-64 _ c.if-bits-gt9218868437227405312.false
