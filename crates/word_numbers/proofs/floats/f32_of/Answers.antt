-- `word_numbers::floats::f32_of` meets its contract. Assumes nothing.
use Rattle.word_numbers.proofs.Patterns.{nan-of}
use Rattle.ieee.proofs.Narrows.{no-nan-32}
use Rattle.word_numbers.proofs.floats.f32_of.Goals as goal

pub returns-then-word-gt2139095040 : goal.returns-then-word-gt2139095040
returns-then-word-gt2139095040 c = nan-of c.args.word c.if-word-gt2139095040.true

pub float_from_bits-result : goal.float_from_bits-result
float_from_bits-result c = no-nan-32 _ c.if-word-gt2139095040.false
