-- `word_numbers::floats::bits64` meets its contract. Assumes nothing.
use mathlib.Core.Path.{sym, ◌∙◌}
use Rattle.word_numbers.proofs.Patterns.{bits-64}
use Rattle.word_numbers.proofs.floats.bits64.Goals as goal

pub returns-then-is_nan : goal.returns-then-is_nan
returns-then-is_nan c = bits-64 c.args.x (sym c.is_nan.ensures.value ∙ c.if-is_nan.true)
