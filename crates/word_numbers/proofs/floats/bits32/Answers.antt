-- `word_numbers::floats::bits32` meets its contract. Assumes nothing.
use mathlib.Core.Path.{sym, ◌∙◌}
use Rattle.word_numbers.proofs.Patterns.{bits-32}
use Rattle.word_numbers.proofs.floats.bits32.Goals as goal

pub returns-then-is_nan : goal.returns-then-is_nan
returns-then-is_nan c = bits-32 c.args.x (sym c.is_nan.ensures.value ∙ c.if-is_nan.true)
