-- `text::hex_digit` meets its contract. Assumes nothing.
use native.Mathlib.Omega.{arith}
use Rattle.text.proofs.Decimals.{hex_digit-low, hex_digit-high}
use Rattle.text.proofs.hex_digit.Goals as goal

pub returns-then-d-lt10 : goal.returns-then-d-lt10
returns-then-d-lt10 c = hex_digit-low c.args.d (omega arith)

pub returns : goal.returns
returns c = hex_digit-high c.args.d (omega arith)
