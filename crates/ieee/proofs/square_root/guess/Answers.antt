-- `ieee::square_root::guess` meets its contract: the last remainder is below its divisor. Assumes nothing.
use Rattle.ieee.proofs.Guesses.{number_of}
use Rattle.ieee.proofs.square_root.guess.Goals as goal

pub int_to_float-x : goal.int_to_float-x
int_to_float-x c = tt

pub float_to_bits-result : goal.float_to_bits-result
float_to_bits-result c = number_of _ _ c.if-w.true
