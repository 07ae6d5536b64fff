-- `ieee::square_root::quick_root` meets its contract: a guess that passes both tests is the nearest. Assumes nothing.
use Rattle.ieee.proofs.Guesses.{near_of}
use Rattle.ieee.proofs.square_root.quick_root.Goals as goal

pub returns-then-m-r : goal.returns-then-m-r
returns-then-m-r c = near_of _ _ c.if-r-m.true c.if-m-r.true
