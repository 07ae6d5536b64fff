-- `ieee::negative` meets its contract: the sign is the highest bit. Assumes nothing.
use lib.Ieee.{binary32}
use denote.Floats.{passes}
use Rattle.ieee.proofs.Helpers.{sign_bit}
use Rattle.ieee.proofs.negative.Goals as goal

pub returns : goal.returns
returns c = sign_bit binary32 _ (passes _ c.well_formed.0.1) c.requires
