-- `fit::consensus::cut_of` meets its contract: the cut is tried by its own root. Assumes nothing.
use lib.Ieee.{binary32, div, of_bits}
use lib.Ieee.Fits.{mul-fits}
use Rattle.fit.proofs.Trials.{cut_short, no_cut}
use Rattle.fit.proofs.consensus.cut_of.Goals as goal

pub returns-then-root-third : goal.returns-then-root-third
returns-then-root-third c = cut_short _ _ _ (mul-fits binary32 _ _) c.root.ensures c.if-root-third.true

pub returns : goal.returns
unfolding div of_bits
returns c = no_cut _
