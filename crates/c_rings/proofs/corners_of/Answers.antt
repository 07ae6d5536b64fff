-- `c_rings::corners_of` meets its contract. Assumes nothing.
use Rattle.std.proofs.Common.{◌∙◌}
use Rattle.c_rings.proofs.corners_of.Goals as goal

pub returns-in-Some : goal.returns-in-Some
returns-in-Some c = c.numbers.ensures ∙ rw c.in-Some.is
