-- `ieee::abs64` meets its contract: the library's magnitude. Assumes nothing.
use Rattle.std.proofs.Common.{◌∙◌}
use Rattle.ieee.proofs.Helpers.{abs-library}
use Rattle.ieee.proofs.abs64.Goals as goal

pub returns : goal.returns
returns c = c.abs.ensures.value ∙ abs-library _
