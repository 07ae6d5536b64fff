-- `ieee::is_finite` meets its contract: the library's test. Assumes nothing.
use Rattle.std.proofs.Common.{◌∙◌}
use Rattle.ieee.proofs.Helpers.{finite-library}
use Rattle.ieee.proofs.is_finite.Goals as goal

pub returns : goal.returns
returns c = c.is_finite.ensures.value ∙ finite-library _
