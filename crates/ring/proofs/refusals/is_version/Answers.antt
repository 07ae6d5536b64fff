-- `ring::refusals::is_version` meets its contract: a number is one of a version where `Version::new` knows it. Assumes nothing.
use mathlib.Core.Path.{◌∙◌}
use Rattle.ring.proofs.Passing.{version-by}
use Rattle.ring.proofs.refusals.is_version.Goals as goal

pub returns : goal.returns
returns c = c.is_ok.ensures.value ∙ version-by c.args.v _ c.new.ensures
