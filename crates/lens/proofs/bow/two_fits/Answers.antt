-- `lens::bow::two_fits` meets its contract, whether the first fit is some or none. Assumes nothing.
use Rattle.std.proofs.Common.{◌∙◌}
use Rattle.lens.proofs.Bows.{fits-none, fits-two}
use Rattle.lens.proofs.bow.two_fits.Goals as goal

pub returns-in_err-first : goal.returns-in_err-first
returns-in_err-first c = c.from_residual.ensures ∙ fits-none _ _ c.bow_fit.ensures c.in_err-first.was

pub returns : goal.returns
returns c = fits-two _ _ c.bow_fit.ensures _ c.in_ok-first.was c.bow_fit-2.ensures
