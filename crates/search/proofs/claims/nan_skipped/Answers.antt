-- Samples with a NaN coordinate are skipped, by `nan-skipped`; the others by `number-out`. Assumes nothing.
use Rattle.search.proofs.NanSamples.{nan-skipped, number-out}
use Rattle.search.proofs.claims.nan_skipped.Goals as goal

pub returns : goal.returns
returns c = record { skipped = nan-skipped; others = number-out }
