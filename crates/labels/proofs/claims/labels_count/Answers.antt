-- `labels::claims::labels_count` meets its contract, by `labelling`. Assumes nothing.
use Rattle.labels.specs.Claims.{LabelsCount}
use Rattle.labels.proofs.Labelled.{labelling}
use Rattle.labels.proofs.claims.labels_count.Goals as goal

pub returns : goal.returns
unfolding LabelsCount
returns c = labelling
