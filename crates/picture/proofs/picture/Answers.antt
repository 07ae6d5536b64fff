-- The labels that the list holds once they are drawn (labelled_by). Assumes nothing.
use Rattle.picture.proofs.Outcomes.{labelled_by}
use Rattle.picture.proofs.picture.Goals as goal

pub count_regions-found-requires-clause-labelled_by : goal.count_regions-found-requires-clause-labelled_by
count_regions-found-requires-clause-labelled_by c =
    let a = c.args in
    let i = c.ink_map-v.ensures in
    labelled_by a.s.now a.labels.now a.w a.h i.labels i.answer
