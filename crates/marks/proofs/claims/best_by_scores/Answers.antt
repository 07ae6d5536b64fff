-- The Rust's search by scores finds the first greatest count, by `best-by-scores`. Assumes nothing.
use Rattle.marks.proofs.Bests.{best-by-scores}
use Rattle.marks.proofs.claims.best_by_scores.Goals as goal

pub returns : goal.returns
returns c = record { found = best-by-scores }
