-- `search::versions::start` meets its contract. Assumes nothing.
use Rattle.std.proofs.Common.{false, ap}
use Rattle.search.specs.Versions.{none_tried, repeated}
use Rattle.search.specs.declared.versions.Score.{Score}
use Rattle.search.proofs.versions.start.Goals as goal

pub returns : goal.returns
unfolding none_tried repeated
returns c =
    ap (λ (x : Score). record { next = 1; ended = false; scores = record { many = 0; list = repeated 64 x } })
    c.no_score-none.ensures
