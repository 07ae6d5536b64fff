-- `whole_hull::tops::lower` meets its contract. Assumes nothing.
use Rattle.whole_hull.proofs.Stores.{lowered-yes, lowered-no}
use Rattle.whole_hull.proofs.tops.lower.Goals as goal

pub returns-then-v-a : goal.returns-then-v-a
returns-then-v-a c = lowered-yes _ _ _ c.if-v-a.true

pub returns-else-v-a : goal.returns-else-v-a
returns-else-v-a c = lowered-no _ _ _ c.if-v-a.false
