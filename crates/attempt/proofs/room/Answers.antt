-- `attempt::room`: 1,179,680 zeros are as many. Assumes nothing.
use Rattle.word_bytes.proofs.Places.{same-places}
use Rattle.attempt.proofs.room.Goals as goal

pub returns : goal.returns
returns c = same-places 1179680 0
