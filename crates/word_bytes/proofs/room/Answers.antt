-- `word_bytes::room`: 1,048,576 zeros are as many. Assumes nothing.
use Rattle.word_bytes.proofs.Places.{same-places}
use Rattle.word_bytes.proofs.room.Goals as goal

pub returns : goal.returns
returns c = same-places 1048576 0
