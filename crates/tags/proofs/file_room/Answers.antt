-- `tags::file_room` meets its contract. Assumes nothing.
use Rattle.word_bytes.proofs.Places.{same-places}
use Rattle.tags.proofs.file_room.Goals as goal

pub returns : goal.returns
returns c = same-places 4198400 0
