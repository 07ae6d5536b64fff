-- `overlay::file_room`: so many zeros are as many. Assumes nothing.
use Rattle.word_bytes.proofs.Places.{same-places}
use Rattle.overlay.proofs.file_room.Goals as goal

pub returns : goal.returns
returns c = same-places 1052672 0
