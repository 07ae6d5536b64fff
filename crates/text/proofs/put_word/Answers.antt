-- `text::put_word` meets its contract: a copy into a part of the list. Assumes nothing.
use Rattle.std.proofs.Common.{arith}
use Rattle.text.proofs.Words.{word_stored}
use Rattle.text.proofs.put_word.Goals as goal

pub returns : goal.returns
returns c = word_stored _ _ _ _ _ c.requires (omega arith) c.copy_from_slice.ensures.after
