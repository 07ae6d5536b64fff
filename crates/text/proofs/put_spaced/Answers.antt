-- `text::put_spaced` meets its contract. Assumes nothing.
use Rattle.laws.proofs.Stores.{stored-append}
use Rattle.text.proofs.put_spaced.Goals as goal

pub returns : goal.returns
returns c = stored-append c.put_byte-a.ensures c.put_number.ensures
