-- `traylist_text::lines::doubled` meets its contract. Assumes nothing.
use Rattle.traylist_text.specs.Inner.{cut_double}
use Rattle.traylist_text.proofs.lines.doubled.Goals as goal

pub returns : goal.returns
unfolding cut_double
returns c = c.to_u32.ensures
