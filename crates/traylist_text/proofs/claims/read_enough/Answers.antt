-- What is read has the text of all: the theorem is `read-enough` of `proofs/Readings.antt`. Assumes nothing.
use Rattle.traylist_text.proofs.Readings.{read-enough}
use Rattle.traylist_text.proofs.claims.read_enough.Goals as goal

pub returns : goal.returns
returns c = read-enough
