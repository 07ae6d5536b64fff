-- `fit::line::tls_line` meets its contract: the sums, the scatter about their mean, and its axis. Assumes nothing.
use native.Mathlib.Omega.{arith}
use Rattle.fit.proofs.Bands.{small_float}
use Rattle.fit.proofs.Sums.{tls-by}
use Rattle.fit.proofs.line.tls_line.Goals as goal

pub int_to_float-n : goal.int_to_float-n
int_to_float-n c = small_float _ (omega arith)

pub returns : goal.returns
returns c = tls-by _ _ _ _ c.sums-t.ensures c.scatter_about.ensures c.axis.ensures
