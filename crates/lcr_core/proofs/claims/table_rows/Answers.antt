-- `lcr_core::claims::table_rows`: the claim holds. Assumes nothing.
use Rattle.lcr_core.proofs.Rows.{table-length, row_of}
use Rattle.lcr_core.specs.Mark.{row_start, rows_through}
use mathlib.Core.Path.{refl}
use Rattle.lcr_core.proofs.claims.table_rows.Goals as goal

pub returns : goal.returns
unfolding row_start rows_through
returns c = record { bytes = table-length; first = refl; last = refl; row = row_of }
