-- `lcr_core::border::row_start` meets its contract. Assumes nothing.
use mathlib.Core.Path.{sym}
use native.Mathlib.Omega.{arith}
use Rattle.lcr_core.proofs.Rows.{row-start, start_small}
use Rattle.lcr_core.proofs.border.row_start.Goals as goal

pub overflow_mul-result : goal.overflow_mul-result
overflow_mul-result c =
    record { fits = (let e = row-start c.args.v c.requires in let z = start_small c.args.v c.requires in omega arith) }

pub returns : goal.returns
returns c = sym (row-start c.args.v c.requires)
