-- `word_bytes::byte_at` meets its contract. Assumes nothing.
use native.Mathlib.Omega.{arith}
use lib.ListN.{get_or-eq_default}
use mathlib.Core.Path.{sym}
use Rattle.word_bytes.proofs.byte_at.Goals as goal

pub returns : goal.returns
returns c = (sym (get_or-eq_default c.args.bytes.now 0 (omega arith)), omega arith)
