-- `word_numbers::floats::put64` meets its contract. Assumes nothing.
use lib.ListN.{length-set}
use native.Mathlib.Omega.{arith}
use Rattle.word_numbers.proofs.floats.put64.Goals as goal

pub bounds-out-k-then-k-out : goal.bounds-out-k-then-k-out
bounds-out-k-then-k-out c = simp length-set (omega arith)
