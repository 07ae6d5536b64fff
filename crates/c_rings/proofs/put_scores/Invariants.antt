-- `c_rings::put_scores` meets its contract.
-- The invariant: the numbers of the places so far are stored, `Laying`, and there are enough.
-- Assumes nothing.
use Rattle.std.proofs.Common.{◌≤◌, length}
use Rattle.laws.proofs.Laying.{Laying}
use Rattle.c_rings.specs.Rings.{row_at}
use Rattle.c_rings.proofs.put_scores.Given as goal

abbrev pub invariant-loop-k : goal.invariant-loop-k
invariant-loop-k l = Laying 4 64 (row_at l.list) l.initial.scores l.scores l.k × (256 ≤ length l.initial.scores)
