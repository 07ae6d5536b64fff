-- `put_run` stores place by place. Invariant: the first i places of the run are stored, and the list is as long.
-- Assumes nothing.
use mathlib.Core.Path.{◌≡◌}
use lib.ListN.{length, replicate}
use lib.Seq.{sets}
use Rattle.proof_ring.proofs.paint.put_run.Given as goal

abbrev pub invariant-loop-i : goal.invariant-loop-i
invariant-loop-i l =
    (length l.pixels ≡ length l.initial.pixels) × (l.pixels ≡ sets l.initial.pixels l.at (replicate l.i l.grey))
