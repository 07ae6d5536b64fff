-- `attempt_text::pieces::put_doubles` meets its contract. The loop's invariant: the first i floats are stored, with 17 bytes for each at most. Assumes nothing.
use Rattle.attempt_text.specs.Traced.{each, double}
use Rattle.laws.specs.Lent.{Stored}
use lib.ListN.{take}
use Prim.Native.Nat.{◌+◌, ◌*◌, ◌≤◌}
use Rattle.attempt_text.proofs.pieces.put_doubles.Given as goal

abbrev pub invariant-loop-x : goal.invariant-loop-x
invariant-loop-x l =
    Stored l.at (each double (take l.x-index l.xs)) l.initial.out l.out l.to × (l.to ≤ l.at + 17 * l.x-index)
