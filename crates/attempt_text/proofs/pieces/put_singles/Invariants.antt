-- `attempt_text::pieces::put_singles` meets its contract. The loop's invariant: the first i floats are stored, with nine bytes for each at most. Assumes nothing.
use Rattle.attempt_text.specs.Traced.{each, single}
use Rattle.laws.specs.Lent.{Stored}
use lib.ListN.{take}
use Prim.Native.Nat.{◌+◌, ◌*◌, ◌≤◌}
use Rattle.attempt_text.proofs.pieces.put_singles.Given as goal

abbrev pub invariant-loop-x : goal.invariant-loop-x
invariant-loop-x l =
    Stored l.at (each single (take l.x-index l.xs)) l.initial.out l.out l.to × (l.to ≤ l.at + 9 * l.x-index)
