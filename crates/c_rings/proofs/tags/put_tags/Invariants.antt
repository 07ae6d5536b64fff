-- `c_rings::tags::put_tags` meets its contract.
-- The invariant: the numbers of the places so far are stored, `Laying`, and there are enough.
-- Assumes nothing.
use Rattle.std.proofs.Common.{◌≤◌, length}
use Rattle.laws.proofs.Laying.{Laying}
use Rattle.c_rings.specs.Tags.{place_numbers}
use Rattle.c_rings.proofs.tags.put_tags.Given as goal

abbrev pub invariant-loop-k : goal.invariant-loop-k
invariant-loop-k l = Laying 11 4 (place_numbers l.list) l.initial.out l.out l.k × (44 ≤ length l.initial.out)
