-- `lens::bow::normal_of` meets its contract. The invariant: at most the samples passed count, and the rest of the definition, from the sums
-- so far, gives those of all. Assumes nothing.
use Rattle.std.proofs.Common.{◌≡◌, ◌-◌, ◌/◌, ◌≤◌, length}
use Rattle.lens.specs.Bow.{normal_on, normal_of}
use Rattle.lens.proofs.bow.normal_of.Given as goal

abbrev pub invariant-loop-k : goal.invariant-loop-k
invariant-loop-k l =
    (l.a.n ≤ l.k) × (l.k ≤ length l.s / 2) × (normal_on l.s l.prev (length l.s / 2 - l.k) l.k l.a ≡ normal_of l.s l.prev)
