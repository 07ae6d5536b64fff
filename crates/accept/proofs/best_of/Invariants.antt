-- `accept::best_of` meets its contract. The best place so far, followed over the places that are left, is the best of all. Assumes nothing.
use mathlib.Core.Path.{◌≡◌}
use Prim.Native.Nat.{◌≤◌, ◌<◌, ◌-◌}
use Rattle.accept.specs.Accept.{best_on}
use Rattle.accept.proofs.best_of.Given as goal

abbrev pub invariant-loop-k : goal.invariant-loop-k
invariant-loop-k l = (1 ≤ l.k) × (l.b < 64) × (best_on l.list (l.many - l.k) l.k l.b ≡ best_on l.list (l.many - 1) 1 0)
