-- `whole_quad::sides::widest` meets its contract. The loop's invariant: what is kept is a point before the last, and the fold over the
-- reaches from i on gives the widest. Assumes nothing.
use mathlib.Core.Path.{◌≡◌}
use Prim.Native.Nat.{◌-◌, ◌<◌}
use lib.Dec.{ltb}
use Rattle.laws.specs.Lists.{range}
use Rattle.whole.specs.Walk.{keep}
use Rattle.whole_quad.specs.Inner.{reach_of}
use Rattle.whole_quad.proofs.sides.widest.Given as goal

abbrev pub invariant-loop-i : goal.invariant-loop-i
invariant-loop-i l =
    (l.k.at < l.last)
    × (keep ltb (reach_of l.p) l.k.at l.k.val (range l.i (l.last - l.i)) ≡ keep ltb (reach_of l.p) 0 0 (range 0 l.last))
