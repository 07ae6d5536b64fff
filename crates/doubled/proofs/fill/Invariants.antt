-- `doubled::fill` meets its contract. The loop's invariant: the first k places are written. Assumes nothing.
use Rattle.doubled.specs.Doubled.{twice_of}
use Rattle.laws.specs.Fold.{written}
use lib.Ieee.{nan}
use lib.ListN.{length, get_or}
use mathlib.Core.Path.{◌≡◌}
use Rattle.doubled.proofs.fill.Given as goal

abbrev pub invariant-loop-k : goal.invariant-loop-k
invariant-loop-k l =
    (length l.out ≡ length l.initial.out) × (l.out ≡ written l.k (λ i. twice_of (get_or l.p i nan)) l.initial.out)
