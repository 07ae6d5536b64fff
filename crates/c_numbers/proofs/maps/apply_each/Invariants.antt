-- `c_numbers::maps::apply_each` meets its contract.
-- The invariant: the pixels of the places so far are stored, `Laying`. Assumes nothing.
use Rattle.laws.proofs.Laying.{Laying}
use Rattle.c_numbers.specs.Maps.{pixel_at}
use Rattle.c_numbers.proofs.maps.apply_each.Given as goal

abbrev pub invariant-loop-i : goal.invariant-loop-i
invariant-loop-i l = Laying 2 l.n (pixel_at l.t l.uv) l.initial.xy l.xy l.i
