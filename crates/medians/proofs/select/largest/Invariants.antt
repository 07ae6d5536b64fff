-- `medians::select::largest` meets its contract.
-- Invariant: m is the largest of the first i values. Assumes nothing.
use Rattle.medians.specs.Inner.{Largest}
use Rattle.medians.proofs.select.largest.Given as goal

abbrev pub invariant-loop-i : goal.invariant-loop-i
invariant-loop-i l = Largest l.v l.i l.m
