-- a is the first behind p of those below b (UpTo). Assumes nothing.
use Rattle.regions.proofs.Picking.{UpTo}
use Rattle.regions.proofs.pick.first_behind.Given as goal

abbrev pub invariant-loop-b : goal.invariant-loop-b
invariant-loop-b l = UpTo l.sizes l.p l.b l.a
