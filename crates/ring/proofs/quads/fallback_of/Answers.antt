-- `ring::quads::fallback_of` meets its contract: none beside a fix, else by the relaxed rule. Assumes nothing.
use Rattle.ring.proofs.Traces.{fallback-none, fallback-some}
use Rattle.ring.proofs.quads.fallback_of.Goals as goal

pub returns-in-None : goal.returns-in-None
returns-in-None c =
    let a = c.args in
    fallback-some a.f a.q a.s a.l _ c.in-None.is c.accept.ensures

pub returns-in-Some : goal.returns-in-Some
returns-in-Some c = let a = c.args in fallback-none a.f a.q a.s a.l c.in-Some.is
