-- `ring::quads::span_of` meets its contract. Assumes nothing.
use Rattle.ring.specs.Trace.{span_of}
use Rattle.ring.proofs.quads.span_of.Goals as goal

pub returns : goal.returns
unfolding span_of
returns c = simp (c.root-bd.ensures, c.d2-2.ensures, c.root-ac.ensures, c.d2.ensures)
