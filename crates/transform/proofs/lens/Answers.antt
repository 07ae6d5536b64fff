-- `transform::lens` meets its contract: no lens, or four rounds. Assumes nothing.
use Rattle.transform.proofs.Parts.{lens_none, lens-some}
use Rattle.std.proofs.Common.{refl}
use Rattle.transform.proofs.lens.Goals as goal

pub returns-then-k : goal.returns-then-k
returns-then-k c = lens_none _ _ _ _ c.if-k.true

pub returns : goal.returns
returns c =
    lens-some _ _ _ _ _ _ _ _ _ c.if-k.false refl
    c.bend-d1.ensures c.bend-d2.ensures
    c.bend-d3.ensures
    c.bend-d4.ensures
