-- `search::geometry::with_lens` meets its contract. Assumes nothing.
use Rattle.search.proofs.Maps.{lens_none, lens-some}
use Rattle.search.proofs.geometry.with_lens.Goals as goal

pub returns-then-l : goal.returns-then-l
returns-then-l c = lens_none c.args.l c.args.t c.if-l.true

pub returns : goal.returns
returns c =
    lens-some c.args.l c.args.t _ c.if-l.false
    c.with_radial.ensures
