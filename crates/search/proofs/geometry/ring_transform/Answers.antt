-- `search::geometry::ring_transform` meets its contract. Assumes nothing.
use Rattle.std.proofs.Common.{◌∙◌}
use Rattle.search.proofs.Maps.{map-none, map-some}
use Rattle.search.proofs.geometry.ring_transform.Goals as goal

pub returns-in_err-t : goal.returns-in_err-t
returns-in_err-t c =
    let a = c.args in
    c.from_residual.ensures
    ∙ map-none a.q a.side a.l _ _ _ c.ring_numbers.ensures c.corner_numbers.ensures c.from_quad.ensures c.in_err-t.was

pub returns : goal.returns
returns c =
    let a = c.args in
    map-some a.q a.side a.l _ _ _ c.ring_numbers.ensures
    c.corner_numbers.ensures c.from_quad.ensures _
    c.in_ok-t.was c.with_lens.ensures
