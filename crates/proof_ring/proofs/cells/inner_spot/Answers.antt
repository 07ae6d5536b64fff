-- `inner_spot` reads the inner cell's coordinates as places. Assumes nothing.
use Rattle.proof_ring.proofs.Places.{inner-cell-is, coordinate-asked, spot_is}
use Rattle.proof_ring.specs.Inner.{inner_spot}
use Rattle.proof_ring.proofs.cells.inner_spot.Goals as goal

pub place-requires : goal.place-requires
place-requires c =
    let i = inner-cell-is c.args.version c.args.p c.inner_cell-c.ensures.version c.requires _ c.inner_cell-c.ensures.answer in
    let clauses = coordinate-asked _ _ i.wide i.across in
    record { in_range = clauses.0; c_bound = clauses.1 }

pub place-requires-2 : goal.place-requires-2
place-requires-2 c =
    let i = inner-cell-is c.args.version c.args.p c.inner_cell-c.ensures.version c.requires _ c.inner_cell-c.ensures.answer in
    let clauses = coordinate-asked _ _ i.high i.down in
    record { in_range = clauses.0; c_bound = clauses.1 }

pub returns : goal.returns
returns c =
    let i = inner-cell-is c.args.version c.args.p c.inner_cell-c.ensures.version c.requires _
    c.inner_cell-c.ensures.answer in
    spot_is c.inner_cell-c.result (inner_spot c.args.version c.args.p) _ _ i
    c.place.ensures c.place-2.ensures
