-- `outer_spot` reads the outer cell's coordinates as places. Assumes nothing.
use Rattle.proof_ring.proofs.Places.{outer-cell-is, coordinate-asked, spot_is}
use Rattle.proof_ring.specs.Inner.{outer_spot}
use Rattle.proof_ring.proofs.cells.outer_spot.Goals as goal

pub place-requires : goal.place-requires
place-requires c =
    let i = outer-cell-is c.args.version c.args.p c.outer_cell-c.ensures.version c.requires _ c.outer_cell-c.ensures.answer in
    let clauses = coordinate-asked _ _ i.wide i.across in
    record { in_range = clauses.0; c_bound = clauses.1 }

pub place-requires-2 : goal.place-requires-2
place-requires-2 c =
    let i = outer-cell-is c.args.version c.args.p c.outer_cell-c.ensures.version c.requires _ c.outer_cell-c.ensures.answer in
    let clauses = coordinate-asked _ _ i.high i.down in
    record { in_range = clauses.0; c_bound = clauses.1 }

pub returns-clause-answer : goal.returns-clause-answer
returns-clause-answer c =
    let i = outer-cell-is c.args.version c.args.p c.outer_cell-c.ensures.version c.requires _
    c.outer_cell-c.ensures.answer in
    spot_is c.outer_cell-c.result (outer_spot c.args.version c.args.p) _ _ i
    c.place.ensures c.place-2.ensures
