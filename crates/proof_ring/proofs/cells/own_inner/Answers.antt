-- `own_inner` asks for a reference position whose inner cell is mapped back to it. Assumes nothing.
use mathlib.Core.Path.{sym, ◌∙◌}
use Rattle.proof_ring.proofs.Places.{inner-cell-is, coordinate-range, own-yes, own-outside, own-shallow}
use Rattle.proof_ring.proofs.cells.own_inner.Goals as goal

pub position-requires : goal.position-requires
position-requires c =
    let i = inner-cell-is c.args.version c.args.p c.inner_cell-c.ensures.version c.requires _ c.inner_cell-c.ensures.answer in
    record {
      in_range = coordinate-range _ _ i.wide i.across;
      in_range_2 = coordinate-range _ _ i.high i.down;
    }

pub returns-in_default : goal.returns-in_default
returns-in_default c =
    let i = inner-cell-is c.args.version c.args.p c.inner_cell-c.ensures.version c.requires _
    c.inner_cell-c.ensures.answer in
    own-outside c.args.version c.args.p c.inner_cell-c.result i _
    c.position.ensures
    (sym c.is_two_deep.ensures
    ∙ c.if-is_two_deep.true) c.in_default.is

pub returns-then-is_two_deep : goal.returns-then-is_two_deep
returns-then-is_two_deep c =
    let i = inner-cell-is c.args.version c.args.p c.inner_cell-c.ensures.version c.requires _
    c.inner_cell-c.ensures.answer in
    own-yes c.args.version c.args.p c.inner_cell-c.result i _
    c.position.ensures
    (sym c.is_two_deep.ensures
    ∙ c.if-is_two_deep.true) _ c.in-Some.is

pub returns : goal.returns
returns c = own-shallow c.args.version c.args.p (sym c.is_two_deep.ensures ∙ c.if-is_two_deep.false)
