-- `search::lumas::has_inner` meets its contract. Assumes nothing.
use Rattle.std.proofs.Common.{sym, subst, arith}
use Rattle.search.proofs.LumaLists.{inner-yes, inner-no}
use Rattle.search.proofs.Maps.{place-back}
use Rattle.search.proofs.Sampled.{near-read}
use Rattle.search.proofs.Pixels.{inner-near}
use Rattle.search.specs.Samples.{NearCell}
use Rattle.search.proofs.lumas.has_inner.Goals as goal

pub position-requires : goal.position-requires
position-requires c =
    let a = c.args in
    let g = c.inner_cell-cell.ensures.version.greatest in
    let near : NearCell c.inner_cell-cell.result = subst NearCell (sym c.inner_cell-cell.ensures.answer)
    (inner-near a.v a.p (omega arith)) in
    record {
      in_range = near-read _ near.across;
      in_range_2 = near-read _ near.down;
    }

pub returns-then-is_two_deep : goal.returns-then-is_two_deep
returns-then-is_two_deep c =
    let a = c.args in
    let g = c.inner_cell-cell.ensures.version.greatest in
    inner-yes a.v a.p _ c.is_two_deep.ensures _ _
    c.if-is_two_deep.true (place-back a.v a.p _ _ (omega arith)
    c.inner_cell-cell.ensures.answer c.position.ensures) c.eq.ensures

pub returns : goal.returns
returns c =
    let a = c.args in
    inner-no a.v a.p _ c.is_two_deep.ensures c.if-is_two_deep.false
