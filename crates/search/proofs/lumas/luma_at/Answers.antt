-- `search::lumas::luma_at` meets its contract. Assumes nothing.
use Rattle.std.proofs.Common.{sym, subst, arith}
use Rattle.search.proofs.LumaLists.{luma-two, luma-one}
use Rattle.search.proofs.Pixels.{inner-near}
use Rattle.search.specs.Samples.{NearCell}
use Rattle.search.proofs.lumas.luma_at.Goals as goal

pub sample_cell-requires : goal.sample_cell-requires
sample_cell-requires c =
    let a = c.args in
    let g = c.inner_cell-cell.ensures.version.greatest in
    record {
      photo = c.requires;
      near_cell = subst NearCell (sym c.inner_cell-cell.ensures.answer) (inner-near a.v a.p
          (omega arith));
    }

pub returns-then-has_inner : goal.returns-then-has_inner
returns-then-has_inner c =
    let a = c.args in
    luma-two a.gray.now a.w a.h a.t a.v a.p _ c.outer_sum-outer.ensures _
    c.has_inner.ensures _ _ _ c.if-has_inner.true
    c.inner_cell-cell.ensures.answer c.sample_cell.ensures c.mean_of.ensures

pub returns : goal.returns
returns c =
    let a = c.args in
    luma-one a.gray.now a.w a.h a.t a.v a.p _ c.outer_sum-outer.ensures _
    c.has_inner.ensures _ c.if-has_inner.false c.mean_of-2.ensures
