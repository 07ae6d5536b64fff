-- `search::lumas::outer_sum` meets its contract. Assumes nothing.
use Rattle.std.proofs.Common.{sym, subst, arith}
use Rattle.search.proofs.Sampled.{outer-is}
use Rattle.search.proofs.Pixels.{outer-near}
use Rattle.search.specs.Samples.{NearCell}
use Rattle.search.proofs.lumas.outer_sum.Goals as goal

pub sample_cell-requires : goal.sample_cell-requires
sample_cell-requires c =
    let a = c.args in
    let g = c.outer_cell.ensures.version.greatest in
    record {
      photo = c.requires;
      near_cell = subst NearCell (sym c.outer_cell.ensures.answer) (outer-near a.v a.p (omega arith));
    }

pub returns : goal.returns
returns c =
    let a = c.args in
    outer-is a.gray.now a.w a.h a.t a.v a.p _ _ c.outer_cell.ensures.answer c.sample_cell.ensures
