-- `whole_quad::quad` meets its contract. Assumes nothing.
use Rattle.doubled.proofs.Checks.{quad-passed}
use Rattle.whole_quad.proofs.Answers.{quad-told, quad-refused}
use mathlib.Core.Path.{sym}
use Rattle.std.proofs.lemmas.Result.{err_from_is_err_and}
use Rattle.whole_quad.proofs.quad.Goals as goal

pub quad_of-requires : goal.quad_of-requires
quad_of-requires c =
    let q = quad-passed c.args.p.now (sym c.in_ok-check_quad.ensures) in
    record {
      p_len = q.even;
      bounded = q.within;
    }

pub returns-in_err-check_quad : goal.returns-in_err-check_quad
returns-in_err-check_quad c =
    let p = err_from_is_err_and c.from_residual.result c.from_residual.ensures.1 in
    rw (p.1, p.2) (quad-refused _ _ _ c.in_err-check_quad.ensures)

pub returns : goal.returns
returns c = quad-told _ _ _ c.in_ok-check_quad.ensures c.quad_of.ensures
