-- `whole_hull::convex_hull` meets its contract. Assumes nothing.
use mathlib.Core.Path.{refl, sym}
use Rattle.std.proofs.lemmas.Result.{err_from_is_err_and}
use Rattle.doubled.proofs.Checks.{hull-passed}
use Rattle.whole_hull.proofs.Answers.{answer-is, answer-refused}
use Rattle.whole_hull.proofs.convex_hull.Goals as goal

pub returns-in_err-check_hull : goal.returns-in_err-check_hull
returns-in_err-check_hull c =
    let p = err_from_is_err_and c.from_residual.result c.from_residual.ensures.1 in
    rw (p.1, p.2) (record { answer = answer-refused _ _ _ c.in_err-check_hull.ensures; out = refl })

pub vertices-requires : goal.vertices-requires
vertices-requires c =
    let q = hull-passed _ _ (sym c.in_ok-check_hull.ensures) in
    record {
      p_len = q.0.even;
      p_in_bounds = q.1;
      bounded = q.0.within;
    }

pub returns : goal.returns
returns c =
    record {
      answer = answer-is _ _ _ c.in_ok-check_hull.ensures c.vertices.ensures.answer;
      out = c.vertices.ensures.out;
    }
