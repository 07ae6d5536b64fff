-- `ring::door::attempt` meets its contract. What an accepted call knows is `passed`; a refused one has touched nothing. Assumes nothing.
use mathlib.Core.Path.{sym}
use native.Mathlib.Omega.{arith}
use lib.ListN.{length}
use Rattle.std.proofs.lemmas.Result.{err_from_is_err_and}
use Rattle.laws.proofs.Past.{past-none}
use Rattle.ring.specs.Door.{needed_of}
use Rattle.ring.proofs.Passing.{passed, passed-photo, given_is, refused-is}
use Rattle.ring.proofs.door.attempt.Goals as goal

pub returns-in_err-check : goal.returns-in_err-check
returns-in_err-check c =
    let a = c.args in
    let q = c.in_err-check in
    let p = err_from_is_err_and c.from_residual.result c.from_residual.ensures.1 in
    rw (p.1, p.2) (
    record {
      answer = refused-is a.gray.now a.width a.height a.points.now a.most (length a.straight.now) (length a.cand.now)
          (length a.buf.now) _ q.ensures;
      straight_past = past-none _ _;
      cand_past = past-none _ _;
      buf_past = past-none _ _;
    }
    )

pub overflow_cast-most : goal.overflow_cast-most
overflow_cast-most c =
    let a = c.args in
    let p = passed a.width a.height (length a.gray.now) a.points.now (length a.straight.now)
    (length a.cand.now) (length a.buf.now) a.most (sym c.in_ok-check.ensures) in
    omega (arith, p.version)

pub attempt-t-requires : goal.attempt-t-requires
attempt-t-requires c =
    let a = c.args in
    let p = passed a.width a.height (length a.gray.now) a.points.now (length a.straight.now)
    (length a.cand.now) (length a.buf.now) a.most (sym c.in_ok-check.ensures) in
    record {
      photo = passed-photo a.gray.now p;
      most_bound = p.version;
      s_in_bounds = p.room.0;
      s_in_bounds_2 = p.room.1;
      s_in_bounds_3 = p.room.2;
      s_len_bound = p.few;
    }

pub returns : goal.returns
unfolding needed_of
returns c =
    let a = c.args in
    let r = c.attempt-t.ensures in
    record {
      answer = given_is a.gray.now a.width a.height a.points.now a.most (length a.straight.now) (length a.cand.now)
          (length a.buf.now) _ (sym c.in_ok-check.ensures) r.answer;
      straight_past = r.straight_past;
      cand_past = r.cand_past;
      buf_past = r.buf_past;
    }
