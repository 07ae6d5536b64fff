-- `lens::estimate::second` meets its contract: over the points as they are, or over the straightened ones at the beginning of straight.
-- Assumes nothing.
use Rattle.std.proofs.Common.{sym, arith}
use Rattle.fit.proofs.Selects.{kept-long, kept-past}
use Rattle.laws.proofs.Past.{past-none, past_more}
use Rattle.lens.proofs.Estimates.{second-same, second-straight}
use Rattle.lens.proofs.estimate.second.Goals as goal

pub returns-then-first : goal.returns-then-first
returns-then-first c =
    record {
      answer = second-same _ _ _ _ _ c.if-first.true c.one_pass.ensures.answer;
      straight_past = past-none _ _;
      buf_past = c.one_pass.ensures.buf_past;
    }

pub slice_bounds-straight_pass-end-2 : goal.slice_bounds-straight_pass-end-2
slice_bounds-straight_pass-end-2 c =
    sym (kept-long c.undistort-r.ensures
    c.requires.s_in_bounds)

pub straight_pass-requires : goal.straight_pass-requires
straight_pass-requires c =
    let few = c.undistort-r.ensures.few in
    let long = kept-long c.undistort-r.ensures
    c.requires.s_in_bounds in
    let room = c.requires in
    record {
      s_in_bounds = omega arith;
      s_len_bound = omega arith;
    }

pub returns : goal.returns
returns c =
    let kept = c.undistort-r.ensures in
    let few = kept.few in
    let long = kept-long kept
    c.requires.s_in_bounds in
    record {
      answer = second-straight _ _ _ _ _ c.if-first.false kept
          c.straight_pass.ensures.answer;
      straight_past = kept-past kept c.requires.s_in_bounds;
      buf_past = past_more _ (omega arith) c.straight_pass.ensures.buf_past;
    }
