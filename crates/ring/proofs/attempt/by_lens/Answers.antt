-- `ring::attempt::by_lens` meets its contract: over the points as they are, or over the straightened ones at the beginning of straight.
-- Assumes nothing.
use mathlib.Core.Path.{sym}
use native.Mathlib.Omega.{arith}
use Rattle.fit.proofs.Selects.{kept-long, kept-past}
use Rattle.laws.proofs.Past.{past-none, past_more}
use Rattle.ring.proofs.Traces.{under-is, lens_same, lens-straight}
use Rattle.ring.proofs.attempt.by_lens.Goals as goal

pub returns-then-l : goal.returns-then-l
returns-then-l c =
    let a = c.args in
    let outer = c.requires in
    let f = c.found.ensures in
    record {
      answer = lens_same _ a.w a.h _ a.l a.most _ c.if-l.true
          (under-is _ a.w a.h _ a.l a.most _ _ _ outer.hull_value outer.quad_value f.answer);
      straight_past = past-none _ _;
      cand_past = f.cand_past;
      buf_past = f.buf_past;
    }

pub slice_bounds-straightened-end-2 : goal.slice_bounds-straightened-end-2
slice_bounds-straightened-end-2 c = sym (kept-long c.undistort-n.ensures c.requires.s_in_bounds)

pub straightened-requires : goal.straightened-requires
straightened-requires c =
    let p = c.requires in
    let kept = c.undistort-n.ensures in
    let few = kept.few in
    let long = kept-long kept p.s_in_bounds in
    record {
      photo = p.photo;
      most_bound = p.most_bound;
      s_in_bounds = omega arith;
      s_in_bounds_2 = omega arith;
      s_len_bound = omega arith;
    }

pub returns : goal.returns
returns c =
    let a = c.args in
    let room = c.requires.s_in_bounds in
    let kept = c.undistort-n.ensures in
    let few = kept.few in
    let long = kept-long kept room in
    let s = c.straightened.ensures in
    record {
      answer = lens-straight _ a.w a.h _ a.l a.most _ c.if-l.false kept s.answer;
      straight_past = kept-past kept room;
      cand_past = past_more _ (omega arith) s.cand_past;
      buf_past = past_more _ (omega arith) s.buf_past;
    }
