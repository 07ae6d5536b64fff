-- `ring::attempt::attempt` meets its contract: hull and quad, the lens, the trace by it; each working list one call after the other.
-- Assumes nothing.
use mathlib.Core.Path.{◌∙◌}
use native.Mathlib.Omega.{arith}
use Rattle.laws.proofs.Past.{past-then}
use Rattle.ring.proofs.Traces.{attempt-is}
use Rattle.ring.proofs.attempt.attempt.Goals as goal

pub by_lens-requires : goal.by_lens-requires
by_lens-requires c =
    let p = c.requires in
    let o = c.outer_of-o.ensures in
    let l = c.estimate_lens-l.ensures in
    let first = o.out_past.same in
    let wide = l.straight_past.same in
    let second = l.buf_past.same in
    record {
      photo = p.photo;
      most_bound = p.most_bound;
      s_in_bounds = omega arith;
      s_in_bounds_2 = p.s_in_bounds_2;
      s_in_bounds_3 = omega arith;
      s_len_bound = p.s_len_bound;
      hull_value = o.hull;
      quad_value = o.quad;
    }

pub shape_of-buf : goal.shape_of-buf
shape_of-buf c =
    c.by_lens.ensures.buf_past.same ∙ c.estimate_lens-l.ensures.buf_past.same ∙ c.outer_of-o.ensures.out_past.same

pub returns : goal.returns
returns c =
    let a = c.args in
    let o = c.outer_of-o.ensures in
    let l = c.estimate_lens-l.ensures in
    let b = c.by_lens.ensures in
    record {
      answer = attempt-is _ a.w a.h _ a.most _ _ _ _ o.quad c.middle-m.ensures l.answer b.answer;
      straight_past = past-then l.straight_past b.straight_past;
      cand_past = b.cand_past;
      buf_past = past-then o.out_past (past-then l.buf_past b.buf_past);
    }
