-- `ring::attempt::found` meets its contract: no quad, or both quads tried; the working lists one after the other. Assumes nothing.
use native.Mathlib.Omega.{arith}
use Rattle.laws.proofs.Past.{past-none, past-then}
use Rattle.ring.proofs.Traces.{found_none, found_some}
use Rattle.ring.proofs.attempt.found.Goals as goal

pub returns-in_default : goal.returns-in_default
returns-in_default c =
    let a = c.args in
    record {
      answer = found_none _ a.w a.h _ a.o.hull a.o.quad a.l a.most _ c.in_default.is c.short_trace.ensures;
      cand_past = past-none _ _;
      buf_past = past-none _ _;
    }

pub edge_quad-edges-requires : goal.edge_quad-edges-requires
edge_quad-edges-requires c =
    let p = c.requires in
    let same = c.refine_quad-refined.ensures.buf_past.same in
    let room = p.s_in_bounds_2 in
    record {
      s_in_bounds = p.s_in_bounds;
      s_in_bounds_2 = omega arith;
      s_len_bound = p.s_len_bound;
    }

pub try_quads-requires : goal.try_quads-requires
try_quads-requires c =
    let p = c.requires in
    record {
      photo = p.photo;
      most_bound = p.most_bound;
    }

pub returns : goal.returns
returns c =
    let a = c.args in
    let r = c.refine_quad-refined.ensures in
    let e = c.edge_quad-edges.ensures in
    record {
      answer = found_some _ a.w a.h _ a.o.hull a.o.quad a.l a.most _ _ _ c.in-Some.is r.answer e.answer
          c.try_quads.ensures;
      cand_past = e.cand_past;
      buf_past = past-then r.buf_past e.buf_past;
    }
