-- `fit::consensus::edge_line` meets its contract: an edge under 16, too few points, or the consensus of the points that `search` left at
-- the beginning of cand. Assumes nothing.
use mathlib.Core.Path.{sym}
use Prim.Native.Nat.{◌*◌}
use native.Mathlib.Omega.{arith}
use lib.Seq.{length-take-le}
use Rattle.fit.proofs.EdgeLines.{edge-short, edge_few, edge-fit}
use Rattle.fit.proofs.Selects.{kept_same, kept-past}
use Rattle.laws.proofs.Past.{past-none, past_more}
use Rattle.fit.proofs.consensus.edge_line.Goals as goal

pub returns-then-e : goal.returns-then-e
returns-then-e c =
    record {
      answer = edge-short _ _ _ _ c.edge_of-e.ensures c.if-e.true;
      cand_past = past-none _ _;
      buf_past = past-none _ _;
    }

pub returns-then-m-lt8 : goal.returns-then-m-lt8
returns-then-m-lt8 c =
    record {
      answer = edge_few _ _ _ _ c.edge_of-e.ensures
          c.if-e.false c.search-m.ensures c.if-m-lt8.true;
      cand_past = kept-past c.search-m.ensures
          c.requires.s_in_bounds;
      buf_past = past-none _ _;
    }

pub slice_bounds-consensus-end-2 : goal.slice_bounds-consensus-end-2
slice_bounds-consensus-end-2 c =
    let z = c.search-m.ensures.few in let w =
    kept_same c.search-m.ensures
    c.requires.s_in_bounds in
    sym (length-take-le _ _ (omega arith))

pub consensus-requires : goal.consensus-requires
consensus-requires c =
    let z = c.search-m.ensures.few in let w =
    kept_same c.search-m.ensures
    c.requires.s_in_bounds in let m =
    length-take-le (2 * c.search-m.result)
    c.search-m.new.cand (omega arith) in
    record {
      in_bounds = omega arith;
      s_in_bounds = omega arith;
      s_len_bound = omega arith;
    }

pub returns : goal.returns
returns c =
    let z = c.search-m.ensures.few in
    let w = kept_same c.search-m.ensures
    c.requires.s_in_bounds in
    let m = length-take-le (2 * c.search-m.result)
    c.search-m.new.cand (omega arith) in
    record {
      answer = edge-fit _ _ _ _ c.edge_of-e.ensures c.if-e.false
          c.search-m.ensures _
          c.if-m-lt8.false c.consensus.ensures.answer;
      cand_past = kept-past c.search-m.ensures
          c.requires.s_in_bounds;
      buf_past = past_more _ (omega arith) c.consensus.ensures.buf_past;
    }
