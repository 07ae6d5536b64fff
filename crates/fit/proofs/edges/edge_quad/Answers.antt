-- `fit::edges::edge_quad` meets its contract: lines that are looked for only after a line that is some give the same corners, and four
-- uses of cand and buf leave the rest of each. Assumes nothing.
use native.Mathlib.Omega.{arith}
use Rattle.fit.proofs.EdgeLines.{edges_by}
use Rattle.laws.proofs.Past.{past-then}
use Rattle.fit.proofs.edges.edge_quad.Goals as goal

pub next_edge_line-da-requires : goal.next_edge_line-da-requires
next_edge_line-da-requires c =
    let one = c.edge_line-ab.ensures in
    let two = c.next_edge_line-bc.ensures in
    let three = c.next_edge_line-cd.ensures in
    let cand = (past-then (past-then one.cand_past two.cand_past) three.cand_past).same in
    let buf = (past-then (past-then one.buf_past two.buf_past) three.buf_past).same in
    let pre = c.requires in
    record {
      s_in_bounds = omega (arith, pre.s_in_bounds);
      s_in_bounds_2 = omega (arith, pre.s_in_bounds_2);
      s_len_bound = pre.s_len_bound;
    }

pub returns : goal.returns
returns c =
    let one = c.edge_line-ab.ensures in
    let two = c.next_edge_line-bc.ensures in
    let three = c.next_edge_line-cd.ensures in
    let four = c.next_edge_line-da.ensures in
    record {
      answer = edges_by _ _ _ _ _ _ _ one.answer two.answer three.answer four.answer c.edges_at.ensures;
      cand_past = past-then (past-then one.cand_past two.cand_past) (past-then three.cand_past four.cand_past);
      buf_past = past-then (past-then one.buf_past two.buf_past) (past-then three.buf_past four.buf_past);
    }
