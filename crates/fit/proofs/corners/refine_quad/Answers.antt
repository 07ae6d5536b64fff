-- `fit::corners::refine_quad` meets its contract: lines that are looked for only after a line that is some give the same corners, and
-- four uses of buf leave its rest. Assumes nothing.
use Rattle.fit.proofs.EdgeLines.{refined-by}
use Rattle.laws.proofs.Past.{past-then}
use Rattle.fit.proofs.corners.refine_quad.Goals as goal

pub shape_of-buf : goal.shape_of-buf
shape_of-buf c =
    (past-then
    (past-then c.hull_line-ab.ensures.buf_past
    c.next_hull_line-bc.ensures.buf_past)
    (past-then c.next_hull_line-cd.ensures.buf_past
    c.next_hull_line-da.ensures.buf_past)).same

pub returns : goal.returns
returns c =
    record {
      answer = refined-by _ _ _ _ _ _ _ _
          c.hull_line-ab.ensures.answer
          c.next_hull_line-bc.ensures.answer
          c.next_hull_line-cd.ensures.answer
          c.next_hull_line-da.ensures.answer
          c.refined_at.ensures
          c.unwrap_or.ensures;
      buf_past = past-then
          (past-then c.hull_line-ab.ensures.buf_past
          c.next_hull_line-bc.ensures.buf_past)
          (past-then c.next_hull_line-cd.ensures.buf_past
          c.next_hull_line-da.ensures.buf_past);
    }
