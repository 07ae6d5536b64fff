-- `fit::corners::hull_line` meets its contract: an edge under 16, or its refitted line. Assumes nothing.
use Rattle.fit.proofs.EdgeLines.{hull-short, hull-fit}
use Rattle.laws.proofs.Past.{past-none}
use Rattle.fit.proofs.corners.hull_line.Goals as goal

pub returns-then-e : goal.returns-then-e
returns-then-e c =
    record {
      answer = hull-short _ _ _ _ c.edge_of-e.ensures c.if-e.true;
      buf_past = past-none _ _;
    }

pub returns : goal.returns
returns c =
    record {
      answer = hull-fit _ _ _ _ c.edge_of-e.ensures _ _
          c.if-e.false c.max32-wide.ensures
          c.refit_middle.ensures.answer;
      buf_past = c.refit_middle.ensures.buf_past;
    }
