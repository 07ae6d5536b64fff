-- `fit::corners::next_hull_line` meets its contract, whether the line before is some or none. Assumes nothing.
use Rattle.fit.proofs.Lines.{after_none, after_line_lem}
use Rattle.laws.proofs.Past.{past-none}
use Rattle.fit.proofs.corners.next_hull_line.Goals as goal

pub returns-in_default : goal.returns-in_default
returns-in_default c =
    record {
      answer = after_none _ _ c.in_default.is;
      buf_past = past-none _ _;
    }

pub returns : goal.returns
returns c =
    record {
      answer = after_line_lem _ _ _ c.in-Along.is c.hull_line.ensures.answer;
      buf_past = c.hull_line.ensures.buf_past;
    }
