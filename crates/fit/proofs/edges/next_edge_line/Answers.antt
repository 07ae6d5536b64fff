-- `fit::edges::next_edge_line` meets its contract, whether the line before is some or none. Assumes nothing.
use Rattle.fit.proofs.Lines.{after_none, after_line_lem}
use Rattle.laws.proofs.Past.{past-none}
use Rattle.fit.proofs.edges.next_edge_line.Goals as goal

pub returns-in_default : goal.returns-in_default
returns-in_default c =
    record {
      answer = after_none _ _ c.in_default.is;
      cand_past = past-none _ _;
      buf_past = past-none _ _;
    }

pub returns : goal.returns
returns c =
    record {
      answer = after_line_lem _ _ _ c.in-Along.is c.edge_line.ensures.answer;
      cand_past = c.edge_line.ensures.cand_past;
      buf_past = c.edge_line.ensures.buf_past;
    }
