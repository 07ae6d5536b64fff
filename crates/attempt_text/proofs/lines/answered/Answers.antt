-- `attempt_text::lines::answered` meets its contract. Assumes nothing.
use Rattle.attempt_text.proofs.Texts.{given-text, refused-text}
use Rattle.attempt_text.proofs.lines.answered.Goals as goal

pub traced-requires : goal.traced-requires
traced-requires c = (c.requires.many_bound _ c.in-Ok.is, c.requires.in_bounds)

pub returns-in-Ok : goal.returns-in-Ok
returns-in-Ok c =
    let e = c.traced.ensures in
    record {
      out = given-text _ _ c.in-Ok.is e.out;
      most = e.most;
    }

pub returns-in-Err : goal.returns-in-Err
returns-in-Err c =
    let e = c.refused.ensures in
    record {
      out = refused-text _ _ c.in-Err.is e.out;
      most = e.most;
    }
