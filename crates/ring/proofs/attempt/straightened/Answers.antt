-- `ring::attempt::straightened` meets its contract: the hull and its quad, then the trace with these. Assumes nothing.
use Rattle.laws.proofs.Past.{past-then}
use Rattle.ring.proofs.Traces.{under-is}
use Rattle.ring.proofs.attempt.straightened.Goals as goal

pub returns : goal.returns
returns c =
    let a = c.args in
    let o = c.outer_of-o.ensures in
    let f = c.found.ensures in
    record {
      answer = under-is _ a.w a.h _ a.l a.most _ _ _ o.hull o.quad f.answer;
      cand_past = f.cand_past;
      buf_past = past-then o.out_past f.buf_past;
    }
