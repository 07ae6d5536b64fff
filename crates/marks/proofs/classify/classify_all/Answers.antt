-- `classify_all` gathers the first window's lumas, then the others, and lights every position. Assumes nothing.
use native.Mathlib.Omega.{arith}
use Rattle.marks.proofs.Windows.{gathered-begin}
use Rattle.marks.proofs.classify.classify_all.Goals as goal

pub gather-first-requires : goal.gather-first-requires
gather-first-requires c =
    let p = c.requires in
    record {
      from_le_to = (omega arith, (let r = p.ring in omega arith), omega arith);
      ring = p.ring;
      gathered = gathered-begin c.args.lumas.now _;
    }
