-- `pgm::put::header_len` meets its contract. Assumes nothing.
use Rattle.pgm.proofs.Writes.{header-length}
use native.Mathlib.Omega.{arith}
use Rattle.pgm.proofs.put.header_len.Goals as goal

pub returns : goal.returns
returns c =
    record {
      answer = omega (
        arith,
        header-length c.args.w c.args.h,
        c.digits.ensures.answer,
        c.digits-2.ensures.answer,
      );
      most = omega arith;
    }
