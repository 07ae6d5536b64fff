-- `shadow::claims::shadow`: the claim holds. Assumes nothing.
use native.Mathlib.Omega.{arith}
use Rattle.shadow.proofs.Past.{levels-by, levels-past, ink-past}
use Rattle.shadow.proofs.Pair.{not-ten}
use Rattle.shadow.proofs.claims.shadow.Goals as goal

pub returns : goal.returns
returns c =
    record {
      by = levels-by (omega arith);
      levels = levels-past (omega arith);
      ink = ink-past (omega arith);
      not-ten = not-ten;
    }
