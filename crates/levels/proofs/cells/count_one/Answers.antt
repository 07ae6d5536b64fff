-- By the law of one more byte in a bin of four times 32. Assumes nothing.
use mathlib.Core.Path.{refl}
use Prim.Native.Nat.{◌*◌, ◌+◌, ◌/◌}
use native.Mathlib.Omega.{arith}
use lib.ListN.{length-set}
use Rattle.levels.proofs.Hist.{sums-one}
use Rattle.levels.proofs.cells.count_one.Goals as goal

pub returns : goal.returns
returns c =
    let a = c.args in
    record {
      many = simp length-set c.requires.bins_len.0;
      counts = λ b l.
          sums-one a.bins.now a.v b (32 * a.turn + a.v / 8) (omega arith) l (omega arith) a.turn (omega arith) refl;
    }
