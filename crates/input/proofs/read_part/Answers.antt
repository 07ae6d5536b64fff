-- `input::read_part` meets its contract: a part is lent, and what stands before it stays. Assumes nothing.
use native.Mathlib.Omega.{arith}
use Prim.Native.Nat.{◌+◌, ◌-◌}
use borrow.Rule.Slice.PartMut.{take_put}
use borrow.Author.Rules.{rules}
use Rattle.input.proofs.read_part.Goals as goal

pub returns : goal.returns
returns c =
    let a = c.args in
    record {
      most = search rules;
      bytes = take_put a.at (a.at + a.n - a.at) a.bytes.now c.read_full.new.buf (omega arith);
    }
