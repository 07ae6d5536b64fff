-- `fit::middle::put` meets its contract, whether the point is kept or not. Assumes nothing.
use native.Mathlib.Omega.{arith}
use lib.ListN.{length-set}
use borrow.Author.Rules.{rules}
use Rattle.fit.proofs.middle.put.Goals as goal

pub bounds-buf-m-then-keep : goal.bounds-buf-m-then-keep
bounds-buf-m-then-keep c = simp length-set (omega arith)

pub returns-then-keep : goal.returns-then-keep
returns-then-keep c =
    record {
      buf = simp c.if-keep.true;
      most = search rules;
    }

pub returns : goal.returns
returns c =
    record {
      buf = simp c.if-keep.false;
      most = search rules;
    }
