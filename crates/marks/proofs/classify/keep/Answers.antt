-- `keep` stores a finite luma behind the others, and leaves the list for any other. Assumes nothing.
use mathlib.Core.Path.{sym, ◌∙◌}
use native.Mathlib.Omega.{arith}
use borrow.Author.Rules.{rules}
use Rattle.marks.proofs.Windows.{keep-yes, keep-no}
use Rattle.marks.proofs.classify.keep.Goals as goal

pub returns-then-is_finite : goal.returns-then-is_finite
returns-then-is_finite c =
    let a = c.args in
    record {
      at_most = omega arith;
      around = keep-yes a.around.now a.len a.x (search rules) (sym c.is_finite.ensures ∙ c.if-is_finite.true);
    }

pub returns : goal.returns
returns c =
    let a = c.args in
    record {
      at_most = omega arith;
      around = keep-no a.around.now a.len a.x (sym c.is_finite.ensures ∙ c.if-is_finite.false);
    }
