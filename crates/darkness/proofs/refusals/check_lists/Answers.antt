-- What the lists have where no check refuses. Assumes nothing.
use mathlib.Core.Path.{◌∙◌, sym}
use Prim.Native.Nat.{◌/◌}
use native.Mathlib.Omega.{arith}
use lib.ListN.{length}
use borrow.Author.Tests.{eqb-true}
use Rattle.laws.proofs.Counts.{count-zero}
use Rattle.darkness.specs.Door.{is_bad_box}
use Rattle.darkness.proofs.refusals.check_lists.Goals as goal

pub returns-clause-passed : goal.returns-clause-passed
returns-clause-passed c =
    let a = c.args in
    let fit = sym c.boxes_fit.ensures ∙ c.if-not-boxes_fit.false in
    λ e. record {
      grid = rw (← c.cells_of.ensures, ← c.cells_of-2.ensures) c.if-levels-cells_of.false;
      room = omega arith;
      places = omega arith;
      good = count-zero (is_bad_box a.w a.h a.boxes.now) (length a.boxes.now / 4) (eqb-true _ 0 fit);
    }
