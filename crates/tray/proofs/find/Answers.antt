-- `tray::find` meets its contract. Assumes nothing.
use Rattle.tray.proofs.Inputs.{file-answer, record-answer}
use mathlib.Core.Path.{◌∙◌, sym}
use lib.Dec.{lit≤}
use Rattle.tray.proofs.find.Goals as goal

pub find-requires : goal.find-requires
find-requires c =
    record {
      s_value = sym c.has_letters.ensures ∙ c.if-has_letters.true;
      most_bound = lit≤ tt;
    }

pub returns-then-has_letters : goal.returns-then-has_letters
returns-then-has_letters c =
    c.find.ensures
    ∙ file-answer c.args.s.now (sym c.has_letters.ensures ∙ c.if-has_letters.true)

pub returns : goal.returns
returns c =
    c.find-2.ensures
    ∙ record-answer c.args.s.now (sym c.has_letters.ensures ∙ c.if-has_letters.false)
