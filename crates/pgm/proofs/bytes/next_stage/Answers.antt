-- `pgm::bytes::next_stage` meets its contract. Assumes nothing.
use Rattle.pgm.specs.Steps.{next_stage}
use mathlib.Core.Path.{◌∙◌, sym}
use Rattle.pgm.proofs.bytes.next_stage.Goals as goal

pub returns-then-is_white : goal.returns-then-is_white
unfolding next_stage
returns-then-is_white c = let e = sym c.is_white.ensures ∙ c.if-is_white.true in rw e c.after_white.ensures

pub returns-then-is_digit : goal.returns-then-is_digit
unfolding next_stage
returns-then-is_digit c =
    let e = sym c.is_white.ensures ∙ c.if-is_white.false in let d = sym c.is_digit.ensures ∙ c.if-is_digit.true in rw (e, d) c.after_digit.ensures

pub returns : goal.returns
unfolding next_stage
returns c =
    let e = sym c.is_white.ensures ∙ c.if-is_white.false in let d = sym c.is_digit.ensures ∙ c.if-is_digit.false in rw (e, d)
