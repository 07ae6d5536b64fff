-- `pgm::bytes::after_digit` meets its contract. Assumes nothing.
use Rattle.pgm.specs.Steps.{after_digit}
use Rattle.pgm.proofs.bytes.after_digit.Goals as goal

pub returns-in-Letters : goal.returns-in-Letters
unfolding after_digit
returns-in-Letters c = rw c.in-Letters.is

pub returns-in-BeforeWidth : goal.returns-in-BeforeWidth
unfolding after_digit
returns-in-BeforeWidth c = rw c.in-BeforeWidth.is

pub returns-in-Width : goal.returns-in-Width
unfolding after_digit
returns-in-Width c = rw c.in-Width.is

pub returns-in-BeforeHeight : goal.returns-in-BeforeHeight
unfolding after_digit
returns-in-BeforeHeight c = rw c.in-BeforeHeight.is

pub returns-in-Height : goal.returns-in-Height
unfolding after_digit
returns-in-Height c = rw c.in-Height.is

pub returns-in-BeforeMaximum : goal.returns-in-BeforeMaximum
unfolding after_digit
returns-in-BeforeMaximum c = rw c.in-BeforeMaximum.is

pub returns-in-Maximum : goal.returns-in-Maximum
unfolding after_digit
returns-in-Maximum c = rw c.in-Maximum.is

pub returns-in-Whole : goal.returns-in-Whole
unfolding after_digit
returns-in-Whole c = rw c.in-Whole.is

pub returns-in-Wrong : goal.returns-in-Wrong
unfolding after_digit
returns-in-Wrong c = rw c.in-Wrong.is
