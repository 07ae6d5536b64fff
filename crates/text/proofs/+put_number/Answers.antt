-- `text::put_number` meets its contract: by recursion on the number without its last digit. Measure: the number. Assumes nothing.
use Rattle.text.proofs.Decimals.{length-one, length_more}
use Rattle.text.proofs.Words.{one-stored, more-stored}
use native.Mathlib.Omega.{arith}
use Rattle.text.proofs.+put_number.Goals as goal

pub put_byte-requires : goal.put_byte-requires
put_byte-requires t c = omega (arith, length-one c.args.n (omega arith))

pub returns-then-n-lt10 : goal.returns-then-n-lt10
returns-then-n-lt10 t c = one-stored c.args.n _ (omega arith) c.digit.ensures c.put_byte.ensures

pub put_number-a-requires : goal.put_number-a-requires
put_number-a-requires t c = (omega (arith, c.requires), omega (arith, length_more c.args.n (omega arith)))

pub put_byte-requires-2 : goal.put_byte-requires-2
put_byte-requires-2 t c = omega (arith, length_more c.args.n (omega arith), c.put_number-a.ensures.next)

pub returns : goal.returns
returns t c = more-stored c.args.n _ (omega arith) c.digit-2.ensures c.put_number-a.ensures c.put_byte-2.ensures
