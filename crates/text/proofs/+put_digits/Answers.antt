-- `text::put_digits` meets its contract: by recursion on the digits but the last. Measure: how many digits. Assumes nothing.
use Rattle.text.proofs.Decimals.{last-length}
use Rattle.text.proofs.Words.{last_end, last_stored}
use native.Mathlib.Omega.{arith}
use Prim.Native.Nat.{◌-◌, ◌/◌}
use Rattle.text.proofs.+put_digits.Goals as goal

pub returns-then-digits-eq0 : goal.returns-then-digits-eq0
returns-then-digits-eq0 t c = last_end c.args.at c.args.digits c.args.n _ c.if-digits-eq0.true

pub put_byte-requires : goal.put_byte-requires
put_byte-requires t c =
    let a = c.args in
    omega (arith, last-length (a.digits - 1) (a.n / 10), c.put_digits-next.ensures.next)

pub returns : goal.returns
returns t c =
    last_stored c.args.digits c.args.n _ c.if-digits-eq0.false c.digit.ensures c.put_digits-next.ensures c.put_byte.ensures
