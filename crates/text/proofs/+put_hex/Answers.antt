-- `text::put_hex` meets its contract: by recursion on the digits but the last. Measure: how many digits. Assumes nothing.
use Rattle.text.proofs.Decimals.{hex-length}
use Rattle.text.proofs.Words.{hex-end, hex-stored}
use native.Mathlib.Omega.{arith}
use Prim.Native.Nat.{◌-◌, ◌/◌}
use Rattle.text.proofs.+put_hex.Goals as goal

pub returns-then-digits-eq0 : goal.returns-then-digits-eq0
returns-then-digits-eq0 t c = hex-end c.args.at c.args.digits c.args.n _ c.if-digits-eq0.true

pub put_byte-requires : goal.put_byte-requires
put_byte-requires t c =
    let a = c.args in
    omega (arith, hex-length (a.digits - 1) (a.n / 16), c.put_hex-a.ensures.next)

pub returns : goal.returns
returns t c =
    hex-stored c.args.digits c.args.n _ c.if-digits-eq0.false c.hex_digit.ensures c.put_hex-a.ensures c.put_byte.ensures
