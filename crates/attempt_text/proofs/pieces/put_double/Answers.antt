-- `attempt_text::pieces::put_double` meets its contract. Assumes nothing.
use Rattle.attempt_text.proofs.Parts.{nan-stored, hex-stored}
use Rattle.attempt_text.specs.Traced.{double}
use Rattle.text.proofs.Decimals.{hex-length}
use lib.Ieee.{binary64}
use mathlib.Core.Path.{sym, ◌∙◌}
use native.Mathlib.Omega.{arith}
use Rattle.attempt_text.proofs.pieces.put_double.Goals as goal

pub returns-then-is_nan : goal.returns-then-is_nan
unfolding double
returns-then-is_nan c =
    let u = c.put_word in
    record {
      out = nan-stored binary64 16 c.args.x c.put_byte-a.ensures (sym c.is_nan.ensures.value ∙ c.if-is_nan.true) u.ensures;
      most = omega (arith, u.ensures.next);
    }

pub returns : goal.returns
unfolding double
returns c =
    let u = c.put_hex in
    let b = c.bits64 in
    record {
      out = hex-stored binary64 16 c.args.x c.put_byte-a.ensures b.result (sym c.is_nan.ensures.value ∙ c.if-is_nan.false) b.ensures u.ensures;
      most = omega (arith, u.ensures.next, hex-length 16 b.result);
    }
