-- `attempt_text::pieces::put_single` meets its contract. Assumes nothing.
use Rattle.attempt_text.proofs.Parts.{nan-stored, hex-stored}
use Rattle.attempt_text.specs.Traced.{single}
use Rattle.text.proofs.Decimals.{hex-length}
use lib.Ieee.{binary32}
use mathlib.Core.Path.{sym, ◌∙◌}
use native.Mathlib.Omega.{arith}
use Rattle.attempt_text.proofs.pieces.put_single.Goals as goal

pub returns-then-is_nan : goal.returns-then-is_nan
unfolding single
returns-then-is_nan c =
    let u = c.put_word in
    record {
      out = nan-stored binary32 8 c.args.x c.put_byte-a.ensures (sym c.is_nan.ensures.value ∙ c.if-is_nan.true) u.ensures;
      most = omega (arith, u.ensures.next);
    }

pub returns : goal.returns
unfolding single
returns c =
    let u = c.put_hex in
    let b = c.bits32 in
    record {
      out = hex-stored binary32 8 c.args.x c.put_byte-a.ensures b.result (sym c.is_nan.ensures.value ∙ c.if-is_nan.false) b.ensures u.ensures;
      most = omega (arith, u.ensures.next, hex-length 8 b.result);
    }
