-- `tray::file::check` meets its contract. Assumes nothing.
use Rattle.refusal.proofs.Numbers.{number-none}
use Rattle.tray.proofs.Files.{sides-wide, sides-high, sides-on, check-off, check-pass}
use native.Mathlib.Omega.{arith}
use mathlib.Core.Path.{refl}
use Rattle.std.proofs.lemmas.Result.{err_from_is_err_and}
use Rattle.tray.proofs.file.check.Goals as goal

pub returns-in_err-check_head : goal.returns-in_err-check_head
returns-in_err-check_head c =
    let p = err_from_is_err_and c.from_residual.result c.from_residual.ensures.1 in
    rw (p.1, p.2)
    (record {
      answer = check-off c.args.most c.args.h _ c.in_err-check_head.ensures (number-none _);
      passed = λ e. absurd (number-none _ e);
    })

pub returns-then-most-h : goal.returns-then-most-h
returns-then-most-h c =
    let most = c.args.most in
    let h = c.args.h in
    record {
      answer = check-pass most h 0 13 c.in_ok-check_head.ensures refl (sides-wide most h.width h.height c.if-most-h.true);
      passed = λ e. absurd (omega arith);
    }

pub returns-then-most-h-2 : goal.returns-then-most-h-2
returns-then-most-h-2 c =
    let most = c.args.most in
    let h = c.args.h in
    record {
      answer = check-pass most h 0 13 c.in_ok-check_head.ensures refl
          (sides-high most h.width h.height c.if-most-h.false c.if-most-h-2.true);
      passed = λ e. absurd (omega arith);
    }

pub returns : goal.returns
returns c =
    let most = c.args.most in
    let h = c.args.h in
    record {
      answer = check-pass most h 0 0 c.in_ok-check_head.ensures refl
          (sides-on most h.width h.height c.if-most-h.false c.if-most-h-2.false);
      passed = λ e. record { wide = c.if-most-h.false; high = c.if-most-h-2.false };
    }
