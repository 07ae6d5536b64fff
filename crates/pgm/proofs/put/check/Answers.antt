-- `pgm::put::check` meets its contract. Assumes nothing.
use Rattle.refusal.proofs.Numbers.{number-none}
use Rattle.pgm.proofs.Writes.{text-length, write-off, write-few, write-on}
use native.Mathlib.Omega.{arith}
use mathlib.Core.Path.{refl, sym}
use Rattle.std.proofs.lemmas.Result.{err_from_is_err_and}
use Rattle.pgm.proofs.put.check.Goals as goal

pub returns-in_err-check_picture : goal.returns-in_err-check_picture
returns-in_err-check_picture c =
    let a = c.args in
    let p = err_from_is_err_and c.from_residual.result c.from_residual.ensures.1 in
    let e = c.in_err-check_picture.ensures.answer in
    rw (p.1, p.2) (write-off a.w a.h a.pixels.now a.room _ e (number-none _))

pub header_len-requires : goal.header_len-requires
header_len-requires c =
    let s = c.in_ok-check_picture.ensures.passed refl in
    (s.w-high, s.h-high)

pub returns-then-room-header_len : goal.returns-then-room-header_len
returns-then-room-header_len c =
    let a = c.args in
    write-few a.w a.h a.pixels.now a.room (sym c.in_ok-check_picture.ensures.answer)
    (omega (arith, text-length a.w a.h a.pixels.now, c.header_len.ensures.answer))

pub returns : goal.returns
returns c =
    let a = c.args in
    write-on a.w a.h a.pixels.now a.room (sym c.in_ok-check_picture.ensures.answer)
    (omega (arith, text-length a.w a.h a.pixels.now, c.header_len.ensures.answer))
