-- `pgm::write` meets its contract. Assumes nothing.
use Rattle.refusal.proofs.Numbers.{number-none}
use Rattle.pgm.proofs.Writes.{write-room, written, unwritten}
use Rattle.pgm.specs.Doors.{file_text, check_write}
use Rattle.laws.proofs.Stores.{stored-length}
use lib.ListN.{length}
use mathlib.Core.Path.{refl}
use Rattle.std.proofs.lemmas.Result.{err_from_is_err_and}
use Rattle.pgm.proofs.write.Goals as goal

pub put_file-requires : goal.put_file-requires
put_file-requires c =
    let a = c.args in
    write-room a.w a.h a.pixels.now (length a.out.now) 0 c.in_ok-check.ensures refl

pub shape_of-out : goal.shape_of-out
shape_of-out c = stored-length c.put_file.ensures

pub returns-in_err-check : goal.returns-in_err-check
returns-in_err-check c =
    let a = c.args in
    let p = err_from_is_err_and c.from_residual.result c.from_residual.ensures.1 in
    let k = unwritten _ _ (file_text a.w a.h a.pixels.now) a.out.now c.in_err-check.ensures (number-none _) in
    rw (p.1, p.2) (record { answer = k.0; out = k.1 })

pub returns : goal.returns
returns c =
    let a = c.args in
    let s = a.pixels.now in
    let m = check_write a.w a.h s (length a.out.now) in
    let k = written 0 m (file_text a.w a.h s) a.out.now _ c.put_file.result c.in_ok-check.ensures refl
    (write-room a.w a.h s (length a.out.now) 0 c.in_ok-check.ensures refl) c.put_file.ensures in
    record { answer = k.0; out = k.1 }
