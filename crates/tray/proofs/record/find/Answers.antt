-- `tray::record::find` meets its contract. Assumes nothing.
use Rattle.refusal.proofs.Numbers.{number-none}
use Rattle.tray.proofs.Records.{accepted, found-record, refused-record}
use native.Mathlib.Omega.{arith}
use mathlib.Core.Path.{sym}
use Rattle.std.proofs.lemmas.Result.{err_from_is_err_and}
use Rattle.tray.proofs.record.find.Goals as goal

pub returns-in_err-check : goal.returns-in_err-check
returns-in_err-check c =
    let p = err_from_is_err_and c.from_residual.result c.from_residual.ensures.1 in
    rw (p.1, p.2) (refused-record c.args.s.now _ c.in_err-check.ensures (number-none _))

pub pair_at-requires : goal.pair_at-requires
pair_at-requires c = omega (arith, (accepted c.args.s.now (sym c.in_ok-check.ensures)).long)

pub pair_at-requires-2 : goal.pair_at-requires-2
pair_at-requires-2 c = omega (arith, (accepted c.args.s.now (sym c.in_ok-check.ensures)).long)

pub returns : goal.returns
returns c = found-record c.args.s.now (sym c.in_ok-check.ensures) c.pair_at.ensures.0 c.pair_at-2.ensures.0
