-- `tray::record::check` meets its contract: by how many pixels the head asks for. Assumes nothing.
use native.Mathlib.Omega.{arith}
use Rattle.tray.proofs.Records.{refuse-head, refuse-cut, check-whole}
use Rattle.tray.proofs.record.check.Goals as goal

pub returns-then-n-eq0 : goal.returns-then-n-eq0
returns-then-n-eq0 c = refuse-head c.args.s.now _ c.pixels-n.ensures.answer c.if-n-eq0.true

pub returns-then-s-n : goal.returns-then-s-n
returns-then-s-n c = refuse-cut c.args.s.now _ c.pixels-n.ensures.answer c.if-n-eq0.false (omega arith)

pub returns : goal.returns
returns c = check-whole c.args.s.now _ c.pixels-n.ensures.answer c.if-n-eq0.false (omega arith)
