-- `finder::best::promoted` meets its contract: a trace with a fix stays, else its fallback is the fix. Assumes nothing.
use Rattle.finder.proofs.Standing.{promoted-stays, promoted-back}
use Rattle.finder.proofs.best.promoted.Goals as goal

pub returns-then-is_fixed : goal.returns-then-is_fixed
returns-then-is_fixed c = promoted-stays c.args.t _ c.is_fixed.ensures c.if-is_fixed.true

pub returns : goal.returns
returns c = promoted-back c.args.t _ c.is_fixed.ensures c.if-is_fixed.false
