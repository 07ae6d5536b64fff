-- `medians::select::turn` meets its contract: both walks, then an exchange where they have not met. Assumes nothing.
use Rattle.std.proofs.Common.{sym, subst, ◌∙◌, ◌-◌, ◌+◌, arith}
use Rattle.math.proofs.Lists.{swap-swapped}
use Rattle.medians.specs.Inner.{Turned}
use Rattle.medians.proofs.Partition.{parting-stop, parting-floor, turn-stop, turn-swap}
use Rattle.medians.proofs.select.turn.Goals as goal

pub up-a-requires : goal.up-a-requires
up-a-requires c = parting-stop _ _ _ _ c.requires.i_lt_e c.requires.parting

pub down-b-requires-clause-floor : goal.down-b-requires-clause-floor
down-b-requires-clause-floor c = parting-floor _ _ _ _ c.requires.i_lt_e c.requires.parting

pub returns-then-b-a : goal.returns-then-b-a
returns-then-b-a c =
    turn-stop c.args.v.now c.args.p c.args.i c.args.e c.up-a.result c.down-b.result
    c.requires.i_lt_e c.requires.parting c.up-a.ensures c.down-b.ensures c.if-b-a.true

pub returns : goal.returns
returns c =
    subst (λ (t : _). Turned c.args.v.now t c.args.p c.args.i c.args.e (c.up-a.result + 1) (c.down-b.result - 1))
    (sym (c.swap.ensures.after ∙ swap-swapped _ _ _ (omega arith) (omega arith)))
    (turn-swap c.args.v.now c.args.p c.args.i c.args.e c.up-a.result c.down-b.result c.requires.i_lt_e c.requires.parting
    c.up-a.ensures c.down-b.ensures c.if-b-a.false)
