-- `c_numbers::maps::apply_each` meets its contract.
-- The invariant: the pixels of the places so far are stored, `Laying`. Assumes nothing.
use Rattle.laws.proofs.Laying.{laying-begin, laying-turn, laying-end}
use Rattle.c_numbers.proofs.Handed.{pixels-laid}
use Rattle.c_numbers.proofs.maps.apply_each.Goals as goal

pub loop-i-init : goal.loop-i-init
loop-i-init c = laying-begin _ _ _ _

pub loop-i-preserved : goal.loop-i-preserved
loop-i-preserved c = laying-turn _ _ _ _ _ _ _ c.loop-i-test.true c.loop-i.invariant c.apply_at.ensures

pub returns : goal.returns
returns c =
    pixels-laid c.args.t c.args.uv.now _ _ c.requires
    (laying-end _ _ _ _ _ _ c.loop-i-test.false c.loop-i.invariant)
