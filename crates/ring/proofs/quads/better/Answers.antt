-- `ring::quads::better` meets its contract: the second has a fix, or a greater score, or neither. Assumes nothing.
use Rattle.ring.proofs.Traces.{better-fix, better-more, better-less}
use Rattle.ring.proofs.quads.better.Goals as goal

pub returns-then-is_fixed : goal.returns-then-is_fixed
returns-then-is_fixed c = let a = c.args in better-fix a.t a.u _ c.is_fixed.ensures c.if-is_fixed.true

pub returns-then-top_of : goal.returns-then-top_of
returns-then-top_of c =
    let a = c.args in
    better-more a.t a.u _ c.is_fixed.ensures c.if-is_fixed.false _ _ c.top_of.ensures
    c.top_of-2.ensures c.if-top_of.true

pub returns : goal.returns
returns c =
    let a = c.args in
    better-less a.t a.u _ c.is_fixed.ensures c.if-is_fixed.false _ _ c.top_of.ensures
    c.top_of-2.ensures c.if-top_of.false
