-- `finder::outlines::region_of` meets its contract: a kept region, or all ink. Assumes nothing.
use Rattle.finder.proofs.Regions.{by-list, by_all}
use Rattle.finder.proofs.outlines.region_of.Goals as goal

pub returns-then-i-kept : goal.returns-then-i-kept
returns-then-i-kept c = let a = c.args in by-list a.k a.i a.w a.h c.if-i-kept.true

pub returns : goal.returns
returns c = let a = c.args in by_all a.k a.i a.w a.h c.if-i-kept.false
