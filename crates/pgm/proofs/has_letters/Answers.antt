-- `pgm::has_letters` meets its contract. Assumes nothing.
use Rattle.pgm.proofs.Refusals.{letters-short, letters-first, letters-both}
use Rattle.pgm.proofs.has_letters.Goals as goal

pub returns-then-s-lt2 : goal.returns-then-s-lt2
returns-then-s-lt2 c = letters-short c.args.s.now c.if-s-lt2.true

pub returns-then-s-ne80 : goal.returns-then-s-ne80
returns-then-s-ne80 c = letters-first c.args.s.now c.if-s-ne80.true

pub returns : goal.returns
returns c = letters-both c.args.s.now c.if-s-ne80.false
