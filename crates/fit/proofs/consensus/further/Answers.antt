-- `fit::consensus::further` meets its contract: a sum below n is its own remainder, and one below twice n is n more. Assumes nothing.
use native.Mathlib.Omega.{arith}
use Rattle.fit.proofs.Trials.{round-in, round-past}
use Rattle.fit.proofs.consensus.further.Goals as goal

pub returns-then-b-n : goal.returns-then-b-n
returns-then-b-n c = round-in _ _ c.if-b-n.true

pub returns : goal.returns
returns c = round-past _ _ c.if-b-n.false (omega arith)
