-- `doubled::refusals::beyond` meets its contract. Assumes nothing.
use native.Mathlib.Omega.{arith}
use Rattle.doubled.proofs.refusals.beyond.Goals as goal

pub returns-then-n-gt8192 : goal.returns-then-n-gt8192
returns-then-n-gt8192 c = let t = c.if-n-gt8192.true in (λ e. absurd (omega arith), λ l. omega arith, omega arith)

pub returns : goal.returns
returns c = let t = c.if-n-gt8192.false in (λ e. omega arith, λ l. absurd (omega arith), omega arith)
