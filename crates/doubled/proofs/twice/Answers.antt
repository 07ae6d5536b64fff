-- `doubled::twice` meets its contract. Assumes nothing.
use Rattle.doubled.proofs.Twices.{twice-big, twice-is, twice-not}
use Rattle.doubled.proofs.twice.Goals as goal

pub returns-then-k-gt8192 : goal.returns-then-k-gt8192
returns-then-k-gt8192 c = twice-big _ _ c.to_u32-k.ensures c.if-k-gt8192.true

pub returns-then-k-d : goal.returns-then-k-d
returns-then-k-d c = twice-is _ _ c.to_u32-k.ensures c.if-k-gt8192.false c.if-k-d.true

pub returns : goal.returns
returns c = twice-not _ _ c.to_u32-k.ensures c.if-k-gt8192.false c.if-k-d.false
