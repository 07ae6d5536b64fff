-- Across, then down, is the pool (pooled-drawn). Assumes nothing.
use Rattle.levels.proofs.Pools.{pooled-drawn}
use Rattle.levels.proofs.pool.pool.Goals as goal

pub returns-clause-g : goal.returns-clause-g
returns-clause-g c =
    let down = c.pool_down in
    let over = c.pool_across in
    let a = c.args in
    pooled-drawn a.most a.w a.h a.g.now a.mid.now over.new.dst down.new.dst over.ensures down.ensures.dst
