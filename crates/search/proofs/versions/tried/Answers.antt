-- `search::versions::tried` meets its contract. Assumes nothing.
use Rattle.search.proofs.Searches.{skipped, scored}
use Rattle.search.proofs.versions.tried.Goals as goal

pub returns-in_default : goal.returns-in_default
returns-in_default c =
    let a = c.args in
    skipped a.gray.now a.w a.h a.g a.s _ _ c.side_of-side.ensures
    c.ring_transform.ensures c.in_default.is

pub returns : goal.returns
returns c =
    let a = c.args in
    scored a.gray.now a.w a.h a.g a.s _ _ c.side_of-side.ensures
    c.ring_transform.ensures _ _ c.in-Some.is
    c.read_ring.ensures c.push-more.ensures
