-- `c_rings::put_score` meets its contract: each store leaves the list as long as it was. Assumes nothing.
use Rattle.std.proofs.Common.{pos, ap, arith, length-set}
use lib.Ieee.{binary32, of_int}
use Rattle.c_rings.proofs.Placed.{four-stored}
use Rattle.c_rings.proofs.put_score.Goals as goal

pub bounds-scores-at-2 : goal.bounds-scores-at-2
bounds-scores-at-2 c = simp length-set (omega arith)

pub bounds-scores-at-3 : goal.bounds-scores-at-3
bounds-scores-at-3 c = simp length-set (omega arith)

pub bounds-scores-at-4 : goal.bounds-scores-at-4
bounds-scores-at-4 c = simp length-set (omega arith)

pub returns : goal.returns
returns c =
    four-stored _ _ _ _ _ _ _ _ (ap (λ n. of_int binary32 (pos n)) c.corner_of.ensures)
    (ap (λ n. of_int binary32 (pos n)) c.flag.ensures)
