-- `lcr_core::claims::cells_round`: the claim holds. Assumes nothing.
use Rattle.lcr_core.proofs.Inner.{inner-owner}
use Rattle.lcr_core.proofs.Squares.{on-square, from-square, outer-once}
use Rattle.lcr_core.proofs.Positions.{position-outer}
use Rattle.lcr_core.specs.Claims.{CellsRound}
use Rattle.lcr_core.proofs.claims.cells_round.Goals as goal

pub returns : goal.returns
unfolding CellsRound
returns c =
    λ v _. record {
      back = position-outer v;
      border = on-square v;
      all = from-square v;
      once = outer-once v;
      inner = inner-owner v;
    }
