-- `posed_spot` swaps columns and rows where reversed, then turns. Assumes nothing.
use Rattle.proof_ring.proofs.Turning.{spot-forward, spot-reversed}
use Rattle.proof_ring.proofs.cells.posed_spot.Goals as goal

pub returns-then-reversed : goal.returns-then-reversed
returns-then-reversed c =
    let a = c.args in
    spot-reversed a.q a.corner a.reversed a.s _ c.if-reversed.true c.turned.ensures

pub returns : goal.returns
returns c =
    let a = c.args in
    spot-forward a.q a.corner a.reversed a.s _ c.if-reversed.false c.turned-2.ensures
