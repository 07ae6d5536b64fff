-- `lcr_core::places::on_edge` meets its contract. Assumes nothing.
use Rattle.lcr_core.proofs.Cells.{on-edge-0, on-edge-1, on-edge-2, on-edge-3}
use Rattle.lcr_core.proofs.places.on_edge.Goals as goal

pub returns-then-edge-eq0 : goal.returns-then-edge-eq0
returns-then-edge-eq0 c = on-edge-0 c.args.q c.args.edge c.args.u c.if-edge-eq0.true

pub returns-then-edge-eq1 : goal.returns-then-edge-eq1
returns-then-edge-eq1 c = let a = c.args in on-edge-1 a.q a.edge a.u c.if-edge-eq0.false c.if-edge-eq1.true

pub returns-then-edge-eq2 : goal.returns-then-edge-eq2
returns-then-edge-eq2 c =
    let a = c.args in
    on-edge-2 a.q a.edge a.u c.if-edge-eq0.false c.if-edge-eq1.false c.if-edge-eq2.true

pub returns : goal.returns
returns c =
    let a = c.args in
    on-edge-3 a.q a.edge a.u c.if-edge-eq0.false c.if-edge-eq1.false c.if-edge-eq2.false
