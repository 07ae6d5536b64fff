-- `lens::bow::solve3` meets its contract, whether elimination goes through or not. Assumes nothing.
use Rattle.lens.proofs.Bows.{solved-none, solved-some}
use Rattle.lens.proofs.bow.solve3.Goals as goal

pub returns-then-forward : goal.returns-then-forward
returns-then-forward c =
    solved-some _ _ _ _ _ c.forward.ensures _
    c.if-forward.true c.back.ensures

pub returns : goal.returns
returns c = solved-none _ _ _ _ _ c.forward.ensures c.if-forward.false
