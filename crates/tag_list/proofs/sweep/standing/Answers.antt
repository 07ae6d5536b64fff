-- `tag_list::sweep::standing` meets its contract: the first try stands, and later ones by `first`. Assumes nothing.
use Rattle.tag_list.proofs.Swept.{standing-first, standing-more}
use Rattle.tag_list.proofs.sweep.standing.Goals as goal

pub returns-then-i-eq0 : goal.returns-then-i-eq0
returns-then-i-eq0 c =
    let a = c.args in
    standing-first a.best a.t a.i c.if-i-eq0.true

pub returns : goal.returns
returns c =
    let a = c.args in
    standing-more a.best a.t a.i c.if-i-eq0.false _ c.first.ensures
