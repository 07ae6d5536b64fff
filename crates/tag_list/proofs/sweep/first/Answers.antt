-- `tag_list::sweep::first` meets its contract: a fix stays, else the better of both. Assumes nothing.
use mathlib.Core.Path.{refl}
use Rattle.finder.proofs.Standing.{first-stays, first_goes}
use Rattle.tag_list.proofs.sweep.first.Goals as goal

pub returns-then-is_fixed : goal.returns-then-is_fixed
returns-then-is_fixed c =
    let a = c.args in
    first-stays a.t a.u _ c.is_fixed.ensures c.if-is_fixed.true

pub returns : goal.returns
returns c =
    let a = c.args in
    first_goes a.t a.u _ c.is_fixed.ensures _ _ c.if-is_fixed.false refl c.better.ensures
