-- `whole_quad::sides::greater` meets its contract. Assumes nothing.
use mathlib.Core.Path.{refl}
use Rattle.whole_quad.proofs.Pairs.{kept-yes, kept-no}
use Rattle.whole_quad.proofs.sides.greater.Goals as goal

pub returns-then-val-s : goal.returns-then-val-s
returns-then-val-s c =
    let a = c.args in
    kept-yes (λ _. a.s) a.k.at a.i a.k.val a.s refl c.if-val-s.true

pub returns : goal.returns
returns c =
    let a = c.args in
    kept-no (λ _. a.s) a.k.at a.i a.k.val a.s refl c.if-val-s.false
