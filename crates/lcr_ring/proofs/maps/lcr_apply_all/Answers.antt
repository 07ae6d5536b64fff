-- `lcr_ring::maps::lcr_apply_all` meets its contract. Assumes nothing.
use mathlib.Core.Path.{◌≡◌, refl, ap, ◌∙◌}
use mathlib.Core.Bool.{true, false}
use lib.Dec.{ltb}
use lib.ListN.{length}
use borrow.Author.Tests.{lt-ltb, le-ltb}
use Rattle.laws.specs.Lent.{laid}
use Rattle.transform.specs.declared.Transform.{Transform}
use Rattle.c_numbers.specs.Maps.{mapped_pixels}
use borrow.Author.Rules.{rules}
use Rattle.lcr_ring.proofs.maps.lcr_apply_all.Goals as goal

pub returns-then-xy-uv : goal.returns-then-xy-uv
returns-then-xy-uv c =
    let a = c.args in
    let t : ltb (length a.xy.now) (length a.uv.now) ≡ true
    = lt-ltb (length a.xy.now) (length a.uv.now) (search rules) in
    rw t (record { answer = refl; xy = refl })

pub returns : goal.returns
returns c =
    let a = c.args in
    let t : ltb (length a.xy.now) (length a.uv.now) ≡ false
    = le-ltb (length a.xy.now) (length a.uv.now) (search rules) in
    let e = c.of_eleven.ensures in
    rw t (record { answer = refl; xy = c.apply_each.ensures ∙ ap (λ (m : Transform). laid (mapped_pixels m a.uv.now) a.xy.now) e })
