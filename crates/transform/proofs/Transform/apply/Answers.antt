-- `transform::Transform::apply` meets its contract: a NaN has no pixel, the rest is `seen`. Assumes nothing.
use Rattle.std.proofs.Common.{not, T, sym, ap, ◌∙◌, subst, rules}
use lib.Ieee.{Float, is_nan}
use lib.Ieee.Compare.{differs_from_itself}
use Rattle.ieee.proofs.Tests.{ne-no-nan}
use Rattle.transform.specs.Mapping.{applied}
use Rattle.transform.proofs.Nans.{applied-nan-l, applied-nan-r}
use Rattle.transform.proofs.Transform.apply.Goals as goal

pub returns-then-u : goal.returns-then-u
returns-then-u c =
    let e = differs_from_itself c.args.u (subst T (sym c.if-u.true) tt) in
    c.no_pixel.ensures ∙ applied-nan-l c.args.self c.args.v ∙ ap (λ (z : Float). applied c.args.self z c.args.v) (sym e)

pub returns-then-v : goal.returns-then-v
returns-then-v c =
    let e = differs_from_itself c.args.v (subst T (sym c.if-v.true) tt) in
    c.no_pixel-then-v.ensures ∙ applied-nan-r c.args.self c.args.u ∙ ap (applied c.args.self c.args.u) (sym e)

pub float_to_float-u : goal.float_to_float-u
float_to_float-u c =
    let z : T (not (is_nan c.args.u)) = ne-no-nan _ c.if-u.false in
    search (rules, z)

pub float_to_float-v : goal.float_to_float-v
float_to_float-v c =
    let z : T (not (is_nan c.args.v)) = ne-no-nan _ c.if-v.false in
    search (rules, z)
