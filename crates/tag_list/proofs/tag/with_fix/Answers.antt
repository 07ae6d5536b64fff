-- `tag_list::tag::with_fix` meets its contract: none, or the tag of the fix. Assumes nothing.
use mathlib.Core.Path.{sym, ap, ◌∙◌}
use Rattle.tag_list.specs.Inner.{with_tag, with_fix}
use Rattle.tag_list.proofs.tag.with_fix.Goals as goal

pub returns-in_default : goal.returns-in_default
unfolding with_fix
returns-in_default c = ap (with_fix c.args.s) (sym c.in_default.is)

pub returns : goal.returns
unfolding with_fix
returns c =
    let s = c.args.s in
    c.with_tag.ensures ∙ ap (with_tag s) c.tag_of-t.ensures
    ∙ ap (with_fix s) (sym c.in-Some.is)
