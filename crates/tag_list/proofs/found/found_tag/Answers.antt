-- `tag_list::found::found_tag` meets its contract: the tag of the promoted trace. Assumes nothing.
use mathlib.Core.Path.{ap, ◌∙◌}
use mathlib.Core.List.{[]}
use native.Mathlib.Omega.{arith}
use Rattle.ring.specs.declared.quads.Trace.{Trace}
use Rattle.finder.proofs.Standing.{trace-is}
use Rattle.tag_list.specs.declared.tag.Tags.{Tags}
use Rattle.tag_list.specs.Tags.{fix_tags, four_tags}
use Rattle.tag_list.specs.Inner.{with_fix}
use Rattle.tag_list.proofs.Listed.{with-fix-is, many_is}
use Rattle.tag_list.proofs.found.found_tag.Goals as goal

pub with_fix-requires : goal.with_fix-requires
with_fix-requires c = omega (arith, many_is [] c.no_tags.result c.no_tags.ensures)

pub returns : goal.returns
returns c =
    let a = c.args in
    let t = c.after_all_ink-all in
    let p = c.promoted-t in
    record {
      answer = c.with_fix.ensures ∙ ap (λ (g : Tags). with_fix g p.result.fix) c.no_tags.ensures
          ∙ with-fix-is [] p.result.fix (omega arith)
          ∙ ap (λ (t : Trace). four_tags (fix_tags t.fix))
          (trace-is a.gray.now a.w a.h a.most t.result p.result t.ensures.answer p.ensures);
      points = t.ensures.points;
    }
