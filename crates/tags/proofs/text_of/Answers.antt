-- `tags::text_of` meets its contract. Assumes nothing.
use Rattle.tag_text.specs.Lines.{answer_text, filled}
use Rattle.laws.specs.Said.{Said}
use Rattle.tag_list.specs.declared.tag.Tags.{Tags}
use lib.ListN.{length}
use mathlib.Core.Path.{◌∙◌, ap}
use Rattle.tags.proofs.text_of.Goals as goal

pub returns : goal.returns
returns c =
    let e = c.tags_of.ensures in
    let t = c.text.ensures in
    record {
      bytes = t.bytes ∙ ap (λ (a : Said Tags). filled (answer_text a)) e;
      len = t.len ∙ ap (λ (a : Said Tags). length (answer_text a)) e;
      most = t.most;
    }
