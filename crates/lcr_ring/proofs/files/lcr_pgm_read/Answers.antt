-- `lcr_ring::files::lcr_pgm_read` meets its contract: the reader's answer, handed on. Assumes nothing.
use mathlib.Core.Path.{ap, ◌∙◌}
use Rattle.laws.specs.Said.{result_of}
use Rattle.c_pictures.specs.Files.{width_after, height_after, at_after}
use Rattle.lcr_ring.proofs.files.lcr_pgm_read.Goals as goal

pub returns : goal.returns
returns c =
    let a = c.args in
    let d = c.read-a.ensures in
    let p = c.put_picture.ensures in
    record {
      answer = p.answer ∙ ap result_of d;
      width = p.width ∙ ap (λ f. width_after f a.width.now) d;
      height = p.height ∙ ap (λ f. height_after f a.height.now) d;
      at = p.at ∙ ap (λ f. at_after f a.at.now) d;
    }
