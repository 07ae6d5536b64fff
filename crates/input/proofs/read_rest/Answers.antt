-- `input::read_rest` meets its contract. Assumes nothing.
use Rattle.input.proofs.Reading.{stays, file-few}
use mathlib.Core.Path.{◌∙◌}
use native.Mathlib.Omega.{arith}
use Rattle.input.proofs.read_rest.Goals as goal

pub read_part-requires : goal.read_part-requires
read_part-requires c =
    let h = c.read_header-h in
    let m = c.pixels-more in
    omega (arith, h.ensures.bounds.1, m.ensures.most, h.auto.bytes, c.requires.most_in_bounds)

pub shape_of-bytes : goal.shape_of-bytes
shape_of-bytes c = c.read_part.auto.bytes ∙ c.read_header-h.auto.bytes

pub returns : goal.returns
returns c =
    let most = c.args.most in
    let h = c.read_header-h in
    let m = c.pixels-more in
    let p = c.read_part in
    record {
      bounds = (omega (arith, h.ensures.bounds.0), omega (arith, h.ensures.bounds.1, m.ensures.most, p.ensures.most));
      most = file-few most h.new.bytes p.new.bytes h.result m.result p.result h.ensures.bounds.0 h.ensures.bytes
          m.ensures.answer p.ensures.most p.ensures.bytes;
      letters = stays h.result.at h.new.bytes p.new.bytes h.ensures.bounds.0 p.ensures.bytes ∙ h.ensures.letters;
    }
