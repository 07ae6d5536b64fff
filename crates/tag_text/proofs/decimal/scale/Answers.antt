-- `tag_text::decimal::scale` meets its contract. Assumes nothing.
use Rattle.std.proofs.Common.{◌∙◌}
use Rattle.tag_text.proofs.Numbers.{scaled-is}
use Rattle.tag_text.proofs.decimal.scale.Goals as goal

pub returns : goal.returns
returns c =
    let a = c.args in
    scaled-is a.digits a.unit a.x c.f32_to_f64_with_nan-size.result c.cut.result c.requires
    (c.f32_to_f64_with_nan-size.ensures ∙ c.abs32.ensures) c.cut.ensures
