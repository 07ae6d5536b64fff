-- `transform::Transform::with_radial` meets its contract: an f32 is the same number as an f64. Assumes nothing.
use Rattle.transform.proofs.Parts.{radial-is}
use Rattle.transform.proofs.Transform.with_radial.Goals as goal

pub returns : goal.returns
returns c =
    let s = c.args in
    radial-is s.self s.cx s.cy s.kappa _ _ _ c.wide.ensures c.wide-2.ensures c.wide-3.ensures
