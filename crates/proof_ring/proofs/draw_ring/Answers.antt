-- `draw_ring` draws where the checks pass. Assumes nothing.
use mathlib.Core.Path.{refl, ap, ◌∙◌}
use Prim.Native.Nat.{ℕ}
use Rattle.laws.specs.Plane.{drawn}
use Rattle.lcr_core.proofs.DoorLaws.{known_is, version-known}
use Rattle.proof_ring.proofs.Answers.{room_of}
use Rattle.proof_ring.proofs.Painting.{shown-drawn}
use Rattle.proof_ring.specs.Picture.{ring_pixel}
use Rattle.proof_ring.proofs.draw_ring.Goals as goal

pub draw-requires : goal.draw-requires
draw-requires c =
    let a = c.args in
    let f = c.in_ok-check.ensures.passed refl in
    room_of _ a.h a.pixels.now (known_is a.version _ _ c.new.ensures c.in_ok-v.was) f.0 f.1

pub returns-clause-pixels : goal.returns-clause-pixels
returns-clause-pixels c =
    let a = c.args in
    let f = c.in_ok-check.ensures.passed refl in
    let k = version-known a.version _ _ c.new.ensures c.in_ok-v.was in
    shown-drawn _ a.h a.pixels.now c.draw.new.pixels f.0.count c.draw.ensures.pixels c.draw.ensures.shows
    ∙ ap (λ (n : ℕ). drawn a.w a.h (ring_pixel n a.pitch a.corner a.reversed) a.pixels.now) k.1
