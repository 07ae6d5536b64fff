-- The first i regions are listed and the places past them hold none (Listing). Assumes nothing.
use mathlib.Core.Path.{◌∙◌, ◌≡◌, ap}
use native.Mathlib.Omega.{arith}
use lib.ListN.{get_or, length}
use Rattle.laws.specs.Plane.{value_at}
use Rattle.regions.proofs.Kept.{kept-at-ext, kept-of-ext}
use Rattle.regions.proofs.Listing.{listing-end, listing-turn}
use Rattle.regions.specs.Kept.{kept_at}
use Rattle.regions.specs.Inner.{region_in, size_in}
use Rattle.regions.proofs.top.kept_regions.Goals as goal

pub loop-i-preserved : goal.loop-i-preserved
loop-i-preserved c =
    let a = c.args in
    let q = c.loop-i in
    let p = c.pick-p.ensures in
    let l = a.labels.now in
    let m = length a.sizes.now in
    let which : get_or c.pick-p.result.at q.i 0 ≡ kept_at (size_in l) m q.i =
    p.which q.i (omega arith) ∙ kept-at-ext (value_at a.sizes.now) (size_in l) m c.requires.by_index q.i in
    listing-turn q.invariant (omega (arith, p.few)) (c.region_of.ensures ∙ ap (region_in l a.w a.h a.width a.height) which)

pub returns : goal.returns
returns c =
    let a = c.args in
    let q = c.loop-i in
    let p = c.pick-p in
    let l = a.labels.now in
    let m = length a.sizes.now in
    let full : q.i ≡ p.result.kept = omega arith in
    listing-end (rw full at q.invariant) (p.ensures.many ∙ kept-of-ext (value_at a.sizes.now) (size_in l) m c.requires.by_index)
