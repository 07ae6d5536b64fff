-- `light_at` reads the pixel at the centre of the outer cell, which is in the picture. Assumes nothing.
use native.Mathlib.Omega.{arith}
use lib.ListN.{length}
use Rattle.proof_ring.proofs.Centres.{centre-place, light-read, spot-small}
use Rattle.proof_ring.proofs.read.light_at.Goals as goal

pub centre-x-requires : goal.centre-x-requires
centre-x-requires c =
    let s = spot-small c.args.version c.args.p c.outer_spot-s.result c.outer_spot-s.ensures.version c.requires.p_bound
    c.outer_spot-s.ensures.answer in
    (c.requires.le_pitch.1, s.0)

pub centre-y-requires : goal.centre-y-requires
centre-y-requires c =
    let s = spot-small c.args.version c.args.p c.outer_spot-s.result c.outer_spot-s.ensures.version c.requires.p_bound
    c.outer_spot-s.ensures.answer in
    (c.requires.le_pitch.1, s.1)

pub overflow_mul-result : goal.overflow_mul-result
overflow_mul-result c =
    let k = centre-place c.args.version c.args.pitch c.args.w c.args.p (length c.args.pixels.now)
    c.outer_spot-s.result c.centre-x.result c.centre-y.result c.outer_spot-s.ensures.version c.requires.le_pitch.0 c.requires.pitch_bound
    c.requires.w_in_bounds c.requires.p_bound c.outer_spot-s.ensures.answer c.centre-x.ensures c.centre-y.ensures in
    omega (arith, k)

pub overflow_add-result : goal.overflow_add-result
overflow_add-result c =
    let k = centre-place c.args.version c.args.pitch c.args.w c.args.p (length c.args.pixels.now)
    c.outer_spot-s.result c.centre-x.result c.centre-y.result c.outer_spot-s.ensures.version c.requires.le_pitch.0 c.requires.pitch_bound
    c.requires.w_in_bounds c.requires.p_bound c.outer_spot-s.ensures.answer c.centre-x.ensures c.centre-y.ensures in
    omega (arith, k)

pub bounds-pixels-y : goal.bounds-pixels-y
bounds-pixels-y c =
    centre-place c.args.version c.args.pitch c.args.w c.args.p (length c.args.pixels.now)
    c.outer_spot-s.result c.centre-x.result c.centre-y.result c.outer_spot-s.ensures.version c.requires.le_pitch.0
    c.requires.pitch_bound c.requires.w_in_bounds c.requires.p_bound c.outer_spot-s.ensures.answer c.centre-x.ensures
    c.centre-y.ensures

pub returns : goal.returns
returns c =
    let a = c.args in
    light-read a.version a.pitch a.pixels.now a.w a.p c.outer_spot-s.result c.centre-x.result
    c.centre-y.result c.outer_spot-s.ensures.answer c.centre-x.ensures c.centre-y.ensures
