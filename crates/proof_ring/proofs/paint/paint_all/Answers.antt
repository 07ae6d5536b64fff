-- `paint_all` goes through the positions. Invariant: the pixels show the square with the marks below p.
-- Assumes nothing.
use mathlib.Core.Path.{refl, ◌∙◌}
use native.Mathlib.Omega.{arith}
use Rattle.proof_ring.proofs.Painting.{painting-end, painting-turn, room-kept}
use Rattle.proof_ring.proofs.paint.paint_all.Goals as goal

pub loop-p-init : goal.loop-p-init
loop-p-init c = (refl, c.requires.shows_2)

pub bounds-seq-p : goal.bounds-seq-p
bounds-seq-p c =
    let n = c.positions-n.ensures.answer in
    let r = c.requires.version_in_bounds in
    omega arith

pub paint_position-requires : goal.paint_position-requires
paint_position-requires c =
    let at = c.loop-p in
    let n = c.positions-n.ensures.answer in
    record {
      room = room-kept c.args.plan.now c.args.pixels.now at.pixels at.invariant.0 c.requires.room;
      p_bound = omega arith;
    }

pub loop-p-preserved : goal.loop-p-preserved
loop-p-preserved c =
    let at = c.loop-p in
    let n = c.positions-n.ensures.answer in (
      c.paint_position.ensures.same ∙ at.invariant.0,
      painting-turn c.args.plan.now at.p c.args.seq.now at.pixels c.paint_position.new.pixels (omega arith)
          c.requires.all_marks at.invariant.1 c.paint_position.ensures,
    )

pub returns : goal.returns
returns c =
    let at = c.loop-p in
    let n = c.positions-n.ensures.answer in
    record {
      pixels = at.invariant.0;
      shows = painting-end c.args.plan.now at.p at.pixels (omega arith) at.invariant.1;
    }
