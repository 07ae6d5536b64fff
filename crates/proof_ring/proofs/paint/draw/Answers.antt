-- `draw` makes all pixels 255, which shows the square with no marks, and paints all positions. Assumes nothing.
use mathlib.Core.Path.{◌≡◌, refl}
use native.Mathlib.Omega.{arith}
use lib.ListN.{length}
use Rattle.proof_ring.proofs.Painting.{ground, room-kept}
use Rattle.proof_ring.proofs.paint.draw.Goals as goal

pub paint_all-requires : goal.paint_all-requires
paint_all-requires c =
    let seq : length c.sequence.new.out ≡ 1112 = c.sequence.auto.out in
    record {
      room = room-kept c.args.plan.now c.args.pixels.now c.put_run.new.pixels
          c.put_run.auto.pixels c.requires;
      version_in_bounds = omega (arith, c.requires.version.greatest);
      all_marks = c.sequence.ensures;
      shows_2 = ground c.args.plan.now _ c.args.pixels.now c.put_run.new.pixels refl
          c.put_run.ensures;
    }
