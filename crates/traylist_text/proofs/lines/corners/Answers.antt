-- `traylist_text::lines::corners` meets its contract. Assumes nothing.
use Rattle.traylist_text.proofs.Pieces.{corners-text, corners-short}
use native.Mathlib.Omega.{arith}
use Rattle.traylist_text.proofs.lines.corners.Goals as goal

pub line-requires : goal.line-requires
line-requires c =
    record {
      short = corners-short c.args.q _ _ _ _ _ _ _ _
          c.doubled.ensures c.doubled-2.ensures c.doubled-3.ensures c.doubled-4.ensures c.doubled-5.ensures c.doubled-6.ensures c.doubled-7.ensures c.doubled-8.ensures c.requires.near_points;
      ns_in_bounds = omega (
        arith,
        c.requires.at_in_bounds,
      );
    }

pub returns : goal.returns
returns c =
    corners-text c.args.q _ _ _ _ _ _ _ _
    c.doubled.ensures c.doubled-2.ensures c.doubled-3.ensures c.doubled-4.ensures c.doubled-5.ensures c.doubled-6.ensures c.doubled-7.ensures c.doubled-8.ensures c.line.ensures
