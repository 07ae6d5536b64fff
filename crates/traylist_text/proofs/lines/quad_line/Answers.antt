-- `traylist_text::lines::quad_line` meets its contract. Assumes nothing.
use Rattle.traylist_text.proofs.Pieces.{none-line, found-line, found-near}
use native.Mathlib.Omega.{arith}
use Rattle.traylist_text.proofs.lines.quad_line.Goals as goal

pub returns-in_default : goal.returns-in_default
returns-in_default c = none-line c.quad.result c.args.p.now c.quad.ensures c.in_default.is c.line.ensures

pub corners-requires : goal.corners-requires
corners-requires c =
    record {
      near_points = found-near c.quad.result c.args.p.now
          c.quad.ensures c.in-Some.q c.in-Some.is c.requires.near_points;
      at_in_bounds = omega (arith, c.requires.at_in_bounds);
    }

pub returns : goal.returns
returns c = found-line c.quad.result c.args.p.now c.quad.ensures c.in-Some.q c.in-Some.is c.corners.ensures
