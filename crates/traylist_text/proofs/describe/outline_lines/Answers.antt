-- `traylist_text::describe::outline_lines` meets its contract. Assumes nothing.
use Rattle.traylist_text.proofs.Pieces.{two-short, line-next, hull-near, lines_stored}
use Rattle.traylist_text.proofs.Outlines.{hull-few}
use Rattle.traylist_text.specs.Listing.{outline_word}
use Rattle.hull.specs.Points.{many}
use lib.Seq.{length-take-le}
use lib.ListN.{length}
use native.Mathlib.Omega.{arith}
use Prim.Native.Nat.{◌*◌, ◌≤◌}
use mathlib.Core.Path.{◌≡◌, sym}
use Rattle.traylist_text.proofs.describe.outline_lines.Goals as goal

pub overflow_cast-m : goal.overflow_cast-m
overflow_cast-m c =
    let p = c.args.p.now in
    let few = c.requires.outline_points.few in
    let h = c.convex_hull-m in
    let m : h.result ≤ 640 = omega (arith, h.ensures.answer, hull-few p (many p)) in
    omega arith

pub line-next-requires : goal.line-next-requires
line-next-requires c =
    let p = c.args.p.now in
    let few = c.requires.outline_points.few in
    let h = c.convex_hull-m in
    let m : h.result ≤ 640 = omega (arith, h.ensures.answer, hull-few p (many p)) in
    record {
      short = two-short (many p) h.result (omega arith) (omega arith);
      ns_in_bounds = omega (arith, c.requires.at_in_bounds);
    }

pub overflow_mul-vertices : goal.overflow_mul-vertices
overflow_mul-vertices c =
    let p = c.args.p.now in
    let few = c.requires.outline_points.few in
    let h = c.convex_hull-m in
    let m : h.result ≤ 640 = omega (arith, h.ensures.answer, hull-few p (many p)) in
    omega arith

pub slice_bounds-vertices-end : goal.slice_bounds-vertices-end
slice_bounds-vertices-end c =
    let p = c.args.p.now in
    let few = c.requires.outline_points.few in
    let h = c.convex_hull-m in
    let m : h.result ≤ 640 = omega (arith, h.ensures.answer, hull-few p (many p)) in
    let l : length h.new.out ≡ 1280 = h.auto.out in
    omega arith

pub slice_bounds-quad_line-end : goal.slice_bounds-quad_line-end
slice_bounds-quad_line-end c =
    let p = c.args.p.now in
    let few = c.requires.outline_points.few in
    let h = c.convex_hull-m in
    let m : h.result ≤ 640 = omega (arith, h.ensures.answer, hull-few p (many p)) in
    let l : length h.new.out ≡ 1280 = h.auto.out in
    sym (length-take-le (2 * h.result) h.new.out (omega arith))

pub quad_line-requires : goal.quad_line-requires
quad_line-requires c =
    let p = c.args.p.now in
    let few = c.requires.outline_points.few in
    let h = c.convex_hull-m in
    let m : h.result ≤ 640 = omega (arith, h.ensures.answer, hull-few p (many p)) in
    record {
      near_points = hull-near p _ h.new.out h.result h.ensures.answer h.ensures.out c.requires.outline_points.near;
      at_in_bounds = line-next outline_word _ 53 (two-short (many p) h.result (omega arith) (omega arith)) (omega (arith, c.requires.at_in_bounds)) c.line-next.ensures;
    }

pub returns : goal.returns
returns c =
    let p = c.args.p.now in
    let h = c.convex_hull-m in
    lines_stored p _ h.new.out h.result h.ensures.answer h.ensures.out c.line-next.ensures c.quad_line.ensures
