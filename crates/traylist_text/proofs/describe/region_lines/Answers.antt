-- `traylist_text::describe::region_lines` meets its contract. Assumes nothing.
use mathlib.Core.Path.{◌≡◌, sym}
use Prim.Native.Nat.{◌*◌}
use native.Mathlib.Omega.{arith}
use lib.ListN.{length, take}
use lib.Seq.{length-take-le}
use Rattle.traylist_text.specs.Listing.{region_word}
use Rattle.traylist_text.proofs.Pictures.{tray-sides, part-outlined, region-stored}
use Rattle.traylist_text.proofs.Pieces.{region-short, line-next}
use Rattle.traylist_text.proofs.describe.region_lines.Goals as goal

pub line-next-requires : goal.line-next-requires
line-next-requires c =
    let a = c.args in
    let e = c.requires in
    record {
      short = region-short a.w a.h a.r e.tray_region e.tray_picture.wide e.tray_picture.high;
      ns_in_bounds = omega (arith, e.at_in_bounds);
    }

pub region_points-n-requires : goal.region_points-n-requires
region_points-n-requires c =
    let a = c.args in
    let e = c.requires in
    record {
      sides = tray-sides a.s.now a.w a.h e.tray_picture;
      gridded = e.gridded;
      boxed = e.tray_region.boxed;
      h_in_bounds = omega (arith, e.tray_picture.wide, e.tray_picture.high);
    }

pub slice_bounds-outline_lines-end : goal.slice_bounds-outline_lines-end
slice_bounds-outline_lines-end c =
    let o = c.region_points-n in
    let l : length o.new.list ≡ 1280 = o.auto.list in
    sym (length-take-le (2 * o.result) o.new.list (omega (arith, l, o.ensures.bounds)))

pub outline_lines-requires : goal.outline_lines-requires
outline_lines-requires c =
    let a = c.args in
    let e = c.requires in
    let o = c.region_points-n in
    record {
      outline_points = part-outlined a.s.now a.w a.h e.tray_picture a.r e.tray_region
          (take (2 * o.result) o.new.list) o.ensures.list;
      at_in_bounds = line-next region_word _ 73 (region-short a.w a.h a.r e.tray_region e.tray_picture.wide e.tray_picture.high)
          (omega (arith, e.at_in_bounds)) c.line-next.ensures;
    }

pub returns : goal.returns
returns c =
    let a = c.args in
    let e = c.requires in
    let o = c.region_points-n in
    region-stored a.s.now a.w a.h e.tray_picture a.r e.tray_region (take (2 * o.result) o.new.list)
    o.ensures.list c.line-next.ensures c.outline_lines.ensures
