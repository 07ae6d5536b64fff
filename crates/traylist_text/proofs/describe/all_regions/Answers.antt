-- `traylist_text::describe::all_regions` meets its contract. The loop's invariant: the lines of the first i regions are stored.
-- Assumes nothing.
use Rattle.regions.specs.Regions.{no_region}
use Rattle.traylist_text.proofs.Texts.{region-nth, tray-nth}
use lib.ListN.{get_or}
use Rattle.traylist_text.proofs.Texts.{first-none, first_more, first-room, kept-count}
use Rattle.region_outline.proofs.Points.{count-four}
use Rattle.laws.proofs.Stores.{stored-length}
use Rattle.laws.specs.Lent.{Stored}
use Rattle.traylist_text.specs.Listing.{first_lines}
use Rattle.laws.specs.Plane.{plane}
use native.Mathlib.Omega.{arith}
use Prim.Native.Nat.{ℕ}
use mathlib.Core.Path.{◌≡◌, subst}
use Rattle.traylist_text.proofs.describe.all_regions.Goals as goal

pub loop-i-init : goal.loop-i-init
loop-i-init c =
    let a = c.args in
    first-none (plane a.w a.s.now) a.w a.h a.at a.out.now

pub offset_bounds-list-i : goal.offset_bounds-list-i
offset_bounds-list-i c =
    let a = c.args in
    let e = c.requires in
    omega (arith, kept-count a.s.now a.w a.h e.tray_picture a.k e.k_value, count-four (plane a.w a.s.now) a.w a.h)

pub bounds-list-i : goal.bounds-list-i
bounds-list-i c =
    let a = c.args in
    let e = c.requires in
    omega (arith, kept-count a.s.now a.w a.h e.tray_picture a.k e.k_value, count-four (plane a.w a.s.now) a.w a.h)

pub region_lines-to-requires : goal.region_lines-to-requires
region_lines-to-requires c =
    let a = c.args in
    let e = c.requires in
    let q = c.loop-i in
    let n = kept-count a.s.now a.w a.h e.tray_picture a.k e.k_value in
    record {
      tray_picture = e.tray_picture;
      gridded = e.gridded;
      tray_region = tray-nth a.s.now a.w a.h e.tray_picture a.k e.k_value q.i (omega arith);
      at_in_bounds = first-room a.s.now a.w a.h e.tray_picture q.i a.k.kept n (omega arith) (omega (arith, e.at_in_bounds)) q.invariant;
    }

pub loop-i-preserved : goal.loop-i-preserved
loop-i-preserved c =
    let a = c.args in
    let e = c.requires in
    let q = c.loop-i in
    let p = plane a.w a.s.now in
    first_more p a.w a.h q.i (get_or a.k.list q.i no_region) (region-nth p a.w a.h a.k e.k_value q.i) q.invariant
    c.region_lines-to.ensures

pub shape_of-out : goal.shape_of-out
shape_of-out c = stored-length c.loop-i.invariant

pub returns : goal.returns
returns c =
    let a = c.args in
    let q = c.loop-i in
    let z : q.i ≡ a.k.kept = omega arith in
    subst (λ (n : ℕ). Stored a.at (first_lines (plane a.w a.s.now) a.w a.h n) a.out.now q.out q.to) z q.invariant
