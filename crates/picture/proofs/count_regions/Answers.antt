-- The labels of the list are the picture's, and so are the regions by them (regions-listed). Assumes nothing.
use mathlib.Core.Path.{◌∙◌, refl, sym}
use native.Mathlib.Omega.{arith}
use lib.ListN.{take}
use lib.Seq.{length-take-le}
use Rattle.laws.proofs.Past.{past-front}
use Rattle.laws.specs.Plane.{plane}
use Rattle.picture.proofs.Outcomes.{labels-most, many-most}
use Rattle.regions.proofs.Listing.{regions-listed}
use Rattle.labels.specs.Cells.{cells_of}
use Rattle.picture.proofs.count_regions.Goals as goal

pub slice_bounds-regions-end-2 : goal.slice_bounds-regions-end-2
slice_bounds-regions-end-2 c =
    let p = c.requires in
    omega (arith, many-most p.labelled_by, p.h_in_bounds)

pub slice_bounds-regions-end-3 : goal.slice_bounds-regions-end-3
slice_bounds-regions-end-3 c =
    let p = c.requires in
    sym (length-take-le _ _ (omega (arith, many-most p.labelled_by, p.h_in_bounds)))

pub regions-requires : goal.regions-requires
regions-requires c =
    let a = c.args in
    let few = many-most c.requires.labelled_by in
    let n = c.cells_in-n.ensures in
    rw (
      length-take-le a.v a.stack.now (omega (arith, few, c.requires.h_in_bounds)),
      c.region_cells-cw.ensures,
      c.region_cells-ch.ensures,
      n.0,
    ) (
    record {
      cells = record {
        some = omega arith;
        wide = omega arith;
        high = omega arith;
        few = omega (arith, n);
        many = length-take-le (cells_of a.w a.h) a.labels.now c.requires.h_in_bounds.0;
      };
      sizes_len_bound = (omega (arith, few, n), omega arith, omega arith);
      by_index = labels-most c.requires.labelled_by;
    }
    )

pub returns : goal.returns
returns c =
    let a = c.args in
    let n = cells_of a.w a.h in
    let few = many-most c.requires.labelled_by in
    let long = length-take-le a.v a.stack.now (omega (arith, few, c.requires.h_in_bounds)) in
    let r = c.regions in
    record {
      answer = (rw (c.cells_in-n.ensures.0, c.region_cells-ch.ensures, c.region_cells-cw.ensures, long) at r.ensures)
          ∙ regions-listed (plane a.w a.s.now) a.w a.h (take n a.labels.now) c.requires.labelled_by.held c.requires.labelled_by.all;
      stack_past = past-front n a.v r.new.sizes a.stack.now few (omega (arith, few, c.requires.h_in_bounds)) (r.auto.sizes ∙ long) refl;
    }
