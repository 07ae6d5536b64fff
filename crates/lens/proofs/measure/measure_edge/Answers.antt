-- `lens::measure::measure_edge` meets its contract: an edge under 16, too few samples, or what the bow of the samples at the beginning of
-- buf tells. Assumes nothing.
use Rattle.std.proofs.Common.{◌*◌, sym, arith, length-take-le}
use Rattle.fit.proofs.Bands.{small_float}
use Rattle.fit.proofs.Selects.{kept_same, kept-past}
use Rattle.laws.proofs.Past.{past-none}
use Rattle.lens.proofs.EdgeMeasures.{measure-short, measure-few, measure-bent}
use Rattle.lens.proofs.measure.measure_edge.Goals as goal

pub returns-then-e : goal.returns-then-e
returns-then-e c =
    record {
      answer = measure-short _ _ _ _ _ c.edge_of-e.ensures c.if-e.true;
      buf_past = past-none _ _;
    }

pub int_to_float-many : goal.int_to_float-many
int_to_float-many c = let z = c.samples-r.ensures.few in small_float _ (omega arith)

pub returns-then-many-e : goal.returns-then-many-e
returns-then-many-e c =
    record {
      answer = measure-few _ _ _ _ _ c.edge_of-e.ensures
          c.if-e.false _
          c.side_of-d.ensures
          c.samples-r.ensures c.if-many-e.true;
      buf_past = kept-past c.samples-r.ensures
          c.requires.s_in_bounds;
    }

pub slice_bounds-two_fits-end-2 : goal.slice_bounds-two_fits-end-2
slice_bounds-two_fits-end-2 c =
    let z = c.samples-r.ensures.few in let w =
    kept_same c.samples-r.ensures
    c.requires.s_in_bounds in
    sym (length-take-le _ _ (omega arith))

pub two_fits-requires : goal.two_fits-requires
two_fits-requires c =
    let z = c.samples-r.ensures.few in let w =
    kept_same c.samples-r.ensures
    c.requires.s_in_bounds in let m =
    length-take-le (2 * c.samples-r.result)
    c.samples-r.new.buf (omega arith) in omega arith

pub returns : goal.returns
returns c =
    let kept = c.samples-r.ensures in
    let edge = c.edge_of-e.ensures in
    let long = c.if-e.false in
    let side = c.side_of-d.ensures in
    record {
      answer = measure-bent _ _ _ _ _ edge long _ side kept _ _ c.if-many-e.false c.two_fits.ensures
          c.bent.ensures;
      buf_past = kept-past kept c.requires.s_in_bounds;
    }
