-- `attempt_text::pieces::put_singles` meets its contract. The loop's invariant: the first i floats are stored, with nine bytes for each at most. Assumes nothing.
use Rattle.attempt_text.proofs.Parts.{each-begin, each_turn, each-end}
use Rattle.attempt_text.specs.Traced.{single}
use Rattle.laws.proofs.Stores.{stored-length}
use native.Mathlib.Omega.{arith}
use Rattle.attempt_text.proofs.pieces.put_singles.Goals as goal

pub loop-x-init : goal.loop-x-init
loop-x-init c =
    let a = c.args in
    (each-begin single a.xs.now a.at a.out.now, omega arith)

pub put_single-to-requires : goal.put_single-to-requires
put_single-to-requires c =
    let q = c.loop-x in
    omega (arith, q.invariant.1, stored-length q.invariant.0, c.requires)

pub loop-x-preserved : goal.loop-x-preserved
loop-x-preserved c =
    let a = c.args in
    let q = c.loop-x in
    let p = c.put_single-to in
    (each_turn single a.xs.now q.x-index (omega arith) q.invariant.0 p.ensures.out, omega (arith, p.ensures.most, q.invariant.1))

pub shape_of-out : goal.shape_of-out
shape_of-out c = stored-length c.loop-x.invariant.0

pub returns : goal.returns
returns c =
    let a = c.args in
    let q = c.loop-x in
    record {
      out = each-end single a.xs.now q.x-index (omega arith) q.invariant.0;
      most = omega (arith, q.invariant.1);
    }
