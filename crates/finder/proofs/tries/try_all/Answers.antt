-- `finder::tries::try_all` meets its contract. Invariant: the trace is the one that stands after i tries, and the four lists are untouched
-- past the places needed. Assumes nothing.
use native.Mathlib.Omega.{arith}
use Rattle.laws.specs.Plane.{plane}
use Rattle.finder.proofs.Regions.{kept-four, tries-is, worked-none, worked_then, roomy-then}
use Rattle.finder.proofs.Standing.{best-begin, best-end}
use Rattle.finder.proofs.tries.try_all.Goals as goal

pub tries_of-n-requires : goal.tries_of-n-requires
tries_of-n-requires c = let a = c.args in kept-four (plane a.w a.gray.now) a.w a.h a.k c.requires.k_value

pub loop-i-init : goal.loop-i-init
loop-i-init c = (best-begin _ _ c.short_trace-best.ensures, worked-none _ _ _ _ _)

pub try_next-best-requires : goal.try_next-best-requires
try_next-best-requires c =
    let p = c.requires in
    let q = c.loop-i.invariant in
    record {
      photo = p.photo;
      gridded = p.gridded;
      k_value = p.k_value;
      most_bound = p.most_bound;
      best_value = q.0;
      roomy = roomy-then p.roomy q.1;
    }

pub loop-i-preserved : goal.loop-i-preserved
loop-i-preserved c =
    let q = c.loop-i.invariant in
    let t = c.try_next-best.ensures in
    (t.answer, worked_then q.1 t.points)

pub shape_of-points : goal.shape_of-points
shape_of-points c = c.loop-i.invariant.1.first.same

pub shape_of-straight : goal.shape_of-straight
shape_of-straight c = c.loop-i.invariant.1.second.same

pub shape_of-cand : goal.shape_of-cand
shape_of-cand c = c.loop-i.invariant.1.third.same

pub shape_of-buf : goal.shape_of-buf
shape_of-buf c = c.loop-i.invariant.1.fourth.same

pub returns : goal.returns
returns c =
    let p = c.requires in
    let a = c.args in
    let q = c.loop-i in
    let n = c.tries_of-n in
    record {
      answer = best-end a.gray.now a.w a.h a.most q.i n.result q.best (omega arith)
          (tries-is (plane a.w a.gray.now) a.w a.h a.k p.k_value n.result n.ensures) q.invariant.0;
      points = q.invariant.1;
    }
