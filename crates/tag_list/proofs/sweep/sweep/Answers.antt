-- `tag_list::sweep::sweep` meets its contract. Invariant: what is known after i tries, and the four lists are untouched past the places
-- needed. Assumes nothing.
use mathlib.Core.Path.{◌≡◌, subst}
use Prim.Native.Nat.{ℕ}
use native.Mathlib.Omega.{arith}
use Rattle.laws.specs.Plane.{plane}
use Rattle.finder.proofs.Regions.{kept-four, worked-none, worked_then, roomy-then}
use Rattle.tag_list.specs.Inner.{After}
use Rattle.tag_list.proofs.Swept.{after-begin}
use Rattle.tag_list.proofs.sweep.sweep.Goals as goal

pub loop-i-init : goal.loop-i-init
loop-i-init c =
    let a = c.args in (
      after-begin a.gray.now a.w a.h a.most _ _ c.short_trace.ensures c.no_tags.ensures,
      worked-none _ _ _ _ _,
    )

pub sweep_next-s-requires : goal.sweep_next-s-requires
sweep_next-s-requires c =
    let p = c.requires in
    let a = c.args in
    let q = c.loop-i.invariant in
    let four = kept-four (plane a.w a.gray.now) a.w a.h a.k p.k_value in
    record {
      photo = p.photo;
      gridded = p.gridded;
      k_value = p.k_value;
      most_bound = p.most_bound;
      i_bound = omega (arith, four, c.loop-i-test.true);
      after = q.0;
      roomy = roomy-then p.roomy q.1;
    }

pub loop-i-preserved : goal.loop-i-preserved
loop-i-preserved c =
    let q = c.loop-i.invariant in
    let t = c.sweep_next-s.ensures in
    (t.answer, worked_then q.1 t.points)

pub shape_of-points : goal.shape_of-points
shape_of-points c = c.loop-i.invariant.1.first.same

pub shape_of-straight : goal.shape_of-straight
shape_of-straight c = c.loop-i.invariant.1.second.same

pub shape_of-cand : goal.shape_of-cand
shape_of-cand c = c.loop-i.invariant.1.third.same

pub shape_of-buf : goal.shape_of-buf
shape_of-buf c = c.loop-i.invariant.1.fourth.same

pub returns : goal.returns
returns c =
    let a = c.args in
    let q = c.loop-i in
    let e : q.i ≡ a.k.kept = omega arith in
    record {
      answer = subst (λ (i : ℕ). After a.gray.now a.w a.h a.most i q.s) e q.invariant.0;
      points = q.invariant.1;
    }
