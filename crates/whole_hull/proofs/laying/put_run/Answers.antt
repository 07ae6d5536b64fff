-- `whole_hull::laying::put_run` meets its contract. The loop's invariant: the first i vertices are stored. Assumes nothing.
use mathlib.Core.Path.{◌≡◌, refl, ◌∙◌, subst}
use Prim.Native.Nat.{ℕ}
use native.Mathlib.Omega.{arith}
use Rattle.laws.proofs.Stores.{stored-length}
use Rattle.laws.specs.Lent.{Stored}
use Rattle.hull.specs.Points.{numbers_of}
use Rattle.whole_hull.specs.Inner.{vertex, list_up_to}
use Rattle.whole_hull.proofs.Halves.{run-begin, run_step, run-place}
use Rattle.whole_hull.proofs.laying.put_run.Goals as goal

pub loop-i-init : goal.loop-i-init
loop-i-init c =
    let s = c.args in
    (refl, run-begin (vertex s.back s.a.now s.s.now) s.at s.out.now)

pub put_vertex-m-requires : goal.put_vertex-m-requires
put_vertex-m-requires c =
    let q = c.loop-i in
    let l = c.loop-i-test.true in
    let r = c.requires.chain_places.room in
    let e = run-place (vertex c.args.back c.args.a.now c.args.s.now) q.i c.args.at q.invariant.1 in
    let z = q.invariant.0 in
    let w = c.requires.k_in_bounds in
    record {
      a_len = (c.requires.chain_places.size, omega arith);
      full = c.requires.chain_places.points q.i (omega arith);
      at_in_bounds = omega arith;
    }

pub loop-i-preserved : goal.loop-i-preserved
loop-i-preserved c =
    let q = c.loop-i in
    let r = c.put_vertex-m in (
      stored-length r.ensures ∙ q.invariant.0,
      run_step (vertex c.args.back c.args.a.now c.args.s.now) q.i c.args.at q.invariant.1 r.ensures,
    )

pub returns : goal.returns
returns c =
    let g = c.args in
    let q = c.loop-i in
    let z : q.i ≡ g.k = omega arith in
    subst (λ (n : ℕ). Stored g.at (numbers_of (list_up_to (vertex g.back g.a.now g.s.now) n)) g.out.now q.out q.m) z
    q.invariant.1
