-- `whole_hull::laying::lay` meets its contract. Assumes nothing.
use mathlib.Core.Path.{sym, subst, ◌∙◌}
use Prim.Native.Nat.{ℕ, ◌+◌, ◌*◌, ◌≤◌}
use native.Mathlib.Omega.{arith}
use lib.ListN.{length}
use mathlib.Core.Bool.{true}
use Rattle.laws.proofs.Stores.{stored-length}
use Rattle.whole_hull.specs.Inner.{half_round}
use Rattle.whole_hull.proofs.Halves.{first-room, second-room, one-room, lay-two, lay-one}
use Rattle.whole_hull.proofs.laying.lay.Goals as goal

pub lies_above-down-requires : goal.lies_above-down-requires
lies_above-down-requires c =
    let p = c.requires.chain_places in
    let q = c.requires.chain_places_2 in
    let h = p.room in
    let i = q.room in
    record {
      a_len = (p.size, h);
      full = p.points c.args.k (omega arith);
      b_len = (q.size, omega arith);
      full_2 = q.points 0 (omega arith);
    }

pub lies_above-up-requires : goal.lies_above-up-requires
lies_above-up-requires c =
    let p = c.requires.chain_places in
    let q = c.requires.chain_places_2 in
    let h = p.room in
    let i = q.room in
    record {
      a_len = (p.size, omega arith);
      full = p.points 0 (omega arith);
      b_len = (q.size, i);
      full_2 = q.points c.args.j (omega arith);
    }

pub put_half-m-requires : goal.put_half-m-requires
put_half-m-requires c =
    let d = c.lies_above-down in
    let u = c.lies_above-up in
    let g = c.args in
    record {
      chain_places = c.requires.chain_places;
      straight_in_bounds = first-room g.a.now g.s.now g.k g.b.now g.t.now g.j d.result u.result d.ensures u.ensures
          (length g.out.now) c.requires.j_in_bounds;
    }

pub put_half-e-requires : goal.put_half-e-requires
put_half-e-requires c =
    let r = c.put_half-m in
    let d = c.lies_above-down in
    let u = c.lies_above-up in
    let g = c.args in
    record {
      chain_places = c.requires.chain_places_2;
      straight_in_bounds = subst (λ (n : ℕ). r.result + 2 * length (half_round true g.b.now g.t.now g.j u.result) ≤ n)
          (sym (stored-length r.ensures))
          (second-room g.a.now g.s.now g.k g.b.now g.t.now g.j d.result u.result d.ensures u.ensures
          (length g.out.now) r.result c.requires.j_in_bounds r.ensures);
    }

pub put_vertex-requires : goal.put_vertex-requires
put_vertex-requires c =
    let r = c.put_half-m in
    let q = c.put_half-e in
    let d = c.lies_above-down in
    let u = c.lies_above-up in
    let g = c.args in
    let p = c.requires.chain_places in
    let h = p.room in
    record {
      a_len = (p.size, omega arith);
      full = p.points 0 (omega arith);
      at_in_bounds = subst (λ (n : ℕ). 0 + 2 ≤ n) (sym (stored-length q.ensures ∙ stored-length r.ensures))
          (one-room g.a.now g.s.now g.k g.b.now g.t.now g.j d.result u.result d.ensures u.ensures
          (length g.out.now) c.requires.j_in_bounds);
    }

pub returns-then-e-eq0 : goal.returns-then-e-eq0
returns-then-e-eq0 c =
    let d = c.lies_above-down in
    let u = c.lies_above-up in
    let g = c.args in
    lay-one g.a.now g.s.now g.k g.b.now g.t.now g.j d.result u.result d.ensures u.ensures
    c.put_half-m.ensures c.put_half-e.ensures c.if-e-eq0.true c.put_vertex.ensures

pub returns : goal.returns
returns c =
    let d = c.lies_above-down in
    let u = c.lies_above-up in
    let g = c.args in
    lay-two g.a.now g.s.now g.k g.b.now g.t.now g.j d.result u.result d.ensures u.ensures
    c.put_half-m.ensures c.put_half-e.ensures c.if-e-eq0.false
