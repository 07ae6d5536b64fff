-- `whole_hull::vertices` meets its contract. Places: e the call, u after `tops`, h and g after `chain`, above and below. Assumes nothing.
use mathlib.Core.Path.{◌∙◌}
use mathlib.Core.Bool.{true, false}
use Prim.Native.Nat.{ℕ}
use lib.ListN.{length, length-replicate}
use Rattle.whole_hull.proofs.Stores.{tops-none}
use Rattle.whole_hull.proofs.Spans.{inside_on, inside_back}
use Rattle.whole_hull.proofs.Halves.{some_of, chain-some, places_of, hull-none, round-fits, round-end}
use Rattle.whole_hull.proofs.vertices.Goals as goal

pub returns-then-n-eq0 : goal.returns-then-n-eq0
returns-then-n-eq0 c =
    let clauses = hull-none c.args.p.now c.args.out.now c.if-n-eq0.true c.requires.p_len in
    record { answer = clauses.0; out = clauses.1 }

pub tops-span-requires : goal.tops-span-requires
tops-span-requires c =
    let p = c.args.p.now in
    record {
      p_nonzero = some_of _ c.if-n-eq0.false;
      bounded = c.requires.bounded;
      tops = tops-none false p;
      tops_2 = tops-none true p;
    }

pub chain-k-requires : goal.chain-k-requires
chain-k-requires c =
    let t = c.tops-span.ensures in
    record {
      a_len = t.a.size;
      s_len = length-replicate {A = ℕ} 8193 0;
      places_within = inside_on t.left t.a;
    }

pub chain-j-requires : goal.chain-j-requires
chain-j-requires c =
    let t = c.tops-span.ensures in
    record {
      a_len = t.b.size;
      s_len = length-replicate {A = ℕ} 8193 0;
      places_within = inside_back t.left t.b;
    }

pub overflow_sub-k : goal.overflow_sub-k
overflow_sub-k c =
    let some = some_of _ c.if-n-eq0.false in
    chain-some c.requires.bounded some c.chain-k.new.s c.chain-k.result c.tops-span.ensures.a c.chain-k.ensures.0

pub overflow_sub-j : goal.overflow_sub-j
overflow_sub-j c =
    let some = some_of _ c.if-n-eq0.false in
    chain-some c.requires.bounded some c.chain-j.new.s c.chain-j.result c.tops-span.ensures.b c.chain-j.ensures.0

pub lay-end-requires : goal.lay-end-requires
lay-end-requires c =
    let some = some_of _ c.if-n-eq0.false in
    let ta = c.tops-span.ensures.a in
    let tb = c.tops-span.ensures.b in
    let cs = c.chain-k in
    let ct = c.chain-j in
    let s = cs.new.s in
    let t = ct.new.s in
    let ls = cs.auto.s ∙ length-replicate {A = ℕ} 8193 0 in
    let lt = ct.auto.s ∙ length-replicate {A = ℕ} 8193 0 in
    record {
      chain_places = places_of c.requires.bounded some s cs.result ta cs.ensures.0 cs.ensures.1 ls;
      chain_places_2 = places_of c.requires.bounded some t ct.result tb ct.ensures.0 ct.ensures.1 lt;
      j_in_bounds = round-fits c.requires.p_len c.requires.bounded some s t cs.result ct.result ta tb cs.ensures.0 ct.ensures.0
          (length c.args.out.now) c.requires.p_in_bounds;
    }

pub returns : goal.returns
returns c =
    let some = some_of _ c.if-n-eq0.false in
    let cs = c.chain-k in
    let ct = c.chain-j in
    let clauses = round-end c.requires.p_len c.requires.bounded some cs.new.s ct.new.s cs.result ct.result c.tops-span.ensures.a
    c.tops-span.ensures.b cs.ensures.0 ct.ensures.0 c.requires.p_in_bounds c.lay-end.ensures in
    record { answer = clauses.0; out = clauses.1 }
