-- `medians::select::select` meets its contract: by recursion on the part that holds the place k.
-- Measure: the length of the list, which is shorter in either part. Assumes nothing.
use Prim.Native.Nat.{◌≤◌, ◌<◌}
use native.Mathlib.Omega.{arith}
use Rattle.medians.proofs.Selection.{select-one, select-front, select-mid, select-tail, front-ok, back-ok}
use Rattle.medians.proofs.select.+select.Goals as goal

pub returns-then-v-le1 : goal.returns-then-v-le1
returns-then-v-le1 t c = select-one _ _ c.requires.k_in_bounds c.if-v-le1.true

pub select-requires : goal.select-requires
select-requires t c =
    let z = front-ok _ _ _ _ c.requires.numbers c.partition-s.ensures _ _ c.decreases c.if-k-e.true in (z.0, (z.1, z.2))

pub returns-then-k-e : goal.returns-then-k-e
returns-then-k-e t c = select-front _ _ _ _ c.requires.numbers c.partition-s.ensures _ _ _ c.if-k-e.true c.select.ensures

pub select-requires-then-i-k : goal.select-requires-then-i-k
select-requires-then-i-k t c =
    let h : c.partition-s.result.i ≤ c.args.k = omega arith in
    let z = back-ok _ _ _ _ c.requires.numbers c.partition-s.ensures _ _ c.decreases c.requires.k_in_bounds h in (z.0, (z.1, z.2))

pub returns-then-i-k : goal.returns-then-i-k
returns-then-i-k t c =
    let h : c.partition-s.result.i ≤ c.args.k = omega arith in
    select-tail _ _ _ _ c.requires.numbers c.partition-s.ensures _ _ _ c.requires.k_in_bounds h c.select-then-i-k.ensures

pub returns : goal.returns
returns t c =
    let h : c.partition-s.result.e ≤ c.args.k = omega arith in
    let l : c.args.k < c.partition-s.result.i = omega arith in
    select-mid _ _ _ _ c.requires.numbers c.partition-s.ensures _ c.requires.k_in_bounds h l
