-- `outline::sweep::scan_columns` meets its contract. The loop's invariant (`Swept`): the states are those after k rows, and the thresholds
-- are those of row y. Assumes nothing.
use mathlib.Core.Path.{◌≡◌, subst}
use Prim.Native.Nat.{ℕ, ◌+◌}
use native.Mathlib.Omega.{arith}
use Rattle.boundary.specs.Boundary.{member_at}
use Rattle.outline.specs.Inner.{Swept}
use Rattle.outline.proofs.Sweeps.{swept-most, swept-turn, swept-early}
use Rattle.outline.proofs.sweep.scan_columns.Goals as goal

pub loop-k-init : goal.loop-k-init
loop-k-init c = (c.place-y.ensures.1, c.fill_cuts.ensures, c.requires.swept)

pub refill-requires : goal.refill-requires
refill-requires c =
    let p = c.requires in
    record {
      grids = p.grids;
      n_bound = (p.columns.0.across, p.columns.1, p.columns.2, omega (arith, p.columns.0));
      cut_row = c.loop-k.invariant.1;
    }

pub overflow_cast-k : goal.overflow_cast-k
overflow_cast-k c =
    let p = c.requires in
    omega (arith, p.grids, p.columns.0)

pub sweep_row-requires : goal.sweep_row-requires
sweep_row-requires c =
    let a = c.args in
    let g = c.requires.grids in
    let p = c.requires.columns in
    let q = c.loop-k in
    let m = member_at a.want a.w a.s.now a.levels.now a.labels.now in
    let most = swept-most a.run p.3 m a.y0 a.rows a.x a.n a.back q.k q.state q.invariant.2 in
    record {
      s_len = (p.0.bytes, g.wide, g.high, p.0.across, omega (arith, p.0));
      n_bound = (p.2, q.invariant.2.size, omega (arith, p.0, g), λ i l. omega (arith, most i l, p.0, g));
    }

pub overflow_add-k : goal.overflow_add-k
overflow_add-k c =
    let p = c.requires in
    omega (arith, p.grids, p.columns.0)

pub all_found-requires : goal.all_found-requires
all_found-requires c = c.requires.columns.2

pub returns-then-all_found : goal.returns-then-all_found
returns-then-all_found c =
    let a = c.args in
    let q = c.loop-k in
    let y = c.place-y-in-loop-k in
    let test = c.loop-k-test in
    let cuts = c.refill.ensures in
    let v = swept-turn a.run a.want a.w a.s.now a.levels.now a.labels.now a.y0 a.rows a.x a.n a.back
    q.k q.state _ y.result _ q.invariant.2 cuts y.ensures.0 c.sweep_row.ensures in
    swept-early a.run (member_at a.want a.w a.s.now a.levels.now a.labels.now) a.y0 a.rows a.x a.n
    a.back (q.k + 1) _ v (c.all_found.ensures c.if-all_found.true) (omega (arith, test))

pub loop-k-preserved : goal.loop-k-preserved
loop-k-preserved c =
    let a = c.args in
    let q = c.loop-k in
    let y = c.place-y-in-loop-k in
    let cuts = c.refill.ensures in
    let v = swept-turn a.run a.want a.w a.s.now a.levels.now a.labels.now a.y0 a.rows a.x a.n a.back
    q.k q.state _ y.result _ q.invariant.2 cuts y.ensures.0 c.sweep_row.ensures in
    (y.ensures.1, cuts, v)

pub returns : goal.returns
returns c =
    let a = c.args in
    let q = c.loop-k in
    let z : q.k ≡ a.rows = omega arith in
    subst (λ (k : ℕ). Swept a.run (member_at a.want a.w a.s.now a.levels.now a.labels.now) a.y0 a.rows a.x
    a.n a.back k q.state) z q.invariant.2
