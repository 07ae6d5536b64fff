-- The bins hold the counts of the first j rows of the part. Assumes nothing.
use mathlib.Core.Path.{◌∙◌}
use Prim.Native.Nat.{◌+◌, ℕ}
use native.Mathlib.Nat.{mul-le-mul}
use native.Mathlib.Omega.{arith}
use lib.ListN.{get_or-replicate}
use borrow.Author.Rules.{rules}
use Rattle.laws.proofs.Planes.{row-end}
use Rattle.laws.specs.Plane.{plane}
use Rattle.levels.proofs.Hist.{count_rows-le, count_rows-none, count_rows-part}
use Rattle.levels.proofs.cells.count_part.Goals as goal

pub loop-j-init : goal.loop-j-init
loop-j-init c =
    let a = c.args in
    record {
      many = search rules;
      counts = λ b l. omega (
        arith,
        get_or-replicate {A = ℕ} 128 b 0 0 (omega arith),
        get_or-replicate {A = ℕ} 128 (32 + b) 0 0 (omega arith),
        get_or-replicate {A = ℕ} 128 (64 + b) 0 0 (omega arith),
        get_or-replicate {A = ℕ} 128 (96 + b) 0 0 (omega arith),
        count_rows-none (plane a.w a.s.now) a.x0 a.y0 a.lx b,
      );
    }

pub count_row-requires-clause-bins_up_to : goal.count_row-requires-clause-bins_up_to
count_row-requires-clause-bins_up_to c b l =
    let a = c.args in
    omega (
      arith,
      c.loop-j.invariant.counts b l,
      count_rows-le (plane a.w a.s.now) a.x0 a.y0 a.lx c.loop-j.j b,
      mul-le-mul {n₁ = c.loop-j.j} {m₁ = a.lx} {n₂ = 15} {m₂ = 16} (omega arith) (omega arith),
    )

pub loop-j-preserved : goal.loop-j-preserved
loop-j-preserved c =
    let a = c.args in
    let e = row-end (a.y0 + c.loop-j.j) (a.y0 + a.ly) a.w (omega arith) in
    record {
      many = c.count_row.ensures.many;
      counts = λ b l. c.count_row.ensures.counts b l
          ∙ count_rows-part a.s.now a.w a.x0 a.y0 a.lx c.loop-j.j b (omega arith) (c.loop-j.invariant.counts b l);
    }

pub merged-requires : goal.merged-requires
merged-requires c b l =
    let a = c.args in
    omega (
      arith,
      c.loop-j.invariant.counts b l,
      count_rows-le (plane a.w a.s.now) a.x0 a.y0 a.lx c.loop-j.j b,
      mul-le-mul {n₁ = c.loop-j.j} {m₁ = a.lx} {n₂ = 16} {m₂ = 16} (omega arith) (omega arith),
    )
