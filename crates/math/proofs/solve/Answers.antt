-- `math::solve` meets its contract: each check of the door has its case of `solve_answer`. Assumes nothing.
use Rattle.math.proofs.Doors.{solve-low, solve-high, solve-matrix, solve-right, solve-pass, square8}
use Rattle.std.proofs.Common.{Option, Ok, List}
use Rattle.std.specs.Prelude.{Float}
use Rattle.refusal.specs.Numbers.{said_some}
use lib.ListN.{length}
use native.Mathlib.Omega.{arith}
use Prim.Native.Nat.{◌≤◌, ◌*◌}
use mathlib.Core.Path.{◌≡◌, ap, ◌∙◌}
use borrow.Author.Rules.{rules}
use Rattle.math.proofs.solve.Goals as goal

pub returns-then-n-lt1 : goal.returns-then-n-lt1
returns-then-n-lt1 c =
    let s = c.args in solve-low s.n s.a.now s.b.now c.if-n-lt1.true

pub returns-then-n-gt8 : goal.returns-then-n-gt8
returns-then-n-gt8 c =
    let s = c.args in
    solve-high s.n s.a.now s.b.now c.if-n-gt8.true

pub overflow_mul-n : goal.overflow_mul-n
overflow_mul-n c =
    let n = c.args.n in
    let h : n ≤ 8 = omega arith in
    let z = square8 n h in
    omega arith

pub returns-then-a-n : goal.returns-then-a-n
returns-then-a-n c =
    let s = c.args in
    let l : 1 ≤ s.n = omega arith in
    let h : s.n ≤ 8 = omega arith in
    solve-matrix s.n s.a.now s.b.now l h c.if-a-n.true

pub returns-then-b-n : goal.returns-then-b-n
returns-then-b-n c =
    let s = c.args in
    let l : 1 ≤ s.n = omega arith in
    let h : s.n ≤ 8 = omega arith in
    solve-right s.n s.a.now s.b.now l h c.if-b-n.true

pub returns : goal.returns
returns c =
    let s = c.args in
    let l : 1 ≤ s.n = omega arith in
    let h : s.n ≤ 8 = omega arith in
    let a : length s.a.now ≡ s.n * s.n = search rules in
    let b : length s.b.now ≡ s.n = search rules in
    ap (λ (r : Option (List Float)). said_some (Ok r)) c.on_copies.ensures ∙ solve-pass s.n s.a.now s.b.now l h a b
