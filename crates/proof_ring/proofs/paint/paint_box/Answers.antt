-- `paint_box` stores row by row. Invariant: the first j rows of the box are dark, all else as before.
-- Assumes nothing.
use mathlib.Core.List.{List}
use mathlib.Core.Path.{◌≡◌, sym, subst}
use Prim.Native.Nat.{ℕ, ◌+◌}
use native.Mathlib.Omega.{arith}
use lib.ListN.{length}
use Rattle.laws.specs.Plane.{plane}
use Rattle.proof_ring.proofs.Painting.{row_room}
use Rattle.proof_ring.proofs.Rows.{painted-none, painted-row}
use Rattle.proof_ring.specs.Inner.{Painted, dark_box}
use Rattle.proof_ring.proofs.paint.paint_box.Goals as goal

pub loop-j-init : goal.loop-j-init
loop-j-init c = let a = c.args in painted-none a.w a.x0 a.y0 a.n a.pixels.now

pub overflow_add-y0 : goal.overflow_add-y0
overflow_add-y0 c =
    let r = row_room c.args.w c.args.x0 c.args.y0 c.args.n c.loop-j.j (length c.args.pixels.now)
    (omega arith)
    c.requires.n_bound c.requires.w_in_bounds in
    omega arith

pub overflow_mul-y0 : goal.overflow_mul-y0
overflow_mul-y0 c =
    let r = row_room c.args.w c.args.x0 c.args.y0 c.args.n c.loop-j.j (length c.args.pixels.now)
    (omega arith)
    c.requires.n_bound c.requires.w_in_bounds in
    omega arith

pub overflow_add-y0-in-loop-j : goal.overflow_add-y0-in-loop-j
overflow_add-y0-in-loop-j c =
    let r = row_room c.args.w c.args.x0 c.args.y0 c.args.n c.loop-j.j (length c.args.pixels.now)
    (omega arith)
    c.requires.n_bound c.requires.w_in_bounds in
    omega arith

pub put_run-requires : goal.put_run-requires
put_run-requires c =
    let r = row_room c.args.w c.args.x0 c.args.y0 c.args.n c.loop-j.j (length c.args.pixels.now)
    (omega arith)
    c.requires.n_bound c.requires.w_in_bounds in
    omega (arith, c.loop-j.invariant.same)

pub loop-j-preserved : goal.loop-j-preserved
loop-j-preserved c =
    let at = c.loop-j in
    let r = row_room c.args.w c.args.x0 c.args.y0 c.args.n at.j (length c.args.pixels.now) (omega arith)
    c.requires.n_bound c.requires.w_in_bounds in
    subst (λ (l : List ℕ). Painted c.args.w
    (dark_box c.args.x0 c.args.y0 c.args.n (at.j + 1) (plane c.args.w c.args.pixels.now)) c.args.pixels.now
    l)
    (sym c.put_run.ensures)
    (painted-row c.args.w c.args.x0 c.args.y0 c.args.n at.j c.requires.n_bound c.args.pixels.now at.pixels
    (omega (arith, at.invariant.same)) at.invariant)

pub returns : goal.returns
returns c =
    let a = c.args in
    let at = c.loop-j in
    let e : at.j ≡ a.n = omega arith in
    subst (λ (k : ℕ). Painted a.w (dark_box a.x0 a.y0 a.n k (plane a.w a.pixels.now)) a.pixels.now at.pixels) e
    at.invariant
