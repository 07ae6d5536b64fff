-- `doubled::refusals::coordinates` meets its contract. The loop's invariant (`Past`): none of the numbers so far is counted just where all are
-- coordinates. Assumes nothing.
use mathlib.Core.Path.{◌≡◌, refl, sym, ap, ◌∙◌}
use Prim.Native.Nat.{ℕ, zero, suc, ◌<◌}
use native.Mathlib.Omega.{arith}
use lib.ListN.{length}
use Rattle.doubled.specs.Checks.{coordinates_on}
use Rattle.doubled.proofs.Checks.{past-begin, past-turn}
use Rattle.doubled.proofs.refusals.coordinates.Goals as goal

positive : (n : ℕ) → (n ≡ 0 → ⊥) → 0 < n
positive zero some = absurd (some refl)
positive (suc n) some = omega arith

pub loop-n-init : goal.loop-n-init
loop-n-init c = (past-begin _, c.requires)

pub overflow_add-past : goal.overflow_add-past
overflow_add-past c =
    let few = c.loop-n.invariant.0.few in
    let one = c.beyond-past.ensures.2 in
    omega arith

pub loop-n-preserved : goal.loop-n-preserved
loop-n-preserved c =
    let q = c.loop-n.invariant in
    let r = c.beyond-past.ensures in
    (past-turn _ _ _ _ q.0 r.0 r.1 r.2, q.1)

pub returns-then-past-eq0 : goal.returns-then-past-eq0
returns-then-past-eq0 c =
    let p = c.args.p.now in
    let z : c.loop-n.n-index ≡ length p = omega arith in
    sym (ap (λ (k : ℕ). coordinates_on p k 0) (sym z) ∙ c.loop-n.invariant.0.none c.if-past-eq0.true)

pub returns : goal.returns
returns c =
    let p = c.args.p.now in
    let z : c.loop-n.n-index ≡ length p = omega arith in
    sym (ap (λ (k : ℕ). coordinates_on p k 0) (sym z) ∙ c.loop-n.invariant.0.some (positive _ c.if-past-eq0.false))
