-- `ieee::square_root::root_bits` meets its contract: the digits are scaled until their root has 24.
-- Invariant: n * 4 ^ k is the square of the root, in smallest values, and n is below 2 ^ 48. Measure: k. Assumes nothing.
use Rattle.std.proofs.Common.{ℕ, ◌+◌, ◌-◌, ◌*◌, ◌%◌, ◌<◌, ◌≤◌, sym, ◌∙◌, subst, mul-le-mul_right, mul-le-mul, arith, Fits-le, Fits-lit}
use Rattle.ieee.proofs.Roots.{square, start, square-big, k-pos, fourfold, near-24, root-pattern}
use Rattle.ieee.proofs.square_root.root_bits.Invariants.{Grown}
use Rattle.ieee.proofs.square_root.root_bits.Goals as goal

twofold : (m p : ℕ) → m ≤ 16777215 → m * (1 + p % 2) ≤ 33554430
twofold m p h = mul-le-mul h (two p)
  where
    two : (p : ℕ) → 1 + p % 2 ≤ 2
    two p = omega arith

small : (m p : ℕ) → m ≤ 16777215 → m * (1 + p % 2) * 8388608 < 281474976710656
small m p h = let z = twofold m p h in omega arith

grow : (b n k : ℕ) → 0 < b → b < 2139095040 → Grown b n k → n < 70368744177664 → Grown b (n * 4) (k - 1) × (0 < k)
grow b n k p h inv l =
    let z = k-pos n k (square b) inv.0 l (square-big b p h) in
    ((fourfold n k z ∙ inv.0, omega arith, omega arith), z)

grows : (c : goal.In-loop-n)
    → Grown c.args.b (c.loop-n.n * 4) (c.loop-n.k - 1) × (0 < c.loop-n.k)
grows c = grow _ _ _ c.requires.b_nonzero c.requires.b_bound c.loop-n.invariant c.loop-n-test.true

nears : (c : goal.After-quick_root) → c.quick_root.result ≤ 16777216
nears c = subst (λ (z : ℕ). z ≤ 16777216) (sym c.quick_root.ensures)
    (near-24 _ c.loop-n-test.false c.loop-n.invariant.1).1

pub overflow_mul-n : goal.overflow_mul-n
overflow_mul-n c = Fits-le (twofold _ _ (omega arith)) (Fits-lit tt)

pub overflow_mul-n-2 : goal.overflow_mul-n-2
overflow_mul-n-2 c = Fits-le (mul-le-mul_right 8388608 (twofold _ _ (omega arith))) (Fits-lit tt)

pub loop-n-init : goal.loop-n-init
loop-n-init c = (start _ _ _ c.digits-m.ensures c.place-q.ensures, small _ _ (omega arith), omega arith)

pub overflow_sub-k-in-loop-n : goal.overflow_sub-k-in-loop-n
overflow_sub-k-in-loop-n c = (grows c).1

pub loop-n-smaller : goal.loop-n-smaller
loop-n-smaller c = let z = (grows c).1 in omega arith

pub loop-n-preserved : goal.loop-n-preserved
loop-n-preserved c = (grows c).0

pub overflow_cast-result : goal.overflow_cast-result
overflow_cast-result c = Fits-le (nears c) (Fits-lit tt)

pub overflow_add-result : goal.overflow_add-result
overflow_add-result c = let z = nears c in omega arith

pub returns : goal.returns
returns c =
    let inv = c.loop-n.invariant in
    root-pattern _ _ _ _ c.requires.b_nonzero c.requires.b_bound inv.0 c.loop-n-test.false inv.1 inv.2 c.quick_root.ensures
