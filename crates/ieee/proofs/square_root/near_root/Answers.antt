-- `ieee::square_root::near_root` meets its contract: the whole root, or one more. Assumes nothing.
use Rattle.std.proofs.Common.{◌≡◌, ℕ, ◌+◌, ◌*◌, Bool, cond, ltb, sym, ap, ◌∙◌, le-ltb, lt-ltb}
use Rattle.ieee.specs.Root.{isqrt, near_root}
use Rattle.ieee.proofs.Roots.{Root, root-unique, isqrt-is}
use Rattle.ieee.proofs.square_root.near_root.Goals as goal

near-at : (m r : ℕ) → Root m r → near_root m ≡ cond (ltb (r * r + r) m) (r + 1) r
near-at m r p = ap (λ (q : ℕ). cond (ltb (q * q + q) m) (q + 1) q) (root-unique m (isqrt m) r (isqrt-is m) p)

pub returns-then-r-m : goal.returns-then-r-m
returns-then-r-m c =
    let m = c.args.m in
    let r = c.isqrt-r.result in
    let e = c.isqrt-r.ensures in
    sym (near-at m r (e.square_le, e.next_square_gt) ∙ ap (λ (b : Bool). cond b (r + 1) r) (lt-ltb (r * r + r) m c.if-r-m.true))

pub returns-else-r-m : goal.returns-else-r-m
returns-else-r-m c =
    let m = c.args.m in
    let r = c.isqrt-r.result in
    let e = c.isqrt-r.ensures in
    sym (near-at m r (e.square_le, e.next_square_gt) ∙ ap (λ (b : Bool). cond b (r + 1) r) (le-ltb (r * r + r) m c.if-r-m.false))
