-- `outline::rows::member` meets its contract. A pixel is a member where it is below its cell's cut (`member-cut`). Assumes nothing.
use mathlib.Core.Path.{sym, ap, ◌∙◌}
use Prim.Native.Nat.{ℕ, ◌+◌, ◌*◌}
use native.Mathlib.Nat.{mul-le-mul}
use native.Mathlib.Omega.{arith}
use lib.Dec.{ltb}
use lib.ListN.{get_or}
use Rattle.laws.proofs.Planes.{place-lt}
use Rattle.outline.proofs.Cuts.{member-cut}
use Rattle.outline.proofs.rows.member.Goals as goal

pub overflow_mul-result : goal.overflow_mul-result
overflow_mul-result c =
    let a = c.args in omega (arith, mul-le-mul {n₁ = a.y} {m₁ = a.w} {n₂ = 4096} {m₂ = 4096} (omega arith) (omega arith))

pub overflow_add-result : goal.overflow_add-result
overflow_add-result c =
    let a = c.args in omega (arith, mul-le-mul {n₁ = a.y} {m₁ = a.w} {n₂ = 4096} {m₂ = 4096} (omega arith) (omega arith))

pub bounds-s-y : goal.bounds-s-y
bounds-s-y c =
    let a = c.args in
    omega (arith, place-lt a.x a.y a.w a.h (omega arith) (omega arith), c.requires.s_len.0)

pub returns : goal.returns
returns c =
    let a = c.args in
    ap (λ (t : ℕ). ltb (get_or a.s.now (a.y * a.w + a.x) 0) t) c.cut_at.ensures
    ∙ sym (member-cut a.want a.w a.s.now a.levels.now a.labels.now a.x a.y)
