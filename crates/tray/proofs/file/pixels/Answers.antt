-- `tray::file::pixels` meets its contract. Assumes nothing.
use Rattle.refusal.proofs.Numbers.{number-none}
use Rattle.tray.proofs.Files.{area-to, asked-none, asked-some}
use Prim.Native.Nat.{ℕ, ◌*◌, ◌≤◌}
use native.Mathlib.Nat.{mul-le-mul}
use native.Mathlib.Omega.{arith}
use mathlib.Core.Path.{refl}
use Rattle.tray.proofs.file.pixels.Goals as goal

-- sides up to 4,096 have at most so many pixels
square : (most : ℕ) → most ≤ 4096 → most * most ≤ 16777216
square most a = mul-le-mul {n₁ = most} {m₁ = most} {n₂ = 4096} {m₂ = 4096} a a

pub overflow_mul-result : goal.overflow_mul-result
overflow_mul-result c =
    let a = c.args in
    let s = c.in-Ok.ensures.passed refl in
    omega (arith, area-to a.most a.h.width a.h.height s.wide s.high, square a.most c.requires)

pub returns-in-Ok : goal.returns-in-Ok
returns-in-Ok c =
    let a = c.args in
    let s = c.in-Ok.ensures.passed refl in
    record {
      answer = asked-some a.most a.h 0 c.in-Ok.ensures.answer refl;
      most = area-to a.most a.h.width a.h.height s.wide s.high;
    }

pub returns-in-Err : goal.returns-in-Err
returns-in-Err c =
    record {
      answer = asked-none c.args.most c.args.h _ c.in-Err.ensures.answer (number-none _);
      most = omega arith;
    }
