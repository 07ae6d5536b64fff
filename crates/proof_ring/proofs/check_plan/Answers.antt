-- Each return by the checks before it, in the order of the definition. Assumes nothing.
use mathlib.Core.Path.{ap}
use Prim.Native.Nat.{ℕ, ◌+◌, ◌*◌, ◌<◌, ◌≤◌}
use native.Mathlib.Nat.{mul-le-mul}
use native.Mathlib.Omega.{arith}
use borrow.Author.Tests.{le-leb, lt-leb}
use Rattle.proof_ring.specs.Doors.{least_side}
use Rattle.proof_ring.proofs.check_plan.Goals as goal

pub returns-then-pitch-lt1 : goal.returns-then-pitch-lt1
returns-then-pitch-lt1 c =
    let a = c.args in
    record {
      answer = simp (lt-leb 1 a.pitch c.if-pitch-lt1.true);
      passed = λ e. absurd (omega arith);
    }

pub returns-then-pitch-gt16 : goal.returns-then-pitch-gt16
returns-then-pitch-gt16 c =
    let a = c.args in
    record {
      answer = simp (le-leb 1 a.pitch (omega arith), lt-leb a.pitch 16 c.if-pitch-gt16.true);
      passed = λ e. absurd (omega arith);
    }

pub returns-then-corner-gt3 : goal.returns-then-corner-gt3
returns-then-corner-gt3 c =
    let a = c.args in
    record {
      answer = simp (le-leb 1 a.pitch (omega arith), le-leb a.pitch 16 (omega arith), lt-leb a.corner 3 c.if-corner-gt3.true);
      passed = λ e. absurd (omega arith);
    }

pub overflow_mul-least : goal.overflow_mul-least
overflow_mul-least c =
    let s = c.side.ensures.answer in
    omega (
      arith,
      c.side.ensures.version.greatest,
      mul-le-mul {n₁ = c.side.result + 10} {m₁ = c.args.pitch} {n₂ = 283} {m₂ = 16} (omega arith) (omega arith),
    )

pub returns-then-w-least : goal.returns-then-w-least
returns-then-w-least c =
    let a = c.args in
    let e = ap (λ (s : ℕ). (s + 10) * a.pitch) c.side.ensures.answer in
    let l : a.w < least_side a.version a.pitch = omega (arith, e, c.if-w-least.true) in
    record {
      answer = simp (
        le-leb 1 a.pitch (omega arith),
        le-leb a.pitch 16 (omega arith),
        le-leb a.corner 3 (omega arith),
        lt-leb (least_side a.version a.pitch) a.w l,
      );
      passed = λ e. absurd (omega arith);
    }

pub returns-then-h-least : goal.returns-then-h-least
returns-then-h-least c =
    let a = c.args in
    let e = ap (λ (s : ℕ). (s + 10) * a.pitch) c.side.ensures.answer in
    let k : least_side a.version a.pitch ≤ a.w = omega (arith, e, c.if-w-least.false) in
    let l : a.h < least_side a.version a.pitch = omega (arith, e, c.if-h-least.true) in
    record {
      answer = simp (
        le-leb 1 a.pitch (omega arith),
        le-leb a.pitch 16 (omega arith),
        le-leb a.corner 3 (omega arith),
        le-leb (least_side a.version a.pitch) a.w k,
        lt-leb (least_side a.version a.pitch) a.h l,
      );
      passed = λ e. absurd (omega arith);
    }

pub returns : goal.returns
returns c =
    let a = c.args in
    let e = ap (λ (s : ℕ). (s + 10) * a.pitch) c.side.ensures.answer in
    let k : least_side a.version a.pitch ≤ a.w = omega (arith, e, c.if-w-least.false) in
    let l : least_side a.version a.pitch ≤ a.h = omega (arith, e, c.if-h-least.false) in
    record {
      answer = simp (
        le-leb 1 a.pitch (omega arith),
        le-leb a.pitch 16 (omega arith),
        le-leb a.corner 3 (omega arith),
        le-leb (least_side a.version a.pitch) a.w k,
        le-leb (least_side a.version a.pitch) a.h l,
      );
      passed = λ e. record { pitch-low = omega arith; pitch-high = omega arith; corner = omega arith; wide = k; high = l };
    }
