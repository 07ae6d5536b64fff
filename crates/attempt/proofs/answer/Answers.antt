-- `attempt::answer` meets its contract: a text lies within its bytes. Assumes nothing.
use mathlib.Core.List.{List}
use mathlib.Core.Path.{◌≡◌, sym, ap}
use Prim.Native.Nat.{ℕ, ◌≤◌}
use native.Mathlib.Omega.{arith}
use lib.ListN.{length, drop, replicate, length-append}
use lib.Seq.{length-take-le}
use Rattle.attempt_text.specs.Traced.{filled, text_of}
use Rattle.attempt.proofs.answer.Goals as goal

-- a text lies within its bytes
fits : (t bytes : List ℕ) (n : ℕ) → bytes ≡ filled t → n ≡ length t → n ≤ length bytes
fits t bytes n e f = omega (arith, f, ap length e, length-append t (drop (length t) (replicate 4096 0)))

pub slice_bounds-bytes-end : goal.slice_bounds-bytes-end
slice_bounds-bytes-end c =
    let t = c.text-p in
    fits (text_of c.args.record.now) _ _ t.ensures.bytes t.ensures.len

pub slice_bounds-write_all-end : goal.slice_bounds-write_all-end
slice_bounds-write_all-end c =
    let t = c.text-p in
    sym (length-take-le t.result.len t.result.bytes (fits (text_of c.args.record.now) _ _ t.ensures.bytes
    t.ensures.len))
