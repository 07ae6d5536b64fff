-- A trace of the ring door has at most 64 scores: answer-few. Assumes nothing.
use mathlib.Core.Path.{◌≡◌, refl, sym, ap, ◌∙◌, subst}
use mathlib.Core.List.{List}
use Prim.Native.Nat.{ℕ, zero, suc, ◌≤◌}
use lib.ListN.{length}
use lib.Ieee.{Float}
use Rattle.std.proofs.Common.{Result, Ok}
use Rattle.laws.specs.Said.{give}
use Rattle.refusal.specs.Numbers.{said}
use Rattle.refusal.specs.declared.Refusal.{Refusal}
use Rattle.ring.specs.Checks.{check_ring}
use Rattle.ring.specs.Door.{answer_by, answer_of}
use Rattle.ring.specs.Trace.{attempt_of}
use Rattle.ring.specs.declared.quads.Trace.{Trace}
use Rattle.ring.proofs.Few.{Few, attempt-few}
use Rattle.ring.proofs.Passing.{passed}

module _ (gray : List ℕ) (w h : ℕ) (s : List Float) (most a b c : ℕ) where
  by-few : (n : ℕ) → check_ring w h (length gray) s a b c most ≡ n → (t : Trace) → give t ≡ answer_by n gray w h s most → Few t
  unfolding answer_by
  by-few zero e t is =
      let k : t ≡ attempt_of gray w h s most = cc in
      subst Few (sym k) (attempt-few gray w h most (passed w h (length gray) s a b c most e).version s)
  by-few (suc n) e t is = cc

  pub answer-few : (r : Result Trace Refusal) → said r ≡ answer_of gray w h s most a b c → (t : Trace) → r ≡ Ok t → t.scores.many ≤ 64
  unfolding answer_of
  answer-few r e t is =
      by-few (check_ring w h (length gray) s a b c most) refl t (ap (λ (r : Result Trace Refusal). said r) (sym is) ∙ e)
