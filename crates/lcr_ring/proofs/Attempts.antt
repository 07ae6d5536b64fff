-- Laws of the ring door's answer, by the number of its refusal.
--     attempt-given      the trace that is given, and that no check fails then
-- Assumes nothing.
use mathlib.Core.Path.{◌≡◌}
use mathlib.Core.List.{List}
use Prim.Native.Nat.{ℕ, zero, suc}
use lib.Ieee.{Float}
use Rattle.laws.specs.Said.{give}
use Rattle.ring.specs.Door.{answer_by}
use Rattle.ring.specs.Trace.{attempt_of}
use Rattle.ring.specs.declared.quads.Trace.{Trace}

pub attempt-given : (n : ℕ) (gray : List ℕ) (w h : ℕ) (s : List Float) (most : ℕ) (t : Trace)
    → give t ≡ answer_by n gray w h s most → t ≡ attempt_of gray w h s most
unfolding answer_by
attempt-given zero gray w h s most t e = cc
attempt-given (suc n) gray w h s most t e = absurd (let z : ⊥ = cc in z)
