-- The sequence's own agreement at each pose.
--     own-agrees, others-less, one-pose   the sequence agrees everywhere with itself at its own pose only
-- Assumes nothing.
use mathlib.Core.Path.{◌∙◌, ◌≡◌, ap, refl, sym}
use mathlib.Core.Bool.{Bool, beq, false, true}
use Prim.Native.Nat.{◌<◌, ℕ}
use native.Mathlib.Omega.{arith}
use Rattle.laws.proofs.Counts.{count-every, count-ext, count-lt}
use Rattle.laws.specs.Count.{count}
use Rattle.lcr_core.specs.Mark.{mark}
use Rattle.lcr_core.specs.Version.{IsVersion, positions_of}
use Rattle.marks.proofs.MarkLists.{marks-at}
use Rattle.marks.proofs.PoseMoves.{pose-own}
use Rattle.marks.proofs.Poses.{pose-within}
use Rattle.marks.specs.Pose.{agree_at, agreement, pose_at}
use Rattle.proof_ring.specs.Claims.{OnePose, SamePose, sequence}
use Rattle.proof_ring.proofs.Table.{Apart, pose-apart}

beq_same : (b : Bool) → beq b b ≡ true
beq_same true = refl
beq_same false = refl

-- what the sequence has at the map's value
sequence-at : (v r : ℕ) (reversed : Bool) (p : ℕ)
    → agree_at v (sequence v) r reversed p ≡ beq (mark v p) (mark v (pose_at v r reversed p))
unfolding agree_at
sequence-at v r reversed p =
    ap (beq (mark v p)) (marks-at (positions_of v) (mark v) (pose_at v r reversed p) false (pose-within v r reversed p))

pub own-agrees : (v : ℕ) → agreement v (sequence v) 0 false ≡ positions_of v
unfolding agreement
own-agrees v =
    count-ext (λ _. true) (agree_at v (sequence v) 0 false) (positions_of v) (λ p k. sym (each p k)) ∙ count-every (positions_of v)
  where
    each : (p : ℕ) → p < positions_of v → agree_at v (sequence v) 0 false p ≡ true
    each p k =
        sequence-at v 0 false p ∙ ap (λ (i : ℕ). beq (mark v p) (mark v i)) (pose-own v p k) ∙ beq_same (mark v p)

pub others-less : (v : ℕ) → IsVersion v → (r : ℕ) (reversed : Bool) → r < 4 → (SamePose r 0 reversed false → ⊥)
    → agreement v (sequence v) r reversed < positions_of v
unfolding agreement
others-less v is r reversed few other = go (pose-apart v is r reversed few other)
  where
    go : Apart v r reversed → count (agree_at v (sequence v) r reversed) (positions_of v) < positions_of v
    go a =
        let l = count-lt (agree_at v (sequence v) r reversed) (λ _. true) a.position (positions_of v) a.within
        (sequence-at v r reversed a.position ∙ a.differ) refl (λ _ _ _. refl) in
        omega (arith, count-every (positions_of v))

pub one-pose : OnePose
one-pose = record { own = λ v is. own-agrees v; other = others-less }
