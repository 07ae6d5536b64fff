-- A count that is above all others, and the places of the poses among the eight.
--     best-only                                     it is the first greatest
--     place_of_pose, place-few, place-count, place-corner, place-reversed, place-back   a pose's place, and the pose of a place
-- Assumes nothing.
use mathlib.Core.Path.{◌≡◌, refl, ap, ◌∙◌}
use mathlib.Core.Bool.{Bool, true, false, cond}
use mathlib.Core.List.{List}
use Prim.Native.Nat.{ℕ, zero, suc, ◌+◌, ◌%◌, ◌<◌, ◌≤◌}
use native.Mathlib.Decide.{ℕ_discrete}
use native.Mathlib.Nat.{mod-eq_of_lt}
use native.Mathlib.Omega.{arith}
use lib.Dec.{leb, ltb}
use lib.ListN.{get_or}
use borrow.Author.Tests.{le-leb, le-ltb, leb-false, leb-true, lt-leb, lt-ltb}
use Rattle.marks.specs.Correlate.{best_pose, best_to}
use Rattle.marks.specs.Pose.{agreement, counts_of}
use Rattle.marks.proofs.Bests.{best-below}

module _ (counts : List ℕ) (k n : ℕ) (top : get_or counts k 0 ≡ n)
    (less : (i : ℕ) → i ≤ 7 → (i ≡ k → ⊥) → get_or counts i 0 < n) where
  -- from the greatest on, it is the best so far
  reached : (i : ℕ) → i ≤ 7 → k ≤ i → best_to counts i ≡ k
  unfolding best_to
  reached zero h l = omega arith
  reached (suc i) h l = go (ℕ_discrete (suc i) k) (reached i (omega arith))
    where
      step : (b : Bool) → ltb (get_or counts (best_to counts i) 0) (get_or counts (suc i) 0) ≡ b
          → cond (ltb (get_or counts (best_to counts i) 0) (get_or counts (suc i) 0)) (suc i) (best_to counts i)
          ≡ cond b (suc i) (best_to counts i)
      step b e = ap (λ (t : Bool). cond t (suc i) (best_to counts i)) e

      here : suc i ≡ k → get_or counts (best_to counts i) 0 < get_or counts (suc i) 0
      here e =
          let a : get_or counts (suc i) 0 ≡ n = ap (λ (j : ℕ). get_or counts j 0) e ∙ top in
          let b = less (best_to counts i) (omega (arith, best-below counts i)) (λ z. omega (arith, best-below counts i)) in
          omega arith

      past : (suc i ≡ k → ⊥) → best_to counts i ≡ k → get_or counts (suc i) 0 ≤ get_or counts (best_to counts i) 0
      past other e =
          let a : get_or counts (best_to counts i) 0 ≡ n = ap (λ (j : ℕ). get_or counts j 0) e ∙ top in
          let b = less (suc i) h other in
          omega arith

      go : Dec (suc i ≡ k) → (k ≤ i → best_to counts i ≡ k)
          → cond (ltb (get_or counts (best_to counts i) 0) (get_or counts (suc i) 0)) (suc i) (best_to counts i) ≡ k
      go (yes e) was = step true (lt-ltb (get_or counts (best_to counts i) 0) (get_or counts (suc i) 0) (here e)) ∙ e
      go (no e) was =
          let same = was (omega arith) in
          step false (le-ltb (get_or counts (best_to counts i) 0) (get_or counts (suc i) 0) (past e same)) ∙ same

  pub best-only : k ≤ 7 → best_pose counts ≡ k
  best-only h = reached 7 (omega arith) h

-- ---- places of the counts

-- the place of a pose among the eight
pub place_of_pose : ℕ → Bool → ℕ
place_of_pose r reversed = cond reversed (4 + r) r

pub place-few : (r : ℕ) (reversed : Bool) → r < 4 → place_of_pose r reversed ≤ 7
unfolding place_of_pose
place-few r true h = omega arith
place-few r false h = omega arith

pub place-count : (v : ℕ) (s : List Bool) (k : ℕ) → k ≤ 7 → get_or (counts_of v s) k 0 ≡ agreement v s (k % 4) (leb 4 k)
place-count v s zero h = refl
place-count v s (suc zero) h = refl
place-count v s (suc (suc zero)) h = refl
place-count v s (suc (suc (suc zero))) h = refl
place-count v s (suc (suc (suc (suc zero)))) h = refl
place-count v s (suc (suc (suc (suc (suc zero))))) h = refl
place-count v s (suc (suc (suc (suc (suc (suc zero)))))) h = refl
place-count v s (suc (suc (suc (suc (suc (suc (suc zero))))))) h = refl
place-count v s (suc (suc (suc (suc (suc (suc (suc (suc k)))))))) h = absurd (none k h)
  where
    none : (k : ℕ) → suc (suc (suc (suc (suc (suc (suc (suc k))))))) ≤ 7 → ⊥
    none k h = omega arith

pub place-corner : (r : ℕ) (reversed : Bool) → r < 4 → place_of_pose r reversed % 4 ≡ r
unfolding place_of_pose
place-corner r true h = omega arith
place-corner r false h = mod-eq_of_lt h

pub place-reversed : (r : ℕ) (reversed : Bool) → r < 4 → leb 4 (place_of_pose r reversed) ≡ reversed
unfolding place_of_pose
place-reversed r true h = le-leb 4 (4 + r) (omega arith)
place-reversed r false h = lt-leb 4 r h

-- a place that has the pose is its place
pub place-back : (k r : ℕ) (reversed : Bool) → k ≤ 7 → k % 4 ≡ r → leb 4 k ≡ reversed → k ≡ place_of_pose r reversed
unfolding place_of_pose
place-back k r true few corner is = omega (arith, corner, leb-true 4 k is)
place-back k r false few corner is = omega (arith, corner, leb-false 4 k is)
