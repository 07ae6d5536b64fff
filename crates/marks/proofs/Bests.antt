-- Laws of the first greatest count.
--     best_none, best-turn             one count further, as the loop goes
--     best-below                       it is among those compared
--     not-above                        what is at most a float is not above it
--     best-by-scores                   the Rust's search by scores ends there too
-- Assumes nothing.
use mathlib.Core.Path.{◌≡◌, refl, sym, ap, ◌∙◌, subst}
use mathlib.Core.Bool.{Bool, true, false, ◌&&◌, ◌||◌, cond}
use mathlib.Core.List.{List}
use Prim.Native.Nat.{ℕ, zero, suc, ◌+◌, ◌*◌, ◌-◌, ◌<◌, ◌≤◌}
use native.Mathlib.Omega.{arith}
use native.Mathlib.Numerals.{add-one}
use native.Mathlib.Nat.{mul-le-mul_right}
use lib.Dec.{T, ltb, eqb}
use borrow.Author.Tests.{ltb-true, ltb-false, le-ltb, eqb-true}
use lib.Ieee.{Float, nan, inf, fin, binary32, round, lt, le, eq, up, down, of_bits}
use lib.Ieee.Order.{round_mono}
use lib.Ieee.Scale.{round_same}
use lib.ListN.{get_or}
use Rattle.lcr_core.specs.Version.{IsVersion, positions_of}
use Rattle.laws.proofs.Counts.{count_most}
use Rattle.marks.specs.Pose.{agree_at, agreement, counts_of}
use Rattle.marks.specs.Correlate.{score, best_to, best_pose, Scored, scored, by_scores}
use Rattle.marks.proofs.Rises.{score-is, score-rises}

best-step : (counts : List ℕ) (k b r : ℕ) → b ≡ best_to counts k → r ≡ cond (ltb (get_or counts b 0) (get_or counts (k + 1) 0)) (k + 1) b
    → r ≡ best_to counts (k + 1)
unfolding best_to
best-step counts k b r e er =
    rw add-one
    (er ∙ ap (λ (x : ℕ). cond (ltb (get_or counts x 0) (get_or counts (k + 1) 0)) (k + 1) x) e
    ∙ ap (λ (x : ℕ). cond (ltb (get_or counts (best_to counts k) 0) (get_or counts x 0)) x (best_to counts k)) (add-one k))

pub best_none : (counts : List ℕ) → 0 ≡ best_to counts 0
unfolding best_to
best_none counts = refl

pub best-turn : (counts : List ℕ) (k b r : ℕ) → 1 ≤ k → b ≡ best_to counts (k - 1) → r ≡ cond (ltb (get_or counts b 0) (get_or counts k 0)) k b
    → r ≡ best_to counts (k + 1 - 1)
best-turn counts k b r h e er =
    let z : k - 1 + 1 ≡ k = omega arith in
    let w : k - 1 + 1 ≡ k + 1 - 1 = omega arith in
    best-step counts (k - 1) b r e (subst (λ (x : ℕ). r ≡ cond (ltb (get_or counts b 0) (get_or counts x 0)) x b) (sym z) er)
    ∙ ap (λ (x : ℕ). best_to counts x) w

pub best-below : (counts : List ℕ) (k : ℕ) → best_to counts k ≤ k
unfolding best_to
best-below counts zero = omega arith
best-below counts (suc k) = go (ltb (get_or counts (best_to counts k) 0) (get_or counts (suc k) 0)) (best-below counts k)
  where
    go : (t : Bool) → best_to counts k ≤ k → cond t (suc k) (best_to counts k) ≤ suc k
    go true h = omega arith
    go false h = omega arith

-- ---- by scores

-- a number that is at most another is not above it
at_most : (a b : ℕ) (c : Bool) → T (ltb a b || (eqb a b && c)) → a ≤ b
at_most a b c h = go (ltb a b) refl (eqb a b) refl h
  where
    go : (s : Bool) → ltb a b ≡ s → (t : Bool) → eqb a b ≡ t → T (s || (t && c)) → a ≤ b
    go true e t f h = let l = ltb-true a b e in omega arith
    go false e true f h = let l = eqb-true a b f in omega arith
    go false e false f h = absurd h

both-none : (a b : ℕ) → T (eqb a b && (false || eqb a 0)) → b + a ≡ 0
both-none a b h = go (eqb a b) refl (eqb a 0) refl h
  where
    go : (s : Bool) → eqb a b ≡ s → (t : Bool) → eqb a 0 ≡ t → T (s && (false || t)) → b + a ≡ 0
    go true e true f h = let l = eqb-true a b e in let m = eqb-true a 0 f in omega arith
    go true e false f h = absurd h
    go false e t f h = absurd h

eqb_swap : (a b : ℕ) (c : Bool) → T (ltb b a || (eqb a b && c)) → b ≤ a
eqb_swap a b c h = go (ltb b a) refl (eqb a b) refl h
  where
    go : (s : Bool) → ltb b a ≡ s → (t : Bool) → eqb a b ≡ t → T (s || (t && c)) → b ≤ a
    go true e t f h = let l = ltb-true b a e in omega arith
    go false e true f h = let l = eqb-true a b f in omega arith
    go false e false f h = absurd h

not-above : (x y : Float) → T (le x y) → lt y x ≡ false
unfolding le lt eq
not-above nan y h = absurd h
not-above (inf s) nan h = refl
not-above (inf true) (inf true) h = refl
not-above (inf true) (inf false) h = refl
not-above (inf false) (inf true) h = absurd h
not-above (inf false) (inf false) h = refl
not-above (inf true) (fin t n d) h = refl
not-above (inf false) (fin t n d) h = absurd h
not-above (fin s m e) nan h = absurd h
not-above (fin s m e) (inf true) h = absurd h
not-above (fin s m e) (inf false) h = refl
not-above (fin false m e) (fin false n d) h =
    le-ltb (n * up d * down e) (m * up e * down d) (at_most (m * up e * down d) (n * up d * down e) true h)
not-above (fin false m e) (fin true n d) h =
    le-ltb 0 (n * up d * down e + m * up e * down d) (let z = both-none (m * up e * down d) (n * up d * down e) h in omega arith)
not-above (fin true m e) (fin false n d) h = refl
not-above (fin true m e) (fin true n d) h =
    le-ltb (m * up e * down d) (n * up d * down e) (eqb_swap (m * up e * down d) (n * up d * down e) true h)

module _ (v : ℕ) (is : IsVersion v) where
  -- scores compare as counts do
  score-compare : (a b : ℕ) → a ≤ positions_of v → b ≤ positions_of v → lt (score v a) (score v b) ≡ ltb a b
  score-compare a b la lb = go (ltb a b) refl
    where
      go : (t : Bool) → ltb a b ≡ t → lt (score v a) (score v b) ≡ t
      go true e = score-rises v is a b (ltb-true a b e) lb
      go false e =
          rw (score-is v a is.greatest (omega arith), score-is v b is.greatest (omega arith))
          (not-above (round binary32 false b (positions_of v)) (round binary32 false a (positions_of v))
          (round_mono binary32 b (positions_of v) a (positions_of v) (omega arith) (omega arith)
          (mul-le-mul_right (positions_of v) (ltb-false a b e))))

  -- 0 of any positions is +0
  score-none : score v 0 ≡ of_bits binary32 0
  unfolding round of_bits
  score-none =
      score-is v 0 is.greatest (omega arith)
      ∙ round_same binary32 false 0 (positions_of v) 0 1 (omega arith) (omega arith) (omega arith)

  module _ (counts : List ℕ) (most : (k : ℕ) → k < 8 → get_or counts k 0 ≤ positions_of v) where
    -- the first count takes over from nothing, or is nothing itself
    one-score : by_scores v counts 1 ≡ scored (score v (get_or counts 0 0)) 0
    unfolding by_scores
    one-score = go (get_or counts 0 0) (most 0 (omega arith))
      where
        go : (c : ℕ) → c ≤ positions_of v
            → cond (lt (of_bits binary32 0) (score v c)) (scored (score v c) 0) (scored (of_bits binary32 0) 0) ≡ scored (score v c) 0
        go zero h = pick (lt (of_bits binary32 0) (score v 0))
          where
            pick : (t : Bool) → cond t (scored (score v 0) 0) (scored (of_bits binary32 0) 0) ≡ scored (score v 0) 0
            pick true = refl
            pick false = ap (λ (x : Float). scored x 0) (sym score-none)
        go (suc c) h =
            ap (λ (t : Bool). cond t (scored (score v (suc c)) 0) (scored (of_bits binary32 0) 0))
            (ap (λ (x : Float). lt x (score v (suc c))) (sym score-none) ∙ score-rises v is 0 (suc c) (omega arith) h)

    pub by-scores : (k : ℕ) → k < 8 → by_scores v counts (suc k) ≡ scored (score v (get_or counts (best_to counts k) 0)) (best_to counts k)
    by-scores zero h = unfold best_to in one-score
    by-scores (suc k) h = step (by-scores k (omega arith))
      where
        step : by_scores v counts (suc k) ≡ scored (score v (get_or counts (best_to counts k) 0)) (best_to counts k)
            → by_scores v counts (suc (suc k)) ≡ scored (score v (get_or counts (best_to counts (suc k)) 0)) (best_to counts (suc k))
        step e =
            unfold by_scores best_to in
            ap (λ (z : Scored). cond (lt z.value (score v (get_or counts (suc k) 0)))
            (scored (score v (get_or counts (suc k) 0)) (suc k)) z) e
            ∙ ap (λ (t : Bool). cond t (scored (score v (get_or counts (suc k) 0)) (suc k))
            (scored (score v (get_or counts (best_to counts k) 0)) (best_to counts k)))
            (score-compare (get_or counts (best_to counts k) 0) (get_or counts (suc k) 0)
            (most (best_to counts k) (let b = best-below counts k in omega arith)) (most (suc k) h))
            ∙ pick (ltb (get_or counts (best_to counts k) 0) (get_or counts (suc k) 0))
          where
            pick : (t : Bool)
                → cond t (scored (score v (get_or counts (suc k) 0)) (suc k))
                (scored (score v (get_or counts (best_to counts k) 0)) (best_to counts k))
                ≡ scored (score v (get_or counts (cond t (suc k) (best_to counts k)) 0)) (cond t (suc k) (best_to counts k))
            pick true = refl
            pick false = refl

-- no count passes the positions
agreement-most : (v : ℕ) (s : List Bool) (r : ℕ) (reversed : Bool) → agreement v s r reversed ≤ positions_of v
unfolding agreement
agreement-most v s r reversed = count_most (agree_at v s r reversed) (positions_of v)

counts-most : (v : ℕ) (s : List Bool) (k : ℕ) → k < 8 → get_or (counts_of v s) k 0 ≤ positions_of v
counts-most v s zero h = agreement-most v s 0 false
counts-most v s (suc zero) h = agreement-most v s 1 false
counts-most v s (suc (suc zero)) h = agreement-most v s 2 false
counts-most v s (suc (suc (suc zero))) h = agreement-most v s 3 false
counts-most v s (suc (suc (suc (suc zero)))) h = agreement-most v s 0 true
counts-most v s (suc (suc (suc (suc (suc zero))))) h = agreement-most v s 1 true
counts-most v s (suc (suc (suc (suc (suc (suc zero)))))) h = agreement-most v s 2 true
counts-most v s (suc (suc (suc (suc (suc (suc (suc zero))))))) h = agreement-most v s 3 true
counts-most v s (suc (suc (suc (suc (suc (suc (suc (suc k)))))))) h = omega arith

pub best-by-scores : (v : ℕ) → IsVersion v → (s : List Bool)
    → by_scores v (counts_of v s) 8 ≡ scored (score v (get_or (counts_of v s) (best_pose (counts_of v s)) 0)) (best_pose (counts_of v s))
best-by-scores v is s = by-scores v is (counts_of v s) (counts-most v s) 7 (omega arith)
