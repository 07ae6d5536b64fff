-- Gift wrapping over indices, with the three tests as parameters: one rule for f32 and for whole numbers.
--     hull_with-is                        whole tests give the hull of the points
--     hull_with-cong                      tests that agree give the same indices
-- Assumes nothing.
use mathlib.Core.Path.{◌≡◌, refl, ◌∙◌, ap}
use mathlib.Core.Bool.{Bool, true, false}
use mathlib.Core.List.{List, [], ◌∷◌, map, Memᴰ}
use Prim.Native.Nat.{ℕ, zero, suc, ◌+◌, ◌%◌, ◌<◌}
use native.Mathlib.Omega.{arith}
use native.Mathlib.Nat as NatL
use lib.ListN.{length}
use Rattle.laws.proofs.Lists.{in-range}
use Rattle.laws.specs.Lists.{range}
use Rattle.whole.specs.Points.{Pt, pt_at}
use Rattle.whole.specs.Hull.{step, select, same_pt, walk, least, start_of, next_of, hull}
use Rattle.whole.specs.Walk.{Tests, best_with, lowest_with, next_with, walk_with, hull_with, whole_tests}

module _ (P : List Pt) where
  best_with-is : (c : ℕ) (is : List ℕ) (n : ℕ) → best_with (whole_tests P) c n is ≡ select (pt_at P) (pt_at P c) n is
  unfolding best_with select step whole_tests
  best_with-is c [] n = refl
  best_with-is c (i ∷ is) n = best_with-is c is _

  lowest_with-is : (is : List ℕ) (n : ℕ) → lowest_with (whole_tests P) n is ≡ least (pt_at P) n is
  unfolding lowest_with least whole_tests
  lowest_with-is [] n = refl
  lowest_with-is (i ∷ is) n = lowest_with-is is _

  next_with-is : (c : ℕ) → next_with (whole_tests P) (length P) c ≡ next_of P c
  unfolding next_with next_of
  next_with-is c = best_with-is c (range 0 (length P)) ((c + 1) % length P)

  walk_with-is : (s k c : ℕ) → map (pt_at P) (walk_with (whole_tests P) (length P) s k c) ≡ walk (pt_at P) (next_of P) (pt_at P s) k c
  unfolding walk_with walk whole_tests
  walk_with-is s zero c = refl
  walk_with-is s (suc k) c =
      go (same_pt (pt_at P (next_with (whole_tests P) (length P) c)) (pt_at P s)) (same_pt (pt_at P (next_of P c)) (pt_at P s))
      (ap (λ t. same_pt (pt_at P t) (pt_at P s)) (next_with-is c))
      (walk_with-is s k (next_with (whole_tests P) (length P) c) ∙ ap (walk (pt_at P) (next_of P) (pt_at P s) k) (next_with-is c))
    where
      go : (a b : Bool) → a ≡ b
          → map (pt_at P) (walk_with (whole_tests P) (length P) s k (next_with (whole_tests P) (length P) c)) ≡ walk (pt_at P) (next_of P) (pt_at P s) k (next_of P c)
          → ◌≡◌ {A = List Pt} (map (pt_at P) (c ∷ elim a [ true ↦ [] | false ↦ walk_with (whole_tests P) (length P) s k (next_with (whole_tests P) (length P) c) ]))
          (pt_at P c ∷ elim b [ true ↦ [] | false ↦ walk (pt_at P) (next_of P) (pt_at P s) k (next_of P c) ])
      go true true e h = refl
      go true false e h = absurd (mathlib.Core.Bool.true≢false e)
      go false true e h = absurd (mathlib.Core.Bool.false≢true e)
      go false false e h = ap (λ l. pt_at P c ∷ l) h

  pub hull_with-is : map (pt_at P) (hull_with (whole_tests P) (length P)) ≡ hull P
  unfolding hull_with hull start_of
  hull_with-is = walk_with-is (lowest_with (whole_tests P) 0 (range 0 (length P))) (length P) (lowest_with (whole_tests P) 0 (range 0 (length P)))
      ∙ ap (λ t. walk (pt_at P) (next_of P) (pt_at P t) (length P) t) (lowest_with-is (range 0 (length P)) 0)

-- ---- tests that agree below n wrap alike
module _ (t u : Tests) (n : ℕ) (some : 0 < n)
    (bets : (c m i : ℕ) → c < n → m < n → i < n → t.better c m i ≡ u.better c m i)
    (lows : (i m : ℕ) → i < n → m < n → t.low i m ≡ u.low i m)
    (eqs : (i j : ℕ) → i < n → j < n → t.eq i j ≡ u.eq i j) where
  abbrev All : List ℕ → Type 0
  All is = (i : ℕ) → Memᴰ i is → i < n

  if< : (b : Bool) (i m : ℕ) → i < n → m < n → elim b as (λ _. ℕ) [ true ↦ i | false ↦ m ] < n
  if< true i m hi hm = hi
  if< false i m hi hm = hm

  best_with-cong : (c m : ℕ) (is : List ℕ) → c < n → m < n → All is → (best_with t c m is ≡ best_with u c m is) × (best_with t c m is < n)
  unfolding best_with
  best_with-cong c m [] hc hm h = (refl, hm)
  best_with-cong c m (i ∷ is) hc hm h =
      let hi = h i (Memᴰ.head refl) in
      let r = best_with-cong c (elim (t.better c m i) as (λ _. ℕ) [ true ↦ i | false ↦ m ]) is hc (if< (t.better c m i) i m hi hm)
      (λ j k. h j (Memᴰ.tail k)) in
      (r.0 ∙ ap (λ (b : Bool). best_with u c (elim b as (λ _. ℕ) [ true ↦ i | false ↦ m ]) is) (bets c m i hc hm hi), r.1)

  lowest_with-cong : (m : ℕ) (is : List ℕ) → m < n → All is → (lowest_with t m is ≡ lowest_with u m is) × (lowest_with t m is < n)
  unfolding lowest_with
  lowest_with-cong m [] hm h = (refl, hm)
  lowest_with-cong m (i ∷ is) hm h =
      let hi = h i (Memᴰ.head refl) in
      let r = lowest_with-cong (elim (t.low i m) as (λ _. ℕ) [ true ↦ i | false ↦ m ]) is (if< (t.low i m) i m hi hm)
      (λ j k. h j (Memᴰ.tail k)) in
      (r.0 ∙ ap (λ (b : Bool). lowest_with u (elim b as (λ _. ℕ) [ true ↦ i | false ↦ m ]) is) (lows i m hi hm), r.1)

  all-n : All (range 0 n)
  all-n i h = omega (arith, (in-range 0 n i h).1)

  next_with-cong : (c : ℕ) → c < n → (next_with t n c ≡ next_with u n c) × (next_with t n c < n)
  unfolding next_with
  next_with-cong c hc = best_with-cong c ((c + 1) % n) (range 0 n) hc (NatL.mod-lt (c + 1) some) all-n

  walk_with-cong : (s k c : ℕ) → s < n → c < n → walk_with t n s k c ≡ walk_with u n s k c
  unfolding walk_with
  walk_with-cong s zero c hs hc = refl
  walk_with-cong s (suc k) c hs hc =
      let r = next_with-cong c hc in
      ap (λ (b : Bool). c ∷ elim b as (λ _. List ℕ) [ true ↦ [] | false ↦ walk_with t n s k (next_with t n c) ]) (eqs (next_with t n c) s r.1 hs)
      ∙ ap (λ l. c ∷ elim (u.eq (next_with t n c) s) as (λ _. List ℕ) [ true ↦ [] | false ↦ l ]) (walk_with-cong s k (next_with t n c) hs r.1)
      ∙ ap (λ d. c ∷ elim (u.eq d s) as (λ _. List ℕ) [ true ↦ [] | false ↦ walk_with u n s k d ]) r.0

  pub hull_with-cong : hull_with t n ≡ hull_with u n
  unfolding hull_with
  hull_with-cong = let r = lowest_with-cong 0 (range 0 n) some all-n in walk_with-cong _ n _ r.1 r.1 ∙ ap (λ s. walk_with u n s n s) r.0
