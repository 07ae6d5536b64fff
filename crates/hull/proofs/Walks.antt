-- The folds of the hull, a step at a time, and the stores of the walk. best_with-begin, best_with-turn, best_with-end; lowest_with-begin,
-- lowest_with-turn, lowest_with-end; the invariant Walked with walked-begin, walked-turn, walked_stop, walked_end; hull-none.
--     best_with-begin, best_with-turn, best_with-end, lowest_with-begin, lowest_with-turn, lowest_with-end
--     the stores: Walked, walked-begin, walked-turn, walked_stop, walked_end, hull-none
-- Assumes nothing.
use mathlib.Core.Path.{◌≡◌, refl, sym, ap, ◌∙◌, subst}
use mathlib.Core.Bool.{Bool, true, false, cond}
use mathlib.Core.List.{List, [], ◌∷◌, ◌++◌, append_assoc, append-nil}
use Prim.Native.Nat.{ℕ, zero, suc, ◌+◌, ◌-◌, ◌*◌, ◌%◌, ◌≤◌, ◌<◌}
use native.Mathlib.Omega.{arith}
use lib.ListN.{length, set, length-append}
use lib.Seq.{sets}
use lib.Ieee.{Float}
use Rattle.laws.specs.Lists.{range}
use Rattle.laws.proofs.Steps.{one_less, none_left}
use Rattle.laws.proofs.Stores.{sets-append, laid-is}
use Rattle.whole.specs.Walk.{Tests, best_with, lowest_with, next_with, walk_with, hull_with}
use Rattle.laws.specs.Lent.{laid}
use Rattle.hull.specs.Points.{x_at, y_at, many, points_at}
use Rattle.hull.specs.Hull.{hull_tests, hull_of}
use Rattle.hull.specs.Inner.{start_of}

up : (i : ℕ) → suc i ≡ i + 1
up i = omega arith

all : (n : ℕ) → n - 0 ≡ n
all n = omega arith

pick : (b : Bool) (i n : ℕ) → elim b as (λ _. ℕ) [ true ↦ i | false ↦ n ] ≡ cond b i n
pick true i n = refl
pick false i n = refl

module _ (t : Tests) (n : ℕ) where
  pub best_with-begin : (c : ℕ) → best_with t c ((c + 1) % n) (range 0 (n - 0)) ≡ next_with t n c
  unfolding next_with
  best_with-begin c = ap (λ (k : ℕ). best_with t c ((c + 1) % n) (range 0 k)) (all n)

  pub best_with-turn : (c i next r : ℕ) → i < n → r ≡ cond (t.better c next i) i next
      → best_with t c r (range (i + 1) (n - (i + 1))) ≡ best_with t c next (range i (n - i))
  unfolding best_with
  best_with-turn c i next r h e =
      ap (λ (k : ℕ). best_with t c k (range (i + 1) (n - (i + 1)))) (e ∙ sym (pick (t.better c next i) i next))
      ∙ ap (λ (k : ℕ). best_with t c (elim (t.better c next i) as (λ _. ℕ) [ true ↦ i | false ↦ next ]) (range k (n - (i + 1)))) (sym (up i))
      ∙ ap (λ (k : ℕ). best_with t c next (range i k)) (sym (one_less n i h))

  pub best_with-end : (c i next : ℕ) → n ≤ i → next ≡ best_with t c next (range i (n - i))
  unfolding best_with
  best_with-end c i next h = ap (λ (k : ℕ). best_with t c next (range i k)) (sym (none_left n i h))

  pub lowest_with-begin : lowest_with t 0 (range 0 (n - 0)) ≡ lowest_with t 0 (range 0 n)
  lowest_with-begin = ap (λ (k : ℕ). lowest_with t 0 (range 0 k)) (all n)

  pub lowest_with-turn : (i best r : ℕ) → i < n → r ≡ cond (t.low i best) i best
      → lowest_with t r (range (i + 1) (n - (i + 1))) ≡ lowest_with t best (range i (n - i))
  unfolding lowest_with
  lowest_with-turn i best r h e =
      ap (λ (k : ℕ). lowest_with t k (range (i + 1) (n - (i + 1)))) (e ∙ sym (pick (t.low i best) i best))
      ∙ ap (λ (k : ℕ). lowest_with t (elim (t.low i best) as (λ _. ℕ) [ true ↦ i | false ↦ best ]) (range k (n - (i + 1)))) (sym (up i))
      ∙ ap (λ (k : ℕ). lowest_with t best (range i k)) (sym (one_less n i h))

  pub lowest_with-end : (i best : ℕ) → n ≤ i → best ≡ lowest_with t best (range i (n - i))
  unfolding lowest_with
  lowest_with-end i best h = ap (λ (k : ℕ). lowest_with t best (range i k)) (sym (none_left n i h))

  walk-stop : (s k c d : ℕ) → k < n → d ≡ next_with t n c → t.eq d s ≡ true → walk_with t n s (n - k) c ≡ c ∷ []
  unfolding walk_with
  walk-stop s k c d h e q =
      ap (λ (j : ℕ). walk_with t n s j c) (one_less n k h)
      ∙ ap (λ (b : Bool). c ∷ elim b as (λ _. List ℕ) [ true ↦ [] | false ↦ walk_with t n s (n - (k + 1)) (next_with t n c) ])
      (ap (λ (j : ℕ). t.eq j s) (sym e) ∙ q)

  walk-on : (s k c d : ℕ) → k < n → d ≡ next_with t n c → t.eq d s ≡ false → walk_with t n s (n - k) c ≡ c ∷ walk_with t n s (n - (k + 1)) d
  unfolding walk_with
  walk-on s k c d h e q =
      ap (λ (j : ℕ). walk_with t n s j c) (one_less n k h)
      ∙ ap (λ (b : Bool). c ∷ elim b as (λ _. List ℕ) [ true ↦ [] | false ↦ walk_with t n s (n - (k + 1)) (next_with t n c) ])
      (ap (λ (j : ℕ). t.eq j s) (sym e) ∙ q)
      ∙ ap (λ (j : ℕ). c ∷ walk_with t n s (n - (k + 1)) j) (sym e)

  walk_end : (s k c : ℕ) → n ≤ k → walk_with t n s (n - k) c ≡ []
  unfolding walk_with
  walk_end s k c h = ap (λ (j : ℕ). walk_with t n s j c) (none_left n k h)

-- ---- at most so many vertices
pub walk-few : (t : Tests) (n s d c : ℕ) → length (walk_with t n s d c) ≤ d
unfolding walk_with
walk-few t n s zero c = omega arith
walk-few t n s (suc d) c = go (t.eq (next_with t n c) s) (walk-few t n s d (next_with t n c))
  where
    go : (b : Bool) → length (walk_with t n s d (next_with t n c)) ≤ d
        → length (c ∷ elim b [ true ↦ [] | false ↦ walk_with t n s d (next_with t n c) ]) ≤ suc d
    go true h = omega arith
    go false h = omega arith

-- ---- the stores
pub points-long : (p : List Float) (is : List ℕ) → length (points_at p is) ≡ 2 * length is
unfolding points_at
points-long p [] = refl
points-long p (i ∷ is) = two (length (points_at p is)) (length is) (points-long p is)
  where
    two : (a b : ℕ) → a ≡ 2 * b → suc (suc a) ≡ 2 * suc b
    two a b e = omega arith

points-snoc : (p : List Float) (is : List ℕ) (c : ℕ) → points_at p (is ++ (c ∷ [])) ≡ points_at p is ++ (x_at p c ∷ y_at p c ∷ [])
unfolding points_at
points-snoc p [] c = refl
points-snoc p (i ∷ is) c = ap (λ (l : List Float). x_at p i ∷ y_at p i ∷ l) (points-snoc p is c)

-- what a walk over the points at `is` leaves
laid-points : (p : List Float) (is : List ℕ) (old : List Float) → 2 * length is ≤ length old
    → sets old 0 (points_at p is) ≡ laid (points_at p is) old
laid-points p is old fit = laid-is (points_at p is) old (omega (arith, points-long p is))

-- k vertices are stored, c is the next one, and what is one-less of the walk gives the rest of the hull
pub record Walked (p : List Float) (s k c : ℕ) (old new : List Float) : Type 0 where
  pub seen : List ℕ
  pub long : length seen ≡ k
  pub rest : seen ++ walk_with (hull_tests p) (many p) s (many p - k) c ≡ hull_of p (many p)
  pub list : new ≡ sets old 0 (points_at p seen)

pub walked-begin : (p : List Float) (s : ℕ) (old : List Float) → s ≡ start_of p → Walked p s 0 s old old
unfolding hull_of hull_with start_of points_at
walked-begin p s old e = record {
  seen = [];
  long = refl;
  rest = ap (λ (k : ℕ). walk_with (hull_tests p) (many p) s k s) (all (many p)) ∙ ap (λ (k : ℕ). walk_with (hull_tests p) (many p) k (many p) k) e;
  list = refl;
}

module _ (p : List Float) (s k c : ℕ) (old new : List Float) (v : Walked p s k c old new) (x y : Float) (hx : x ≡ x_at p c)
    (hy : y ≡ y_at p c) where
  stored : set (set new (2 * k) x) (2 * k + 1) y ≡ sets old 0 (points_at p (v.seen ++ (c ∷ [])))
  stored =
      let e0 : 2 * k ≡ 0 + length (points_at p v.seen) = place in
      let e1 : 2 * k + 1 ≡ suc (0 + length (points_at p v.seen)) = omega arith in
      rw (e1, e0, v.list, hx, hy)
      (sets-append old 0 (points_at p v.seen) (x_at p c ∷ y_at p c ∷ [])
      ∙ ap (λ (l : List Float). sets old 0 l) (sym (points-snoc p v.seen c)))
    where
      place : 2 * k ≡ 0 + length (points_at p v.seen)
      place = omega (arith, points-long p v.seen, v.long)

  longer : length (v.seen ++ (c ∷ [])) ≡ k + 1
  longer = length-append v.seen (c ∷ []) ∙ omega-one (length v.seen) v.long
    where
      omega-one : (a : ℕ) → a ≡ k → a + 1 ≡ k + 1
      omega-one a e = omega arith

  pub walked-turn : (d : ℕ) → k < many p → d ≡ next_with (hull_tests p) (many p) c → (hull_tests p).eq d s ≡ false
      → Walked p s (k + 1) d old (set (set new (2 * k) x) (2 * k + 1) y)
  walked-turn d l e q = record {
    seen = v.seen ++ (c ∷ []);
    long = longer;
    rest = append_assoc v.seen (c ∷ []) (walk_with (hull_tests p) (many p) s (many p - (k + 1)) d)
        ∙ ap (λ (t : List ℕ). v.seen ++ t) (sym (walk-on (hull_tests p) (many p) s k c d l e q)) ∙ v.rest;
    list = stored;
  }

  pub walked_stop : (d : ℕ) → k < many p → d ≡ next_with (hull_tests p) (many p) c → (hull_tests p).eq d s ≡ true → 2 * many p ≤ length old
      → (k + 1 ≡ length (hull_of p (many p))) × (set (set new (2 * k) x) (2 * k + 1) y ≡ laid (points_at p (hull_of p (many p))) old)
  walked_stop d l e q fit =
      let h : v.seen ++ (c ∷ []) ≡ hull_of p (many p) =
      ap (λ (t : List ℕ). v.seen ++ t) (sym (walk-stop (hull_tests p) (many p) s k c d l e q)) ∙ v.rest in (
        sym longer ∙ ap length h,
        stored ∙ ap (λ (is : List ℕ). sets old 0 (points_at p is)) h
            ∙ laid-points p (hull_of p (many p)) old (room (length (hull_of p (many p))) (sym longer ∙ ap length h)),
      )
    where
      room : (a : ℕ) → k + 1 ≡ a → 2 * a ≤ length old
      room a e = omega arith

pub walked_end : (p : List Float) (s k c : ℕ) (old new : List Float) → Walked p s k c old new → many p ≤ k → k ≤ many p
    → 2 * many p ≤ length old
    → (k ≡ length (hull_of p (many p))) × (new ≡ laid (points_at p (hull_of p (many p))) old)
walked_end p s k c old new v l u fit =
    let h : v.seen ≡ hull_of p (many p) =
    sym (append-nil v.seen) ∙ ap (λ (t : List ℕ). v.seen ++ t) (sym (walk_end (hull_tests p) (many p) s k c l)) ∙ v.rest in (
      sym v.long ∙ ap length h,
      v.list ∙ ap (λ (is : List ℕ). sets old 0 (points_at p is)) h
          ∙ laid-points p (hull_of p (many p)) old (room (length (hull_of p (many p))) (sym v.long ∙ ap length h)),
    )
  where
    room : (a : ℕ) → k ≡ a → 2 * a ≤ length old
    room a e = omega arith

-- no points: nothing is stored
pub hull-none : (p : List Float) (old : List Float) → many p ≡ 0
    → (0 ≡ length (hull_of p (many p))) × (old ≡ laid (points_at p (hull_of p (many p))) old)
hull-none p old e = subst (λ (n : ℕ). (0 ≡ length (hull_of p n)) × (old ≡ laid (points_at p (hull_of p n)) old)) (sym e)
    (unfold hull_of hull_with walk_with points_at in (refl, refl))
