-- Groups that are numbered anew: there are as many, as many are kept, and the i-th kept is the i-th's new number, where no two wanted
-- sizes are equal.
-- Assumes nothing.
use mathlib.Core.Path.{◌≡◌, refl, sym, ◌∙◌, ap}
use mathlib.Core.Logic.{◌⊎◌, inl, inr, ⊎_elim}
use mathlib.Core.Bool.{Bool, true, false, ◌&&◌, not}
use Prim.Native.Nat.{ℕ, zero, suc, ◌<◌, ◌≤◌, min}
use native.Mathlib.Omega.{arith}
use native.Mathlib.Decide.{dec_lt}
use lib.Dec.{eqb, ltb, leb}
use borrow.Author.Tests.{eq-eqb, ne_eqb, eqb-true, lt-ltb, ltb-true}
use Rattle.laws.specs.Count.{count, least}
use Rattle.laws.proofs.Bools.{both, and_left, and_right, either, or_left, or_right, which, clash}
use Rattle.laws.proofs.Counts.{count-into, count_add, count-ext, count-every, least-le, least-before, least-end}
use Rattle.regions.specs.Kept.{place, nth, ahead_by, ahead, want, kept_of, kept_at}
use Rattle.regions.proofs.Select.{Order, nth-is, place-one, place-under}

-- ---- the order
pub ahead-cases : (x a y b : ℕ) → ahead_by x a y b ≡ true → (y < x) ⊎ ((x ≡ y) × (a < b))
unfolding ahead_by
ahead-cases x a y b t =
    ⊎_elim (λ p. inl (ltb-true y x p))
    (λ p. inr (eqb-true x y (and_left (eqb x y) (ltb a b) p), ltb-true a b (and_right (eqb x y) (ltb a b) p)))
    (either (ltb y x) (eqb x y && ltb a b) t)

pub ahead_more : (x a y b : ℕ) → y < x → ahead_by x a y b ≡ true
unfolding ahead_by
ahead_more x a y b h = or_left (ltb y x) (eqb x y && ltb a b) (lt-ltb y x h)

pub ahead-same : (x a y b : ℕ) → x ≡ y → a < b → ahead_by x a y b ≡ true
unfolding ahead_by
ahead-same x a y b e h = or_right (ltb y x) (eqb x y && ltb a b) (both (eqb x y) (ltb a b) (eq-eqb x y e) (lt-ltb a b h))

pub order : (s : ℕ → ℕ) → Order (ahead s)
unfolding ahead
order s = record {
  irr = λ a. ⊎_elim (λ t. absurd (⊎_elim (λ p. omega arith) (λ p. omega (arith, p.1)) (ahead-cases (s a) a (s a) a t))) (λ t. t)
      (which (ahead_by (s a) a (s a) a));
  trans = λ a b c p q. step (s a) a (s b) b (s c) c (ahead-cases _ _ _ _ p) (ahead-cases _ _ _ _ q);
  total = λ a b p q. same (s a) a (s b) b p q;
}
  where
    step : (x a y b z c : ℕ) → (y < x) ⊎ ((x ≡ y) × (a < b)) → (z < y) ⊎ ((y ≡ z) × (b < c)) → ahead_by x a z c ≡ true
    step x a y b z c (inl p) (inl q) = ahead_more x a z c (omega arith)
    step x a y b z c (inl p) (inr q) = ahead_more x a z c (omega (arith, q.0))
    step x a y b z c (inr p) (inl q) = ahead_more x a z c (omega (arith, p.0))
    step x a y b z c (inr p) (inr q) = ahead-same x a z c (p.0 ∙ q.0) (omega (arith, p.1, q.1))

    same : (x a y b : ℕ) → ahead_by x a y b ≡ false → ahead_by y b x a ≡ false → a ≡ b
    same x a y b p q = go (dec_lt x y) (dec_lt y x) (dec_lt a b) (dec_lt b a)
      where
        go : Dec (x < y) → Dec (y < x) → Dec (a < b) → Dec (b < a) → a ≡ b
        go (yes h) d e f = absurd (clash (ahead_more y b x a h) q)
        go (no h) (yes k) e f = absurd (clash (ahead_more x a y b k) p)
        go (no h) (no k) (yes e) f = absurd (clash (ahead-same x a y b (omega arith) e) p)
        go (no h) (no k) (no e) (yes f) = absurd (clash (ahead-same y b x a (omega arith) f) q)
        go (no h) (no k) (no e) (no f) = omega arith

-- ---- every place below how many are wanted is taken
all-count : (k : ℕ) → count (λ j. true) k ≡ k
unfolding count
all-count zero = refl
all-count (suc k) = ap suc (all-count k)

but-one : (i k : ℕ) → i < k → k ≡ suc (count (λ j. not (eqb j i)) k)
but-one i k l = sym (all-count k)
    ∙ count_add (λ j. not (eqb j i)) (λ j. true) i k l (ap not (eq-eqb i i refl)) refl (λ c d n. ap not (ne_eqb c i n))

module _ (s : ℕ → ℕ) (m : ℕ) where
  -- what the definition gives where it gives one
  pub record At (i a : ℕ) : Type 0 where
    pub below : a < m
    pub wanted : want s a ≡ true
    pub placed : place (want s) (ahead s) m a ≡ i

  test : ℕ → ℕ → Bool
  test i a = want s a && eqb (place (want s) (ahead s) m a) i

  pub kept-at : (i : ℕ) → i < count (want s) m → At i (kept_at s m i)
  unfolding kept_at nth test
  kept-at i l = go (which (test i (least (test i) m)))
    where
      go : (test i (least (test i) m) ≡ true) ⊎ (test i (least (test i) m) ≡ false) → At i (least (test i) m)
      go (inl t) = yes' (dec_lt (least (test i) m) m)
        where
          yes' : Dec (least (test i) m < m) → At i (least (test i) m)
          yes' (yes b) = record {
            below = b;
            wanted = and_left (want s (least (test i) m)) _ t;
            placed = eqb-true _ _
                (and_right (want s (least (test i) m)) (eqb (place (want s) (ahead s) m (least (test i) m)) i) t);
          }
          yes' (no b) = absurd (none (λ a h w. least-before (test i) m a (omega (arith, h))))
            where
              none : ((a : ℕ) → a < m → want s a ≡ true → test i a ≡ false) → ⊥
              none f = omega (
                arith,
                but-one i (count (want s) m) l,
                count-into (want s) m (λ j. not (eqb j i)) (count (want s) m) (place (want s) (ahead s) m)
                    (λ a h w. (
                      place-under (want s) (ahead s) m (order s) a h w,
                      ap not (ne_eqb (place (want s) (ahead s) m a) i
                          (λ e. clash (both (want s a) (eqb (place (want s) (ahead s) m a) i) w (eq-eqb (place (want s) (ahead s) m a) i e))
                          (f a h w))),
                    ))
                    (λ a b h k w u e. place-one (want s) (ahead s) m (order s) a b h k w u e),
              )
      go (inr t) = absurd (none (λ a h w. least-before (test i) m a (omega (arith, h, least-end (test i) m t))))
        where
          none : ((a : ℕ) → a < m → want s a ≡ true → test i a ≡ false) → ⊥
          none f = omega (
            arith,
            but-one i (count (want s) m) l,
            count-into (want s) m (λ j. not (eqb j i)) (count (want s) m) (place (want s) (ahead s) m)
                (λ a h w. (
                  place-under (want s) (ahead s) m (order s) a h w,
                  ap not (ne_eqb (place (want s) (ahead s) m a) i
                      (λ e. clash (both (want s a) (eqb (place (want s) (ahead s) m a) i) w (eq-eqb (place (want s) (ahead s) m a) i e))
                      (f a h w))),
                ))
                (λ a b h k w u e. place-one (want s) (ahead s) m (order s) a b h k w u e),
          )

-- ---- numbers anew
-- r takes the numbers below m to those below m' and keeps the sizes; r' is the way back.
pub record Anew (s : ℕ → ℕ) (m : ℕ) (s' : ℕ → ℕ) (m' : ℕ) (r r' : ℕ → ℕ) : Type 0 where
  pub to : (i : ℕ) → i < m → r i < m'
  pub from : (j : ℕ) → j < m' → r' j < m
  pub again : (i : ℕ) → i < m → r' (r i) ≡ i
  pub there : (j : ℕ) → j < m' → r (r' j) ≡ j
  pub size : (i : ℕ) → i < m → s' (r i) ≡ s i

pub anew-back : {s : ℕ → ℕ} {m : ℕ} {s' : ℕ → ℕ} {m' : ℕ} {r r' : ℕ → ℕ} → Anew s m s' m' r r' → Anew s' m' s m r' r
anew-back {s} {m} {s'} {m'} {r} {r'} q = record {
  to = q.from;
  from = q.to;
  again = q.there;
  there = q.again;
  size = λ j l. sym (q.size (r' j) (q.from j l)) ∙ ap s' (q.there j l);
}

-- No two wanted numbers have one size.
unfoldable pub Untied : (ℕ → ℕ) → ℕ → Type 0
Untied s m = (a b : ℕ) → a < m → b < m → want s a ≡ true → want s b ≡ true → s a ≡ s b → a ≡ b

module _ {s : ℕ → ℕ} {m : ℕ} {s' : ℕ → ℕ} {m' : ℕ} {r r' : ℕ → ℕ} (q : Anew s m s' m' r r') where
  one : (a b : ℕ) → a < m → b < m → r a ≡ r b → a ≡ b
  one a b h k e = sym (q.again a h) ∙ (ap r' e ∙ q.again b k)

  pub want-to : (a : ℕ) → a < m → want s' (r a) ≡ want s a
  unfolding want
  want-to a h = ap (leb 16) (q.size a h)

  pub wanted-le : count (want s) m ≤ count (want s') m'
  wanted-le = count-into (want s) m (want s') m' r (λ a h w. (q.to a h, want-to a h ∙ w)) (λ a b h k w u e. one a b h k e)

  many-le : m ≤ m'
  many-le = let z = count-into (λ _. true) m (λ _. true) m' r (λ a h w. (q.to a h, refl)) (λ a b h k w u e. one a b h k e) in
      omega (arith, count-every m, count-every m', z)

  pub untied-to : Untied s m → Untied s' m'
  unfolding Untied want
  untied-to u a b h k w v e =
      let ia = q.from a h in
      let ib = q.from b k in
      let sa : s (r' a) ≡ s' a = sym (q.size (r' a) ia) ∙ ap s' (q.there a h) in
      let sb : s (r' b) ≡ s' b = sym (q.size (r' b) ib) ∙ ap s' (q.there b k) in
      sym (q.there a h) ∙ (ap r (u (r' a) (r' b) ia ib (ap (leb 16) sa ∙ w) (ap (leb 16) sb ∙ v) (sa ∙ (e ∙ sym sb))) ∙ q.there b k)

  place-le : Untied s m → (a : ℕ) → a < m → want s a ≡ true → place (want s) (ahead s) m a ≤ place (want s') (ahead s') m' (r a)
  unfolding place ahead Untied
  place-le u a h w =
      count-into (λ b. want s b && ahead_by (s b) b (s a) a) m (λ b. want s' b && ahead_by (s' b) b (s' (r a)) (r a)) m' r
      (λ b k t.
      let wb = and_left (want s b) (ahead_by (s b) b (s a) a) t in (
        q.to b k,
        both (want s' (r b)) (ahead_by (s' (r b)) (r b) (s' (r a)) (r a)) (want-to b k ∙ wb)
            (⊎_elim (λ x. ahead_more (s' (r b)) (r b) (s' (r a)) (r a) (omega (arith, q.size a h, q.size b k, x)))
            (λ x. absurd (omega (arith, u b a k h wb w x.0, x.1)))
            (ahead-cases (s b) b (s a) a (and_right (want s b) (ahead_by (s b) b (s a) a) t))),
      ))
      (λ b c k l t v e. one b c k l e)

module _ {s : ℕ → ℕ} {m : ℕ} {s' : ℕ → ℕ} {m' : ℕ} {r r' : ℕ → ℕ} (q : Anew s m s' m' r r') where
  pub many-same : m' ≡ m
  many-same = let x = many-le q in let y = many-le (anew-back q) in omega arith

  pub wanted-same : count (want s') m' ≡ count (want s) m
  wanted-same = let x = wanted-le q in let y = wanted-le (anew-back q) in omega arith

  pub kept_same : kept_of s' m' ≡ kept_of s m
  unfolding kept_of
  kept_same = ap (min 4) wanted-same

  pub kept-anew : Untied s m → (i : ℕ) → i < count (want s) m → kept_at s' m' i ≡ r (kept_at s m i)
  unfolding kept_at
  kept-anew u i l =
      let a = kept_at s m i in
      let k = kept-at s m i l in
      let w : want s' (r a) ≡ true = want-to q a k.below ∙ k.wanted in
      let x = place-le q u a k.below k.wanted in
      let y = place-le (anew-back q) (untied-to q u) (r a) (q.to a k.below) w in
      let z : place (want s) (ahead s) m (r' (r a)) ≡ place (want s) (ahead s) m a =
      ap (place (want s) (ahead s) m) (q.again a k.below) in
      nth-is (want s') (ahead s') m' (order s') (r a) i (q.to a k.below) w (omega (arith, k.placed, x, y, z))

-- ---- sizes that agree below m, as a list of counters has them
least-ext : (t u : ℕ → Bool) (n : ℕ) → ((i : ℕ) → i < n → t i ≡ u i) → least t n ≡ least u n
unfolding least
least-ext t u zero same = refl
least-ext t u (suc n) same =
    let ih = least-ext t u n (λ i l. same i (omega arith)) in
    let e : t (least t n) ≡ u (least u n) = same (least t n) (omega (arith, least-le t n)) ∙ ap u ih in
    rw (e, ih)

module _ (s s' : ℕ → ℕ) (m : ℕ) (same : (a : ℕ) → a < m → s a ≡ s' a) where
  pub kept-of-ext : kept_of s m ≡ kept_of s' m
  unfolding kept_of want
  kept-of-ext = ap (min 4) (count-ext (λ a. leb 16 (s' a)) (λ a. leb 16 (s a)) m (λ a l. ap (leb 16) (sym (same a l))))

  pub kept-at-ext : (i : ℕ) → kept_at s m i ≡ kept_at s' m i
  unfolding kept_at nth place want ahead
  kept-at-ext i =
      least-ext (λ a. leb 16 (s a) && eqb (count (λ b. leb 16 (s b) && ahead_by (s b) b (s a) a) m) i)
      (λ a. leb 16 (s' a) && eqb (count (λ b. leb 16 (s' b) && ahead_by (s' b) b (s' a) a) m) i) m
      (λ a l.
      rw (
        same a l,
        count-ext (λ b. leb 16 (s' b) && ahead_by (s' b) b (s' a) a) (λ b. leb 16 (s b) && ahead_by (s b) b (s' a) a) m
            (λ b k. rw (same b k)),
      ))
