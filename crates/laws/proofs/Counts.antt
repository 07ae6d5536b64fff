-- Laws of the least number that meets a test and of counts.
--     least-..                       where the least is, and that none is before it
--     count_yes, count_no, count-step, count-every   one number more; every number
--     count-ext, count-mono, count-le, count-lt, count_add, count_none, count-zero   counts of two tests, and of none
--     count-into                     a map that takes no two to one shows that these are no more
-- Assumes nothing.
use mathlib.Core.Path.{◌≡◌, refl, sym, ◌∙◌, ap, subst}
use mathlib.Core.Logic.{◌⊎◌, inl, inr, ⊎_elim}
use mathlib.Core.Bool.{Bool, true, false, ◌&&◌, not}
use Prim.Native.Nat.{ℕ, zero, suc, ◌+◌, ◌<◌, ◌≤◌}
use native.Mathlib.Omega.{arith}
use native.Mathlib.Decide.{dec_lt}
use lib.Dec.{eqb}
use borrow.Author.Tests.{eq-eqb, ne_eqb}
use Rattle.laws.specs.Count.{count, least}
use Rattle.laws.proofs.Bools.{which, clash, at-or-below, and_right}

-- ---- the first number that meets a test
module _ (p : ℕ → Bool) where
  least-yes : (k : ℕ) → p (least p k) ≡ true → least p (suc k) ≡ least p k
  unfolding least
  least-yes k e = rw e

  least-no : (k : ℕ) → p (least p k) ≡ false → least p (suc k) ≡ suc k
  unfolding least
  least-no k e = rw e

  pub least-le : (k : ℕ) → least p k ≤ k
  unfolding least
  least-le zero = omega arith
  least-le (suc k) = ⊎_elim (λ e. omega (arith, least-le k, least-yes k e)) (λ e. omega (arith, least-no k e)) (which (p (least p k)))

  pub least-holds : (k : ℕ) → p k ≡ true → p (least p k) ≡ true
  unfolding least
  least-holds zero h = h
  least-holds (suc k) h = ⊎_elim (λ e. ap p (least-yes k e) ∙ e) (λ e. ap p (least-no k e) ∙ h) (which (p (least p k)))

  -- where the one that is found does not meet the test, none below the end does
  pub least-end : (k : ℕ) → p (least p k) ≡ false → least p k ≡ k
  unfolding least
  least-end zero h = refl
  least-end (suc k) h = ⊎_elim (λ e. absurd (clash e (sym (ap p (least-yes k e)) ∙ h))) (λ e. least-no k e) (which (p (least p k)))

  pub least-before : (k i : ℕ) → i < least p k → p i ≡ false
  unfolding least
  least-before zero i h = absurd (omega arith)
  least-before (suc k) i h = ⊎_elim (λ e. least-before k i (rw (least-yes k e) at h)) (later (least-before k i)) (which (p (least p k)))
    where
      later : (i < least p k → p i ≡ false) → p (least p k) ≡ false → p i ≡ false
      later ih e =
          let h' : i < suc k = rw (least-no k e) at h in
          ⊎_elim
          (λ q. ap p q ∙ (sym (ap p (least-end k e)) ∙ e))
          (λ q. ih (omega (arith, least-end k e)))
          (at-or-below i k h')

  -- ---- counts

  pub count_yes : (k : ℕ) → p k ≡ true → count p (suc k) ≡ suc (count p k)
  unfolding count
  count_yes k e = rw e

  pub count_no : (k : ℕ) → p k ≡ false → count p (suc k) ≡ count p k
  unfolding count
  count_no k e = rw e

  count-suc : (k : ℕ) → count p k ≤ count p (suc k)
  count-suc k = ⊎_elim (λ e. omega (arith, count_yes k e)) (λ e. omega (arith, count_no k e)) (which (p k))

  pub count_most : (k : ℕ) → count p k ≤ k
  unfolding count
  count_most zero = omega arith
  count_most (suc k) =
      ⊎_elim (λ e. omega (arith, count_most k, count_yes k e)) (λ e. omega (arith, count_most k, count_no k e)) (which (p k))

  pub count-mono : (i k : ℕ) → i ≤ k → count p i ≤ count p k
  count-mono i zero h = subst (λ (x : ℕ). count p x ≤ count p zero) {x = zero} (omega arith) (omega arith)
  count-mono i (suc k) h = go (count-mono i k) (dec_lt k i)
    where
      go : (i ≤ k → count p i ≤ count p k) → Dec (k < i) → count p i ≤ count p (suc k)
      go ih (yes e) = let q : i ≡ suc k = omega arith in rw q (omega arith)
      go ih (no e) = omega (arith, ih (omega arith), count-suc k)

  pub count-step : (i k : ℕ) → i < k → p i ≡ true → count p i < count p k
  count-step i k h e = omega (arith, count_yes i e, count-mono (suc i) k h)

-- Laws of counts.

module _ (p q : ℕ → Bool) where
  -- one more element on both sides
  both-next : (k : ℕ) → p k ≡ q k → (x y : ℕ) → count q k + x ≡ count p k + y → count q (suc k) + x ≡ count p (suc k) + y
  both-next k e x y h =
      ⊎_elim
      (λ t. omega (arith, count_yes p k t, count_yes q k (sym e ∙ t)))
      (λ t. omega (arith, count_no p k t, count_no q k (sym e ∙ t)))
      (which (p k))

  pub count-ext : (k : ℕ) → ((c : ℕ) → c < k → p c ≡ q c) → count q k ≡ count p k
  unfolding count
  count-ext zero h = refl
  count-ext (suc k) h =
      let e : count q (suc k) + 0 ≡ count p (suc k) + 0 =
      both-next k (h k (omega arith)) 0 0 (omega (arith, count-ext k (λ c b. h c (omega arith)))) in
      omega arith

  -- `q` holds of one number more than `p`
  pub count_add : (a k : ℕ) → a < k → p a ≡ false → q a ≡ true → ((c : ℕ) → c < k → (c ≡ a → ⊥) → p c ≡ q c) → count q k ≡ suc (count p k)
  count_add a zero b f t h = absurd (omega arith)
  count_add a (suc k) b f t h = ⊎_elim (λ e. last e) (λ l. earlier l (count_add a k l f t (λ c d. h c (omega arith)))) (at-or-below a k b)
    where
      last : a ≡ k → count q (suc k) ≡ suc (count p (suc k))
      last e =
          let e₀ = count-ext k (λ c d. h c (omega arith) (λ z. omega arith)) in
          omega (arith, count_yes q k (ap q (sym e) ∙ t), count_no p k (ap p (sym e) ∙ f))

      earlier : a < k → count q k ≡ suc (count p k) → count q (suc k) ≡ suc (count p (suc k))
      earlier l ih =
          let e : count q (suc k) + 0 ≡ count p (suc k) + 1 = both-next k (h k (omega arith) (λ z. omega arith)) 0 1 (omega arith) in
          omega arith

  pub count-le : (k : ℕ) → ((c : ℕ) → c < k → p c ≡ true → q c ≡ true) → count p k ≤ count q k
  unfolding count
  count-le zero h = omega arith
  count-le (suc k) h =
      let ih = count-le k (λ c b. h c (omega arith)) in
      ⊎_elim
      (λ t. omega (arith, count_yes p k t, count_yes q k (h k (omega arith) t)))
      (λ t. ⊎_elim (λ u. omega (arith, count_no p k t, count_yes q k u)) (λ u. omega (arith, count_no p k t, count_no q k u)) (which (q k)))
      (which (p k))

  pub count-lt : (a k : ℕ) → a < k → p a ≡ false → q a ≡ true → ((c : ℕ) → c < k → p c ≡ true → q c ≡ true) → count p k < count q k
  count-lt a zero b f t h = absurd (omega arith)
  count-lt a (suc k) b f t h = ⊎_elim last (λ l. earlier (count-lt a k l f t (λ c d. h c (omega arith)))) (at-or-below a k b)
    where
      last : a ≡ k → count p (suc k) < count q (suc k)
      last e = omega (arith, count-le k (λ c d. h c (omega arith)), count_yes q k (ap q (sym e) ∙ t), count_no p k (ap p (sym e) ∙ f))

      earlier : count p k < count q k → count p (suc k) < count q (suc k)
      earlier ih =
          ⊎_elim
          (λ t. omega (arith, count_yes p k t, count_yes q k (h k (omega arith) t)))
          (λ t. ⊎_elim (λ u. omega (arith, count_no p k t, count_yes q k u)) (λ u. omega (arith, count_no p k t, count_no q k u))
          (which (q k)))
          (which (p k))

pub count_none : (p : ℕ → Bool) (k : ℕ) → ((c : ℕ) → c < k → p c ≡ false) → count p k ≡ 0
unfolding count
count_none p zero h = refl
count_none p (suc k) h = count_no p k (h k (omega arith)) ∙ count_none p k (λ c b. h c (omega arith))

pub count-zero : (p : ℕ → Bool) (k : ℕ) → count p k ≡ 0 → (c : ℕ) → c < k → p c ≡ false
count-zero p k e c l = ⊎_elim (λ t. absurd (omega (arith, count-step p c k l t, e))) (λ t. t) (which (p c))

-- `q` without `b`
but : (ℕ → Bool) → ℕ → ℕ → Bool
but q b c = q c && not (eqb c b)

but_out : (q : ℕ → Bool) (b : ℕ) → but q b b ≡ false
unfolding but
but_out q b = ⊎_elim (λ t. absurd (clash (and_right (q b) (not (eqb b b)) t) (ap not (eq-eqb b b refl)))) (λ t. t)
    (which (q b && not (eqb b b)))

but_in : (q : ℕ → Bool) (b c : ℕ) → (c ≡ b → ⊥) → but q b c ≡ q c
unfolding but
but_in q b c n = rw (ne_eqb c b n) (go (q c))
  where
    go : (x : Bool) → (x && true) ≡ x
    go true = refl
    go false = refl

-- A map into the numbers below `m` that meet `q`, which takes no two of those below `n` that meet `p` to one, shows that these are no more.
pub count-into : (p : ℕ → Bool) (n : ℕ) (q : ℕ → Bool) (m : ℕ) (f : ℕ → ℕ)
    → ((a : ℕ) → a < n → p a ≡ true → (f a < m) × (q (f a) ≡ true))
    → ((a b : ℕ) → a < n → b < n → p a ≡ true → p b ≡ true → f a ≡ f b → a ≡ b)
    → count p n ≤ count q m
unfolding count
count-into p zero q m f to one = omega arith
count-into p (suc k) q m f to one = go (count-into p k) (which (p k))
  where
    go : ((q' : ℕ → Bool) (m' : ℕ) (f' : ℕ → ℕ) → ((a : ℕ) → a < k → p a ≡ true → (f' a < m') × (q' (f' a) ≡ true))
        → ((a b : ℕ) → a < k → b < k → p a ≡ true → p b ≡ true → f' a ≡ f' b → a ≡ b) → count p k ≤ count q' m')
        → (p k ≡ true) ⊎ (p k ≡ false) → count p (suc k) ≤ count q m
    go ih (inr e) = omega (arith, count_no p k e, ih q m f (λ a b t. to a (omega arith) t) (λ a b x y. one a b (omega arith) (omega arith)))
    go ih (inl e) =
        let z = to k (omega arith) e in
        let i = ih (but q (f k)) m f
        (λ a b t. (
          (to a (omega arith) t).0,
          but_in q (f k) (f a) (λ y. omega (arith, one a k (omega arith) (omega arith) t e y))
              ∙ (to a (omega arith) t).1,
        )) (λ a b x y. one a b (omega arith) (omega arith)) in
        omega (arith, count_yes p k e, count_add (but q (f k)) q (f k) m z.0 (but_out q (f k)) z.1 (λ c d n. but_in q (f k) c n))

-- where some are counted, there is one
pub count-some : (p : ℕ → Bool) (k : ℕ) → 0 < count p k → (c : ℕ) × (c < k) × (p c ≡ true)
unfolding count
count-some p zero l = absurd (omega arith)
count-some p (suc k) l = go (which (p k)) (count-some p k)
  where
    go : (p k ≡ true) ⊎ (p k ≡ false) → (0 < count p k → (c : ℕ) × (c < k) × (p c ≡ true)) → (c : ℕ) × (c < suc k) × (p c ≡ true)
    go (inl e) ih = (k, omega arith, e)
    go (inr e) ih = let r = ih (omega (arith, count_no p k e, l)) in (r.0, omega (arith, r.1), r.2)

-- every number is counted
pub count-every : (n : ℕ) → count (λ _. true) n ≡ n
unfolding count
count-every zero = refl
count-every (suc n) = omega (arith, count_yes (λ _. true) n refl, count-every n)
