-- The box of a moved group is the moved box.
--     lowest-lower, lowest-glb, highest-upper, highest-lub, group, Pair, low_same, high_same, low-flip, high-flip, group-ink, group-to,
--     move-pair, group-self
-- Assumes nothing.
use mathlib.Core.Path.{◌≡◌, refl, sym, ◌∙◌, ap}
use mathlib.Core.Logic.{◌⊎◌, inl, inr, ⊎_elim}
use mathlib.Core.Bool.{Bool, true, false}
use Prim.Native.Nat.{ℕ, zero, suc, ◌+◌, ◌-◌, ◌<◌, ◌≤◌}
use native.Mathlib.Omega.{arith}
use native.Mathlib.Numerals.{add-one}
use lib.Dec.{eqb}
use borrow.Author.Tests.{eq-eqb, eqb-true}
use Rattle.laws.proofs.Bools.{which, at-or-below, clash}
use Rattle.labels.specs.Labels.{near, label, NearGrid}
use Rattle.labels.proofs.MovedGroups.{Carry, undo, moved-groups}
use Rattle.regions.specs.Boxes.{lowest, highest}
use Rattle.regions.proofs.Boxes.{lowest-yes, lowest-no, highest-yes, highest-no}
use Rattle.labels.proofs.Graph.{label-none, label-ink}

module _ (p : ℕ → Bool) (f : ℕ → ℕ) where
  pub lowest-lower : (d k c : ℕ) → c < k → p c ≡ true → lowest p f d k ≤ f c
  lowest-lower d zero c h t = absurd (omega arith)
  lowest-lower d (suc k) c h t = go (lowest-lower d k c) (at-or-below c k h) (which (p k))
    where
      go : (c < k → p c ≡ true → lowest p f d k ≤ f c) → (c ≡ k) ⊎ (c < k) → (p k ≡ true) ⊎ (p k ≡ false) → lowest p f d (suc k) ≤ f c
      go ih (inl e) (inl y) = rw (← add-one k) (omega (arith, lowest-yes p f d k y, ap f e))
      go ih (inl e) (inr y) = absurd (clash (ap p (sym e) ∙ t) y)
      go ih (inr l) (inl y) = rw (← add-one k) (omega (arith, lowest-yes p f d k y, ih l t))
      go ih (inr l) (inr y) = rw (← add-one k) (omega (arith, lowest-no p f d k y, ih l t))

  pub lowest-glb : (d k m : ℕ) → m ≤ d → ((c : ℕ) → c < k → p c ≡ true → m ≤ f c) → m ≤ lowest p f d k
  unfolding lowest
  lowest-glb d zero m b h = b
  lowest-glb d (suc k) m b h = go (lowest-glb d k m b (λ c l. h c (omega arith))) (which (p k))
    where
      go : m ≤ lowest p f d k → (p k ≡ true) ⊎ (p k ≡ false) → m ≤ lowest p f d (suc k)
      go ih (inl y) = let z = h k (omega arith) y in rw y (omega arith)
      go ih (inr y) = rw y ih

  pub highest-upper : (k c : ℕ) → c < k → p c ≡ true → f c + 1 ≤ highest p f k
  highest-upper zero c h t = absurd (omega arith)
  highest-upper (suc k) c h t = go (highest-upper k c) (at-or-below c k h) (which (p k))
    where
      go : (c < k → p c ≡ true → f c + 1 ≤ highest p f k) → (c ≡ k) ⊎ (c < k) → (p k ≡ true) ⊎ (p k ≡ false) → f c + 1 ≤ highest p f (suc k)
      go ih (inl e) (inl y) = rw (← add-one k) (omega (arith, highest-yes p f k y, ap f e))
      go ih (inl e) (inr y) = absurd (clash (ap p (sym e) ∙ t) y)
      go ih (inr l) (inl y) = rw (← add-one k) (omega (arith, highest-yes p f k y, ih l t))
      go ih (inr l) (inr y) = rw (← add-one k) (omega (arith, highest-no p f k y, ih l t))

  pub highest-lub : (k m : ℕ) → ((c : ℕ) → c < k → p c ≡ true → f c + 1 ≤ m) → highest p f k ≤ m
  unfolding highest
  highest-lub zero m h = omega arith
  highest-lub (suc k) m h = go (highest-lub k m (λ c l. h c (omega arith))) (which (p k))
    where
      go : highest p f k ≤ m → (p k ≡ true) ⊎ (p k ≡ false) → highest p f (suc k) ≤ m
      go ih (inl y) = let z = h k (omega arith) y in rw y (omega arith)
      go ih (inr y) = rw y ih

-- the cells with the label of `a`
unfoldable pub group : (ℕ → Bool) → (ℕ → ℕ → Bool) → ℕ → ℕ → ℕ → Bool
group ink near n a c = eqb (label ink near n c) (label ink near n a)

-- Two sets of cells, each mapped into the other, there and back.
pub record Pair (p : ℕ → Bool) (n : ℕ) (p' : ℕ → Bool) (n' : ℕ) (to back : ℕ → ℕ) : Type 0 where
  pub there : (c : ℕ) → c < n → p c ≡ true → (to c < n') × (p' (to c) ≡ true)
  pub again : (c : ℕ) → c < n' → p' c ≡ true → (back c < n) × (p (back c) ≡ true) × (to (back c) ≡ c)

module _ {p : ℕ → Bool} {n : ℕ} {p' : ℕ → Bool} {n' : ℕ} {to back : ℕ → ℕ} (q : Pair p n p' n' to back) (f f' : ℕ → ℕ) where
  -- a side that stays a side
  pub low_same : (d d' a : ℕ) → a < n → p a ≡ true → f a ≤ d → f a ≤ d' → ((c : ℕ) → c < n → p c ≡ true → f' (to c) ≡ f c)
      → lowest p' f' d' n' ≡ lowest p f d n
  low_same d d' a h t b b' e =
      let x : lowest p f d n ≤ lowest p' f' d' n' =
      lowest-glb p' f' d' n' (lowest p f d n) (omega (arith, lowest-lower p f d n a h t)) (λ c l u.
      let r = q.again c l u in
      omega (arith, lowest-lower p f d n (back c) r.0 r.1, e (back c) r.0 r.1, ap f' r.2)) in
      let y : lowest p' f' d' n' ≤ lowest p f d n =
      lowest-glb p f d n (lowest p' f' d' n')
      (omega (arith, lowest-lower p' f' d' n' (to a) (q.there a h t).0 (q.there a h t).1, e a h t)) (λ c l u.
      let r = q.there c l u in
      omega (arith, lowest-lower p' f' d' n' (to c) r.0 r.1, e c l u)) in
      omega arith

  pub high_same : ((c : ℕ) → c < n → p c ≡ true → f' (to c) ≡ f c) → highest p' f' n' ≡ highest p f n
  high_same e =
      let x : highest p' f' n' ≤ highest p f n = highest-lub p' f' n' (highest p f n) (λ c l u.
      let r = q.again c l u in
      omega (arith, highest-upper p f n (back c) r.0 r.1, e (back c) r.0 r.1, ap f' r.2)) in
      let y : highest p f n ≤ highest p' f' n' = highest-lub p f n (highest p' f' n') (λ c l u.
      let r = q.there c l u in
      omega (arith, highest-upper p' f' n' (to c) r.0 r.1, e c l u)) in
      omega arith

  -- a side that becomes the opposite one
  pub low-flip : (s d' a : ℕ) → a < n → p a ≡ true → f' (to a) ≤ d' → ((c : ℕ) → c < n → p c ≡ true → f' (to c) + f c + 1 ≡ s)
      → lowest p' f' d' n' + highest p f n ≡ s
  low-flip s d' a h t b e =
      let x : s - highest p f n ≤ lowest p' f' d' n' =
      lowest-glb p' f' d' n' (s - highest p f n) (omega (arith, highest-upper p f n a h t, e a h t)) (λ c l u.
      let r = q.again c l u in
      omega (arith, highest-upper p f n (back c) r.0 r.1, e (back c) r.0 r.1, ap f' r.2)) in
      let y : highest p f n ≤ s - lowest p' f' d' n' = highest-lub p f n (s - lowest p' f' d' n') (λ c l u.
      let r = q.there c l u in
      omega (arith, lowest-lower p' f' d' n' (to c) r.0 r.1, e c l u)) in
      omega (arith, lowest-lower p' f' d' n' (to a) (q.there a h t).0 (q.there a h t).1, e a h t)

  pub high-flip : (s d a : ℕ) → a < n → p a ≡ true → f a ≤ d → ((c : ℕ) → c < n → p c ≡ true → f' (to c) + f c + 1 ≡ s)
      → highest p' f' n' + lowest p f d n ≡ s
  high-flip s d a h t b e =
      let x : highest p' f' n' ≤ s - lowest p f d n = highest-lub p' f' n' (s - lowest p f d n) (λ c l u.
      let r = q.again c l u in
      omega (arith, lowest-lower p f d n (back c) r.0 r.1, e (back c) r.0 r.1, ap f' r.2)) in
      let y : s - highest p' f' n' ≤ lowest p f d n =
      lowest-glb p f d n (s - highest p' f' n')
      (omega (arith, highest-upper p' f' n' (to a) (q.there a h t).0 (q.there a h t).1, e a h t)) (λ c l u.
      let r = q.there c l u in
      omega (arith, highest-upper p' f' n' (to c) r.0 r.1, e c l u)) in
      omega (arith, lowest-lower p f d n a h t, e a h t)

-- A group and the moved group are such a pair.
module _ {ink : ℕ → Bool} {near₀ : ℕ → ℕ → Bool} {ink' : ℕ → Bool} {near' : ℕ → ℕ → Bool} {f : ℕ → ℕ} (n n' : ℕ) (g : NearGrid ink near₀ n)
    (g' : NearGrid ink' near' n') (m : Carry ink near₀ ink' near' f) where
  pub group-ink : (a c : ℕ) → ink a ≡ true → group ink near₀ n a c ≡ true → ink c ≡ true
  unfolding group
  group-ink a c i t = ⊎_elim (λ x. x)
      (λ x. absurd (omega (
        arith,
        eqb-true (label ink near₀ n c) (label ink near₀ n a) t,
        label-none ink near₀ n g c x,
        label-ink ink near₀ n g a i,
      ))) (which (ink c))

  pub group-to : (a c : ℕ) → ink a ≡ true → group ink near₀ n a c ≡ true → (f c < n') × (group ink' near' n' (f a) (f c) ≡ true)
  unfolding group
  group-to a c i t =
      let j = group-ink a c i t in (
        g'.within (f c) (m.ink-to c j),
        eq-eqb _ _ ((moved-groups n n' g g' m c a j i).0 (eqb-true (label ink near₀ n c) (label ink near₀ n a) t)),
      )

pub move-pair : {ink : ℕ → Bool} {near₀ : ℕ → ℕ → Bool} {ink' : ℕ → Bool} {near' : ℕ → ℕ → Bool} {f : ℕ → ℕ} (n n' : ℕ)
    (g : NearGrid ink near₀ n) (g' : NearGrid ink' near' n') (m : Carry ink near₀ ink' near' f) (a : ℕ) → ink a ≡ true
    → Pair (group ink near₀ n a) n (group ink' near' n' (f a)) n' f m.back
move-pair {f = f} n n' g g' m a i = record {
  there = λ c l t. group-to n n' g g' m a c i t;
  again = λ c l t.
      let r = group-to n' n g' g (undo m) (f a) c (m.ink-to a i) t in
      let j = group-ink n' n g' g (undo m) (f a) c (m.ink-to a i) t in
      (r.0, rw (m.again a i) at r.1, m.there c j);
}

-- a cell is in its own group
pub group-self : (ink : ℕ → Bool) (near₀ : ℕ → ℕ → Bool) (n a : ℕ) → group ink near₀ n a a ≡ true
unfolding group
group-self ink near₀ n a = eq-eqb (label ink near₀ n a) (label ink near₀ n a) refl
