-- Laws of links, first cells and labels.
--     linked cells: linked-left, linked-right, linked-trans
--     `reach` decides `Linked`: reach-linked, linked-sym, linked-reach
--     the leader: leader-le, leader-linked, leader-before, leader-same, leader-self, first-leader, first_of, first-ink, first-leads
--     the label: label-none, label-ink, label_same, label-less, label-linked, label-first, label-most
-- Assumes nothing.
use mathlib.Core.Path.{◌≡◌, sym, ◌∙◌, ap, subst}
use mathlib.Core.Logic.{◌⊎◌, inl, inr, ⊎_elim}
use mathlib.Core.Bool.{Bool, true, false, ◌&&◌}
use Prim.Native.Nat.{ℕ, zero, suc, ◌<◌, ◌≤◌}
use native.Mathlib.Omega.{arith}
use native.Mathlib.Decide.{dec_lt}
use lib.Dec.{eqb}
use borrow.Author.Tests.{eq-eqb, eqb-true}
use Rattle.labels.specs.Labels.{Linked, here, step, reach, leader, first?, label, NearGrid}
use Rattle.laws.proofs.Bools.{both, and_left, and_right, either, or_left, or_right, clash, at-or-below}
use Rattle.laws.proofs.Counts.{least-le, least-holds, least-before, count-step}
use Rattle.laws.specs.Count.{least, count}

module _ (ink : ℕ → Bool) (near : ℕ → ℕ → Bool) where
  -- ---- linked cells

  pub linked-left : {a b : ℕ} → Linked ink near a b → ink a ≡ true
  linked-left (here i) = i
  linked-left (step r h i) = linked-left r

  pub linked-right : {a b : ℕ} → Linked ink near a b → ink b ≡ true
  linked-right (here i) = i
  linked-right (step r h i) = i

  pub linked-trans : {a b c : ℕ} → Linked ink near a b → Linked ink near b c → Linked ink near a c
  linked-trans r (here i) = r
  linked-trans r (step s h i) = step (linked-trans r s) h i

  -- ---- `reach` decides `Linked`

  reach-start : (a b : ℕ) → reach ink near zero a b ≡ true → (ink a ≡ true) × (ink b ≡ true) × (near a b ≡ true)
  unfolding reach
  reach-start a b p =
      let q : (ink b && near a b) ≡ true = and_right (ink a) (ink b && near a b) p in
      (and_left (ink a) (ink b && near a b) p, and_left (ink b) (near a b) q, and_right (ink b) (near a b) q)

  reach_near : (a b : ℕ) → ink a ≡ true → ink b ≡ true → near a b ≡ true → reach ink near zero a b ≡ true
  unfolding reach
  reach_near a b p q r = both (ink a) (ink b && near a b) p (both (ink b) (near a b) q r)

  reach-cases : (k a b : ℕ) → reach ink near (suc k) a b ≡ true
      → (reach ink near k a b ≡ true) ⊎ ((reach ink near k a k ≡ true) × (reach ink near k k b ≡ true))
  unfolding reach
  reach-cases k a b p =
      ⊎_elim
      inl
      (λ q. inr (and_left (reach ink near k a k) (reach ink near k k b) q, and_right (reach ink near k a k) (reach ink near k k b) q))
      (either (reach ink near k a b) (reach ink near k a k && reach ink near k k b) p)

  by_last : (k a b : ℕ) → reach ink near k a k ≡ true → reach ink near k k b ≡ true → reach ink near (suc k) a b ≡ true
  unfolding reach
  by_last k a b p q = or_right (reach ink near k a b) (reach ink near k a k && reach ink near k k b)
      (both (reach ink near k a k) (reach ink near k k b) p q)

  more : (k a b : ℕ) → reach ink near k a b ≡ true → reach ink near (suc k) a b ≡ true
  unfolding reach
  more k a b p = or_left (reach ink near k a b) (reach ink near k a k && reach ink near k k b) p

  pub reach-linked : (k a b : ℕ) → reach ink near k a b ≡ true → Linked ink near a b
  reach-linked zero a b p =
      let (i, j, h) = reach-start a b p in
      step (here i) h j
  reach-linked (suc k) a b p =
      ⊎_elim (reach-linked k a b) (λ q. linked-trans (reach-linked k a k q.0) (reach-linked k k b q.1)) (reach-cases k a b p)

  abbrev Through : ℕ → Type 0
  Through k = (m : ℕ) → m < k → (a b : ℕ) → reach ink near k a m ≡ true → reach ink near k m b ≡ true → reach ink near k a b ≡ true

  -- a way to `k`, and one from `k`, whose cells in between are at most `k` have them below `k`
  reach-to : (k a : ℕ) → reach ink near (suc k) a k ≡ true → reach ink near k a k ≡ true
  reach-to k a p = ⊎_elim (λ q. q) (λ q. q.0) (reach-cases k a k p)

  reach-from : (k b : ℕ) → reach ink near (suc k) k b ≡ true → reach ink near k k b ≡ true
  reach-from k b p = ⊎_elim (λ q. q) (λ q. q.1) (reach-cases k k b p)

  through-below : (k : ℕ) → Through k → (m : ℕ) → m < k → (a b : ℕ) → reach ink near (suc k) a m ≡ true → reach ink near (suc k) m b ≡ true
      → reach ink near (suc k) a b ≡ true
  through-below k t m h a b p q =
      ⊎_elim
      (λ p₁. ⊎_elim (λ q₁. more k a b (t m h a b p₁ q₁)) (λ q₂. by_last k a b (t m h a k p₁ q₂.0) q₂.1) (reach-cases k m b q))
      (λ p₂. ⊎_elim (λ q₁. by_last k a b p₂.0 (t m h k b p₂.1 q₁)) (λ q₂. by_last k a b p₂.0 q₂.1) (reach-cases k m b q))
      (reach-cases k a m p)

  through : (k : ℕ) → Through k
  through zero m h a b p q = absurd (omega arith)
  through (suc k) m h a b p q = ⊎_elim at (λ l. through-below k (through k) m l a b p q) (at-or-below m k h)
    where
      at : m ≡ k → reach ink near (suc k) a b ≡ true
      at e = by_last k a b (reach-to k a (rw e at p)) (reach-from k b (rw e at q))

  all_more : (k a b : ℕ) → reach ink near zero a b ≡ true → reach ink near k a b ≡ true
  all_more zero a b p = p
  all_more (suc k) a b p = more k a b (all_more k a b p)

  module _ (n : ℕ) (g : NearGrid ink near n) where
    pub linked-sym : {a b : ℕ} → Linked ink near a b → Linked ink near b a
    linked-sym (here i) = here i
    linked-sym (step {b = b} {c = c} r h i) = linked-trans (step (here i) (g.back b c h) (linked-right r)) (linked-sym r)

    pub linked-reach : {a b : ℕ} → Linked ink near a b → reach ink near n a b ≡ true
    linked-reach (here {a = a} i) = all_more n a a (reach_near a a i i (g.self a))
    linked-reach (step {a = a} {b = b} {c = c} r h i) =
        through n b (g.within b (linked-right r)) a c (linked-reach r) (all_more n b c (reach_near b c (linked-right r) i h))

    -- ---- the leader

    pub leader-le : (c : ℕ) → leader ink near n c ≤ c
    unfolding leader
    leader-le c = least-le (λ d. reach ink near n d c) c

    pub leader-linked : (c : ℕ) → ink c ≡ true → Linked ink near (leader ink near n c) c
    unfolding leader
    leader-linked c i = reach-linked n _ c (least-holds (λ d. reach ink near n d c) c (linked-reach (here i)))

    pub leader-before : (d c : ℕ) → Linked ink near d c → leader ink near n c ≤ d
    unfolding leader
    leader-before d c r = go (dec_lt d (least (λ e. reach ink near n e c) c))
      where
        go : Dec (d < least (λ e. reach ink near n e c) c) → least (λ e. reach ink near n e c) c ≤ d
        go (yes h) = absurd (clash (linked-reach r) (least-before (λ e. reach ink near n e c) c d h))
        go (no h) = omega arith

    pub leader-same : {a b : ℕ} → Linked ink near a b → leader ink near n a ≡ leader ink near n b
    leader-same {a} {b} r =
        let p : leader ink near n a ≤ leader ink near n b =
        leader-before _ a (linked-trans (leader-linked b (linked-right r)) (linked-sym r)) in
        let q : leader ink near n b ≤ leader ink near n a = leader-before _ b (linked-trans (leader-linked a (linked-left r)) r) in
        omega arith

    -- an ink cell to which no cell before it is linked
    pub leader-self : (c : ℕ) → ink c ≡ true → ((d : ℕ) → d < c → Linked ink near d c → ⊥) → leader ink near n c ≡ c
    leader-self c i none = go (dec_lt (leader ink near n c) c)
      where
        go : Dec (leader ink near n c < c) → leader ink near n c ≡ c
        go (yes b) = absurd (none (leader ink near n c) b (leader-linked c i))
        go (no b) = omega (arith, leader-le c)

    pub first-leader : (c : ℕ) → ink c ≡ true → first? ink near n (leader ink near n c) ≡ true
    unfolding first?
    first-leader c i = both (ink (leader ink near n c)) _ (linked-left (leader-linked c i)) (eq-eqb _ _ (leader-same (leader-linked c i)))

    pub first_of : (c : ℕ) → ink c ≡ true → leader ink near n c ≡ c → first? ink near n c ≡ true
    unfolding first?
    first_of c i e = both (ink c) _ i (eq-eqb _ _ e)

    pub first-ink : (c : ℕ) → first? ink near n c ≡ true → ink c ≡ true
    unfolding first?
    first-ink c p = and_left (ink c) (eqb (leader ink near n c) c) p

    pub first-leads : (c : ℕ) → first? ink near n c ≡ true → leader ink near n c ≡ c
    unfolding first?
    first-leads c p = eqb-true _ _ (and_right (ink c) (eqb (leader ink near n c) c) p)

    -- ---- the label

    pub label-none : (c : ℕ) → ink c ≡ false → label ink near n c ≡ 0
    unfolding label
    label-none c i = rw i

    pub label-ink : (c : ℕ) → ink c ≡ true → label ink near n c ≡ suc (count (first? ink near n) (leader ink near n c))
    unfolding label
    label-ink c i = rw i

    pub label_same : {a b : ℕ} → Linked ink near a b → label ink near n a ≡ label ink near n b
    label_same {a} {b} r =
        label-ink a (linked-left r)
        ∙ (ap (λ (d : ℕ). suc (count (first? ink near n) d)) (leader-same r) ∙ sym (label-ink b (linked-right r)))

    -- the first cell of a group is before that of another: its label is less
    pub label-less : (a b : ℕ) → ink a ≡ true → ink b ≡ true → leader ink near n a < leader ink near n b
        → label ink near n a < label ink near n b
    label-less a b i j h =
        omega (
          arith,
          label-ink a i,
          label-ink b j,
          count-step (first? ink near n) (leader ink near n a) (leader ink near n b) h (first-leader a i),
        )

    pub label-linked : (a b : ℕ) → ink a ≡ true → ink b ≡ true → label ink near n a ≡ label ink near n b → Linked ink near a b
    label-linked a b i j e =
        linked-trans (linked-sym (leader-linked a i)) (subst (λ (d : ℕ). Linked ink near d b) (sym same) (leader-linked b j))
      where
        same : leader ink near n a ≡ leader ink near n b
        same = go (dec_lt (leader ink near n a) (leader ink near n b)) (dec_lt (leader ink near n b) (leader ink near n a))
          where
            go : Dec (leader ink near n a < leader ink near n b) → Dec (leader ink near n b < leader ink near n a)
                → leader ink near n a ≡ leader ink near n b
            go (yes h) d = absurd (omega (arith, label-less a b i j h))
            go (no h) (yes k) = absurd (omega (arith, label-less b a j i k))
            go (no h) (no k) = omega arith

    -- the label of a group's first cell, by how many such cells are before it
    pub label-first : (c : ℕ) → first? ink near n c ≡ true → label ink near n c ≡ suc (count (first? ink near n) c)
    label-first c p = label-ink c (first-ink c p) ∙ ap (λ (d : ℕ). suc (count (first? ink near n) d)) (first-leads c p)

    -- no label is above the number of groups
    pub label-most : (c : ℕ) → ink c ≡ true → label ink near n c ≤ count (first? ink near n) n
    label-most c i =
        let q = first-leader c i in
        let l = leader ink near n c in
        omega (arith, label-ink c i, count-step (first? ink near n) l n (g.within l (first-ink l q)) q)
