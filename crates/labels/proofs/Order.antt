-- Under a move the groups are numbered anew, and each keeps its size.
--     cell_of, sized, cell-of, renumber, renumber-is, renumber-lt, moved-sized, renumber-back
-- Assumes nothing.
use mathlib.Core.Path.{◌≡◌, sym, ◌∙◌, ap}
use mathlib.Core.Logic.{◌⊎◌, inl, inr, ⊎_elim}
use mathlib.Core.Bool.{Bool, true, false, ◌&&◌}
use Prim.Native.Nat.{ℕ, zero, suc, ◌-◌, ◌<◌}
use native.Mathlib.Omega.{arith}
use native.Mathlib.Decide.{dec_lt}
use lib.Dec.{eqb}
use borrow.Author.Tests.{eq-eqb, eqb-true}
use Rattle.laws.specs.Count.{count, least}
use Rattle.laws.proofs.Counts.{count_yes, count_no, least-before, least-end}
use Rattle.laws.proofs.Bools.{which, clash, both, and_left, and_right}
use Rattle.labels.proofs.MovedGroups.{Carry, undo, moved-groups}
use Rattle.labels.proofs.Sizes.{moved-size}
use Rattle.labels.specs.Labels.{first?, label, NearGrid}
use Rattle.labels.proofs.Graph.{first-ink, label-first, label-ink, label-most}

-- the one that meets `p` and has i of them before it
select : (p : ℕ → Bool) (k i : ℕ) → i < count p k → (c : ℕ) × (c < k) × (p c ≡ true) × (count p c ≡ i)
unfolding count
select p zero i h = absurd (omega arith)
select p (suc k) i h = go (select p k i) (which (p k))
  where
    go : (i < count p k → (c : ℕ) × (c < k) × (p c ≡ true) × (count p c ≡ i)) → (p k ≡ true) ⊎ (p k ≡ false)
        → (c : ℕ) × (c < suc k) × (p c ≡ true) × (count p c ≡ i)
    go ih (inr e) = let r = ih (omega (arith, count_no p k e, h)) in (r.0, omega (arith, r.1), r.2, r.3)
    go ih (inl e) = last (dec_lt i (count p k))
      where
        last : Dec (i < count p k) → (c : ℕ) × (c < suc k) × (p c ≡ true) × (count p c ≡ i)
        last (yes b) = let r = ih b in (r.0, omega (arith, r.1), r.2, r.3)
        last (no b) = (k, omega arith, e, omega (arith, count_yes p k e, h))

-- The first cell of the group with the label i + 1.
unfoldable pub cell_of : (ℕ → Bool) → (ℕ → ℕ → Bool) → ℕ → ℕ → ℕ
cell_of ink near n i = least (λ c. first? ink near n c && eqb (count (first? ink near n) c) i) n

-- How many cells have the label i + 1.
unfoldable pub sized : (ℕ → Bool) → (ℕ → ℕ → Bool) → ℕ → ℕ → ℕ
sized ink near n i = count (λ c. eqb (label ink near n c) (suc i)) n

module _ (ink : ℕ → Bool) (near : ℕ → ℕ → Bool) (n : ℕ) (g : NearGrid ink near n) where
  pub cell-of : (i : ℕ) → i < count (first? ink near n) n
      → (ink (cell_of ink near n i) ≡ true) × (label ink near n (cell_of ink near n i) ≡ suc i)
  unfolding cell_of
  cell-of i h =
      let z = least p n in
      let t : p z ≡ true = ⊎_elim (λ x. x) (λ x. absurd (omega (arith, below, least-end p n x))) (which (p z)) in
      let f = and_left (first? ink near n z) (eqb (count (first? ink near n) z) i) t in
      let e = eqb-true (count (first? ink near n) z) i (and_right (first? ink near n z) (eqb (count (first? ink near n) z) i) t) in
      (first-ink ink near n g z f, label-first ink near n g z f ∙ ap suc e)
    where
      p : ℕ → Bool
      p = λ c. first? ink near n c && eqb (count (first? ink near n) c) i

      r : (c : ℕ) × (c < n) × (first? ink near n c ≡ true) × (count (first? ink near n) c ≡ i)
      r = select (first? ink near n) n i h

      below : least p n < n
      below = go (dec_lt r.0 (least p n))
        where
          go : Dec (r.0 < least p n) → least p n < n
          go (yes b) = absurd (clash
              (both (first? ink near n r.0) (eqb (count (first? ink near n) r.0) i) r.2 (eq-eqb _ _ r.3))
              (least-before p n r.0 b))
          go (no b) = omega (arith, r.1)

-- the number that the group with the label i + 1 gets
unfoldable pub renumber : (ℕ → Bool) → (ℕ → ℕ → Bool) → ℕ → (ℕ → Bool) → (ℕ → ℕ → Bool) → ℕ → (ℕ → ℕ) → ℕ → ℕ
renumber ink near n ink' near' n' f i = label ink' near' n' (f (cell_of ink near n i)) - 1

module _ {ink : ℕ → Bool} {near : ℕ → ℕ → Bool} {ink' : ℕ → Bool} {near' : ℕ → ℕ → Bool} {f : ℕ → ℕ} (n n' : ℕ) (g : NearGrid ink near n)
    (g' : NearGrid ink' near' n') (m : Carry ink near ink' near' f) where
  pub renumber-is : (i : ℕ) → i < count (first? ink near n) n
      → suc (renumber ink near n ink' near' n' f i) ≡ label ink' near' n' (f (cell_of ink near n i))
  unfolding renumber
  renumber-is i h = omega
      (arith, label-ink ink' near' n' g' (f (cell_of ink near n i)) (m.ink-to (cell_of ink near n i) (cell-of ink near n g i h).0))

  pub renumber-lt : (i : ℕ) → i < count (first? ink near n) n → renumber ink near n ink' near' n' f i < count (first? ink' near' n') n'
  renumber-lt i h =
      let c = f (cell_of ink near n i) in
      let j = m.ink-to (cell_of ink near n i) (cell-of ink near n g i h).0 in
      omega (arith, renumber-is i h, label-ink ink' near' n' g' c j, label-most ink' near' n' g' c j)

  -- A group keeps its size.
  pub moved-sized : (i : ℕ) → i < count (first? ink near n) n
      → sized ink' near' n' (renumber ink near n ink' near' n' f i) ≡ sized ink near n i
  unfolding sized
  moved-sized i h =
      let a = cell-of ink near n g i h in
      ap (λ (x : ℕ). count (λ c. eqb (label ink' near' n' c) x) n') (renumber-is i h)
      ∙ (sym (moved-size n n' g g' m (cell_of ink near n i) a.0) ∙ ap (λ (x : ℕ). count (λ c. eqb (label ink near n c) x) n) a.1)

module _ {ink : ℕ → Bool} {near : ℕ → ℕ → Bool} {ink' : ℕ → Bool} {near' : ℕ → ℕ → Bool} {f : ℕ → ℕ} (n n' : ℕ) (g : NearGrid ink near n)
    (g' : NearGrid ink' near' n') (m : Carry ink near ink' near' f) where
  -- there and back is the same number
  pub renumber-back : (i : ℕ) → i < count (first? ink near n) n
      → renumber ink' near' n' ink near n m.back (renumber ink near n ink' near' n' f i) ≡ i
  renumber-back i h =
      let i' = renumber ink near n ink' near' n' f i in
      let h' = renumber-lt n n' g g' m i h in
      let c = cell_of ink near n i in
      let c' = cell_of ink' near' n' i' in
      let a = cell-of ink near n g i h in
      let a' = cell-of ink' near' n' g' i' h' in
      let s : label ink' near' n' c' ≡ label ink' near' n' (f c) = a'.1 ∙ renumber-is n n' g g' m i h in
      let t = (moved-groups n' n g' g (undo m) c' (f c) a'.0 (m.ink-to c a.0)).0 s in
      omega (arith, renumber-is n' n g' g (undo m) i' h', t, ap (label ink near n) (m.again c a.0), a.1)
