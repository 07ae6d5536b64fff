-- The loop that counts the labels (Tallied). Assumes nothing.
use mathlib.Core.List.{List}
use mathlib.Core.Path.{◌∙◌, ◌≡◌, ap, refl, sym}
use Prim.Native.Nat.{◌+◌, ◌<◌, ◌≤◌, suc, ℕ}
use native.Mathlib.Decide.{ℕ_discrete}
use native.Mathlib.Numerals.{add-one}
use native.Mathlib.Omega.{arith}
use lib.Dec.{eqb}
use lib.ListN.{get_or, get_or-replicate, length, length-replicate}
use borrow.Author.Tests.{eq-eqb, ne_eqb}
use Rattle.laws.proofs.Counts.{count_no, count_yes}
use Rattle.laws.specs.Count.{count}
use Rattle.laws.specs.Lent.{zeros}
use Rattle.regions.specs.Inner.{Bumped, size_in}

pub record Tallied (labels l₀ l : List ℕ) (k : ℕ) : Type 0 where
  pub size : length l ≡ length l₀
  pub counts : (i : ℕ) → i < length l → get_or l i 0 ≡ count (λ c. eqb (get_or labels c 0) (suc i)) k
  pub most : (i : ℕ) → i < length l → get_or l i 0 ≤ k

pub tallied-begin : (labels old : List ℕ) {l : List ℕ} → l ≡ zeros old → Tallied labels l l 0
unfolding count
tallied-begin labels old {l} e =
    let same : length l ≡ length old = ap length e ∙ length-replicate {A = ℕ} (length old) 0 in
    let none : (i : ℕ) → i < length l → get_or l i 0 ≡ 0 = λ i b. rw e (get_or-replicate {A = ℕ} (length old) i 0 0 (omega arith)) in
    record { size = refl; counts = none; most = λ i b. omega (arith, none i b) }

pub tallied-turn : {labels l₀ l l' : List ℕ} {k : ℕ} → Tallied labels l₀ l k → length l' ≡ length l → Bumped (get_or labels k 0) l l'
    → Tallied labels l₀ l' (k + 1)
tallied-turn {labels} {l₀} {l} {l'} {k} q e b = record {
  size = e ∙ q.size;
  counts = λ i h. counted i (omega arith) (ℕ_discrete (get_or labels k 0) (suc i));
  most = λ i h. most' i (omega arith) (ℕ_discrete (get_or labels k 0) (suc i));
}
  where
    counted : (i : ℕ) → i < length l → Dec (get_or labels k 0 ≡ suc i) → get_or l' i 0 ≡ count (λ c. eqb (get_or labels c 0) (suc i)) (k + 1)
    counted i h (yes p) =
        rw add-one (b.yes i h p
        ∙ (ap suc (q.counts i h) ∙ sym (count_yes (λ c. eqb (get_or labels c 0) (suc i)) k (eq-eqb (get_or labels k 0) (suc i) p))))
    counted i h (no p) =
        rw add-one (b.no i h p
        ∙ (q.counts i h ∙ sym (count_no (λ c. eqb (get_or labels c 0) (suc i)) k (ne_eqb (get_or labels k 0) (suc i) p))))

    most' : (i : ℕ) → i < length l → Dec (get_or labels k 0 ≡ suc i) → get_or l' i 0 ≤ k + 1
    most' i h (yes p) = omega (arith, b.yes i h p, q.most i h)
    most' i h (no p) = omega (arith, b.no i h p, q.most i h)

pub tallied-end : {labels l₀ l : List ℕ} {k : ℕ} → Tallied labels l₀ l k → k ≡ length labels → (i : ℕ) → i < length l₀
    → get_or l i 0 ≡ size_in labels i
unfolding size_in
tallied-end {labels} {l₀} {l} {k} q e i b = rw e at (q.counts i (omega (arith, q.size)))
