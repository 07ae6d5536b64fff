-- The starred lines on labels and kept regions, from what labels are (`labelling` of regions) and the order of kept groups.
--     only-ink, labelled           which cells are ink, and which have a label
--     near-3, far-4                which cells are near the first
--     columns-3, columns-4         ink cells in columns 0 and 3, and in 0 and 4
--     fifteen-sixteen              of groups of 15 and of 16 cells the second is kept
-- Assumes nothing.
use mathlib.Core.Path.{◌≡◌, refl, sym, ap, ◌∙◌, subst}
use mathlib.Core.Logic.{◌⊎◌, inl, inr, ⊎_elim}
use mathlib.Core.Bool.{true, false}
use Prim.Native.Nat.{ℕ, zero, suc, ◌+◌, ◌*◌, ◌<◌, ◌≤◌, ◌/◌, ◌%◌}
use native.Mathlib.Nat.{mod-eq_of_lt, div-eq_of_lt}
use native.Mathlib.Omega.{arith}
use lib.Dec.{eqb}
use borrow.Author.Tests.{eqb-true, eq-eqb, leb-true}
use Rattle.laws.specs.Plane.{Plane}
use Rattle.laws.specs.Count.{count}
use Rattle.laws.proofs.Bools.{which, either, or_left, or_right, clash, le-or-lt}
use Rattle.labels.specs.Labels.{Linked, here, step, close, near}
use Rattle.labels.specs.Cells.{cells8, cells_of, cell, ink_cell, cell_label, label_at, groups_of, group_size}
use Rattle.regions.specs.Kept.{kept_count, kept_label, kept_cells, kept_of, kept_at, want}
use Rattle.labels.specs.Claims.{IsFirst}
use Rattle.labels.proofs.Labelled.{labelling}
use Rattle.regions.proofs.Kept.{At, kept-at}
use Rattle.turned.specs.Stars.{OnlyInk, TwoGroups}

-- ---- ink cells in two columns

-- a label of the first row
first-row : (p : Plane) (w h x : ℕ) → label_at p w h x 0 ≡ cell_label p w h x
unfolding label_at cell
first-row p w h x = let e : 0 * cells8 w + x ≡ x = omega arith in ap (cell_label p w h) e

module _ (p : Plane) (w h k : ℕ) (only : OnlyInk p w h k) where
  abbrev l : ℕ → ℕ
  l = cell_label p w h

  ink-first : ink_cell p w h 0 ≡ true
  ink-first = only.cells 0 ∙ or_left (eqb 0 0) (eqb 0 k) (eq-eqb 0 0 refl)

  ink-last : ink_cell p w h k ≡ true
  ink-last = only.cells k ∙ or_right (eqb k 0) (eqb k k) (eq-eqb k k refl)

  only-ink : (c : ℕ) → ink_cell p w h c ≡ true → (c ≡ 0) ⊎ (c ≡ k)
  only-ink c i =
      ⊎_elim (λ e. inl (eqb-true c 0 e)) (λ e. inr (eqb-true c k e)) (either (eqb c 0) (eqb c k) (sym (only.cells c) ∙ i))

  -- one of the two has each label
  labelled : (i : ℕ) → i < groups_of p w h → (l 0 ≡ suc i) ⊎ (l k ≡ suc i)
  labelled i b = go ((labelling p w h).each i b)
    where
      ink : (c : ℕ) → l c ≡ suc i → (ink_cell p w h c ≡ true) ⊎ (ink_cell p w h c ≡ false) → ink_cell p w h c ≡ true
      ink c e (inl t) = t
      ink c e (inr f) = absurd (omega (arith, e, ((labelling p w h).none c).1 f))

      go : (c : ℕ) × (c < cells_of w h) × (l c ≡ suc i) → (l 0 ≡ suc i) ⊎ (l k ≡ suc i)
      go (c, lt, e) =
          ⊎_elim (λ q. inl (ap l (sym q) ∙ e)) (λ q. inr (ap l (sym q) ∙ e)) (only-ink c (ink c e (which (ink_cell p w h c))))

-- the remainder and the quotient of a cell of the first row
column : (w c : ℕ) → c < w → (c % w ≡ c) × (c / w ≡ 0)
column w c b = (mod-eq_of_lt b, div-eq_of_lt b)

near-3 : (w : ℕ) → 3 < w → near w 0 3 ≡ true
unfolding near close
near-3 w b =
    let o = column w 0 (omega (arith, b)) in
    let c = column w 3 b in
    rw (o.0, o.1, c.0, c.1) refl

far-4 : (w : ℕ) → 4 < w → near w 0 4 ≡ false
unfolding near close
far-4 w b =
    let o = column w 0 (omega (arith, b)) in
    let c = column w 4 b in
    rw (o.0, c.0) refl

pub columns-3 : (p : Plane) (w h : ℕ) → OnlyInk p w h 3
    → (label_at p w h 0 0 ≡ 1) × (label_at p w h 3 0 ≡ 1) × (groups_of p w h ≡ 1)
columns-3 p w h only = (first-row p w h 0 ∙ one, first-row p w h 3 ∙ (sym same ∙ one), go (le-or-lt (groups_of p w h) 1))
  where
    i : ink_cell p w h 0 ≡ true
    i = ink-first p w h 3 only

    j : ink_cell p w h 3 ≡ true
    j = ink-last p w h 3 only

    same : cell_label p w h 0 ≡ cell_label p w h 3
    same = ((labelling p w h).shared 0 3 i j).1 (step (here i) (near-3 (cells8 w) only.wide) j)

    some : 1 ≤ groups_of p w h
    some = let m = (labelling p w h).most 0 i in omega (arith, m.0, m.1)

    one : cell_label p w h 0 ≡ 1
    one = ⊎_elim (λ e. e) (λ e. same ∙ e) (labelled p w h 3 only 0 some)

    go : (groups_of p w h ≤ 1) ⊎ (1 < groups_of p w h) → groups_of p w h ≡ 1
    go (inl b) = omega (arith, some, b)
    go (inr b) =
        ⊎_elim (λ e. absurd (omega (arith, e, one))) (λ e. absurd (omega (arith, e, same, one))) (labelled p w h 3 only 1 b)

pub columns-4 : (p : Plane) (w h : ℕ) → OnlyInk p w h 4
    → (label_at p w h 0 0 ≡ 1) × (label_at p w h 4 0 ≡ 2) × (groups_of p w h ≡ 2)
columns-4 p w h only = (first-row p w h 0 ∙ one, first-row p w h 4 ∙ two, go (le-or-lt (groups_of p w h) 2))
  where
    i : ink_cell p w h 0 ≡ true
    i = ink-first p w h 4 only

    j : ink_cell p w h 4 ≡ true
    j = ink-last p w h 4 only

    -- no step leads away from the first
    alone : {c : ℕ} → Linked (ink_cell p w h) (near (cells8 w)) 0 c → c ≡ 0
    alone (here t) = refl
    alone (step {b = b} {c = c} r n t) =
        let b₀ : b ≡ 0 = alone r in
        ⊎_elim (λ e. e)
        (λ e. absurd (clash (subst (λ (x : ℕ). near (cells8 w) 0 x ≡ true) e (subst (λ (x : ℕ). near (cells8 w) x c ≡ true) b₀ n))
        (far-4 (cells8 w) only.wide)))
        (only-ink p w h 4 only c t)

    apart : ¬ (cell_label p w h 0 ≡ cell_label p w h 4)
    apart e = let z = alone (((labelling p w h).shared 0 4 i j).0 e) in omega (arith, z)

    zeroth : IsFirst p w h 0
    zeroth = record { ink = i; before = λ d b e. omega (arith, b) }

    fourth : IsFirst p w h 4
    fourth = record { ink = j; before = earlier }
      where
        earlier : (d : ℕ) → d < 4 → ¬ (cell_label p w h d ≡ cell_label p w h 4)
        earlier d b e = ink (which (ink_cell p w h d))
          where
            ink : (ink_cell p w h d ≡ true) ⊎ (ink_cell p w h d ≡ false) → ⊥
            ink (inl t) = ⊎_elim (λ q. apart (ap (cell_label p w h) (sym q) ∙ e)) (λ q. omega (arith, q, b)) (only-ink p w h 4 only d t)
            ink (inr f) = omega (arith, e, ((labelling p w h).none d).1 f, ((labelling p w h).most 4 j).0)

    less : cell_label p w h 0 < cell_label p w h 4
    less = (labelling p w h).ordered 0 4 zeroth fourth (omega arith)

    low : 1 ≤ cell_label p w h 0
    low = ((labelling p w h).most 0 i).0

    high : cell_label p w h 4 ≤ groups_of p w h
    high = ((labelling p w h).most 4 j).1

    one : cell_label p w h 0 ≡ 1
    one = ⊎_elim (λ e. e) (λ e. absurd (omega (arith, e, less, low))) (labelled p w h 4 only 0 (omega (arith, low, less, high)))

    two : cell_label p w h 4 ≡ 2
    two = ⊎_elim (λ e. absurd (omega (arith, e, one))) (λ e. e) (labelled p w h 4 only 1 (omega (arith, one, less, high)))

    go : (groups_of p w h ≤ 2) ⊎ (2 < groups_of p w h) → groups_of p w h ≡ 2
    go (inl b) = omega (arith, two, high, b)
    go (inr b) =
        ⊎_elim (λ e. absurd (omega (arith, e, one))) (λ e. absurd (omega (arith, e, two))) (labelled p w h 4 only 2 b)

-- ---- groups of 15 and 16

-- how many of two are large enough
one_of : (s : ℕ → ℕ) (a b : ℕ) → a + b ≡ 1 → s a ≡ 15 → s b ≡ 16 → count (want s) 2 ≡ 1
unfolding count want
one_of s zero zero e f g = absurd (omega (arith, e))
one_of s zero (suc zero) e f g = rw (f, g) refl
one_of s zero (suc (suc b)) e f g = absurd (omega (arith, e))
one_of s (suc zero) zero e f g = rw (f, g) refl
one_of s (suc zero) (suc b) e f g = absurd (omega (arith, e))
one_of s (suc (suc a)) b e f g = absurd (omega (arith, e))

kept-one : (s : ℕ → ℕ) (a b : ℕ) → a + b ≡ 1 → s a ≡ 15 → s b ≡ 16 → (kept_of s 2 ≡ 1) × (kept_at s 2 0 ≡ b)
unfolding kept_of want
kept-one s a b e f g = (omega (arith, one), ⊎_elim (λ q. absurd (small q)) (λ q. q) (either-of (kept_at s 2 0) at.below))
  where
    one : count (want s) 2 ≡ 1
    one = one_of s a b e f g

    at : At s 2 0 (kept_at s 2 0)
    at = kept-at s 2 0 (omega (arith, one))

    either-of : (c : ℕ) → c < 2 → (c ≡ a) ⊎ (c ≡ b)
    either-of c l = go (le-or-lt c a) (le-or-lt a c)
      where
        go : (c ≤ a) ⊎ (a < c) → (a ≤ c) ⊎ (c < a) → (c ≡ a) ⊎ (c ≡ b)
        go (inl x) (inl y) = inl (omega (arith, x, y))
        go (inl x) (inr y) = inr (omega (arith, y, e))
        go (inr x) z = inr (omega (arith, x, e, l))

    small : kept_at s 2 0 ≡ a → ⊥
    small q = let z = leb-true 16 (s (kept_at s 2 0)) at.wanted in omega (arith, z, ap s q, f)

pub fifteen-sixteen : (p : Plane) (w h a b : ℕ) → TwoGroups p w h a b
    → (kept_count p w h ≡ 1) × (kept_label p w h 0 ≡ suc b) × (kept_cells p w h 0 ≡ 16)
unfolding kept_count kept_label kept_cells
fifteen-sixteen p w h a b t =
    let q = kept-one (group_size p w h) a b t.either t.fifteen t.sixteen in
    rw t.groups (q.0, ap suc q.1, ap (group_size p w h) q.1 ∙ t.sixteen)
