-- Whose position the inner cell of each position is: `inner-owner`, by the edge that the position is on.
--     inner-owner
-- Assumes nothing.
use mathlib.Core.Path.{◌≡◌, refl, sym, ◌∙◌}
use mathlib.Core.Logic.{⊎_elim}
use mathlib.Core.Bool.{Bool, true, false, ◌||◌, cond}
use Prim.Native.Nat.{ℕ, ◌+◌, ◌*◌, ◌-◌, ◌<◌, ◌≤◌}
use native.Mathlib.Omega.{arith}
use native.Mathlib.Nat.{mod-eq_of_lt}
use lib.Dec.{leb, eqb}
use borrow.Author.Tests.{leb-true, leb-false, eqb-true, eqb-false}
use Rattle.laws.proofs.Bools.{either}
use Rattle.lcr_core.specs.Version.{quarter_of, positions_of}
use Rattle.lcr_core.specs.Border.{coordinate, position_at, outer_x, outer_y, inward, inner_owner, inner_cell}
use Rattle.std.specs.Prelude.{Some}
use Rattle.lcr_core.proofs.Cells.{outer-x-1, outer-x-2, outer-x-3, outer-x-4, outer-y-1, outer-y-2, outer-y-3, outer-y-4, inward-1, inward-2, inward-3}
use Rattle.lcr_core.proofs.Positions.{be, right, left, inner-by, inner-top, inner-bottom}

module _ (v p : ℕ) (h : p < positions_of v) where
  abbrev q : ℕ
  q = quarter_of v

  -- the inner cell of p is position k's
  abbrev Own : ℕ → Type 0
  Own k = position_at v (coordinate (inward q (outer_x q p))) (coordinate (inward q (outer_y q p))) ≡ Some k

  -- ---- at the corners and beside them

  corner-0 : p ≡ 0 → Own 1
  corner-0 e =
      inner-top v p h 1 (omega arith) (omega arith) p 0 (outer-x-1 q p (omega arith)) (outer-y-1 q p (omega arith)) (inward-1 q p e)
      (inward-1 q 0 refl)

  beside-0 : p ≡ 4 * q - 1 → Own 1
  beside-0 e =
      let k : 4 * q - p ≡ 1 = omega arith in
      inner-top v p h 1 (omega arith) (omega arith) 0 (4 * q - p) (outer-x-4 q p (omega arith)) (outer-y-4 q p (omega arith))
      (inward-1 q 0 refl) (sym k ∙ inward-3 q (4 * q - p) (λ z. omega arith) (λ z. omega arith))

  corner-1 : p ≡ q → Own (q - 1)
  corner-1 e =
      inner-top v p h (q - 1) (omega arith) (omega arith) p 0 (outer-x-1 q p (omega arith)) (outer-y-1 q p (omega arith))
      (inward-2 q p (λ z. omega arith) e) (inward-1 q 0 refl)

  beside-1 : p ≡ q + 1 → Own (q - 1)
  beside-1 e =
      let k : p - q ≡ 1 = omega arith in
      inner-top v p h (q - 1) (omega arith) (omega arith) q (p - q) (outer-x-2 q p (omega arith) (omega arith))
      (outer-y-2 q p (omega arith) (omega arith)) (inward-2 q q (λ z. omega arith) refl)
      (sym k ∙ inward-3 q (p - q) (λ z. omega arith) (λ z. omega arith))

  beside-2 : p ≡ 2 * q - 1 → Own (2 * q + 1)
  beside-2 e =
      let k : q - 1 ≡ p - q = omega arith in
      inner-bottom v p h (q - 1) (2 * q + 1) (omega arith) (omega arith) (omega arith) q (p - q)
      (outer-x-2 q p (omega arith) (omega arith)) (outer-y-2 q p (omega arith) (omega arith)) (inward-2 q q (λ z. omega arith) refl)
      (k ∙ inward-3 q (p - q) (λ z. omega arith) (λ z. omega arith))

  corner-2 : p ≡ 2 * q → Own (2 * q + 1)
  corner-2 e =
      inner-bottom v p h (q - 1) (2 * q + 1) (omega arith) (omega arith) (omega arith) q (p - q)
      (outer-x-2 q p (omega arith) (omega arith)) (outer-y-2 q p (omega arith) (omega arith)) (inward-2 q q (λ z. omega arith) refl)
      (inward-2 q (p - q) (λ z. omega arith) (omega arith))

  corner-3 : p ≡ 3 * q → Own (3 * q - 1)
  corner-3 e =
      inner-bottom v p h 1 (3 * q - 1) (omega arith) (omega arith) (omega arith) (3 * q - p) q
      (outer-x-3 q p (omega arith) (omega arith)) (outer-y-3 q p (omega arith) (omega arith)) (inward-1 q (3 * q - p) (omega arith))
      (inward-2 q q (λ z. omega arith) refl)

  beside-3 : p ≡ 3 * q + 1 → Own (3 * q - 1)
  beside-3 e =
      let k : q - 1 ≡ 4 * q - p = omega arith in
      inner-bottom v p h 1 (3 * q - 1) (omega arith) (omega arith) (omega arith) 0 (4 * q - p) (outer-x-4 q p (omega arith))
      (outer-y-4 q p (omega arith)) (inward-1 q 0 refl) (k ∙ inward-3 q (4 * q - p) (λ z. omega arith) (λ z. omega arith))

  -- ---- along the edges

  on-top : 0 < p → p < q → Own p
  on-top l m =
      inner-top v p h p (omega arith) (omega arith) p 0 (outer-x-1 q p (omega arith)) (outer-y-1 q p (omega arith))
      (inward-3 q p (λ z. omega arith) (λ z. omega arith)) (inward-1 q 0 refl)

  on-right : q + 1 < p → p < 2 * q - 1 → Own p
  on-right l m =
      inner-by v p h (q - 1) (p - q) q (p - q) p (outer-x-2 q p (omega arith) (omega arith)) (outer-y-2 q p (omega arith) (omega arith))
      (inward-2 q q (λ z. omega arith) refl) (inward-3 q (p - q) (λ z. omega arith) (λ z. omega arith))
      (be _ p _ (right v 1 (omega arith) (p - q) (omega arith) (omega arith)) (omega arith))

  on-bottom : 2 * q < p → p < 3 * q → Own p
  on-bottom l m =
      inner-bottom v p h (3 * q - p) p (omega arith) (omega arith) (omega arith) (3 * q - p) q
      (outer-x-3 q p (omega arith) (omega arith)) (outer-y-3 q p (omega arith) (omega arith))
      (inward-3 q (3 * q - p) (λ z. omega arith) (λ z. omega arith)) (inward-2 q q (λ z. omega arith) refl)

  on-left : 3 * q + 1 < p → p < 4 * q - 1 → Own p
  on-left l m =
      inner-by v p h 1 (4 * q - p) 0 (4 * q - p) p (outer-x-4 q p (omega arith)) (outer-y-4 q p (omega arith)) (inward-1 q 0 refl)
      (inward-3 q (4 * q - p) (λ z. omega arith) (λ z. omega arith))
      (be _ p _ (left v 1 (omega arith) (4 * q - p) (omega arith) (omega arith)) (omega arith))

  -- ---- all positions

  neither : (a b : Bool) → (a || b) ≡ false → (a ≡ false) × (b ≡ false)
  neither true b e = (e, go b e)
    where
      go : (b : Bool) → true ≡ false → b ≡ false
      go b z = let y : ◌≡◌ {A = ℕ} 0 1 = cc in absurd (omega arith)
  neither false b e = (refl, e)

  -- which of two numbers p is, and that it is neither
  one_of : {A : Type 0} (a b : ℕ) → (eqb p a || eqb p b) ≡ true → (p ≡ a → A) → (p ≡ b → A) → A
  one_of a b e f g = ⊎_elim (λ t. f (eqb-true p a t)) (λ t. g (eqb-true p b t)) (either (eqb p a) (eqb p b) e)

  none_of : (a b : ℕ) → (eqb p a || eqb p b) ≡ false → (p ≡ a → ⊥) × (p ≡ b → ⊥)
  none_of a b e = let n = neither (eqb p a) (eqb p b) e in (eqb-false p a n.0, eqb-false p b n.1)

  owner : Own (inner_owner q p)
  unfolding inner_owner
  owner =
      go (eqb p 0 || eqb p (4 * q - 1)) refl (eqb p q || eqb p (q + 1)) refl (eqb p (2 * q - 1) || eqb p (2 * q)) refl
      (eqb p (3 * q) || eqb p (3 * q + 1)) refl
    where
      go : (a : Bool) → (eqb p 0 || eqb p (4 * q - 1)) ≡ a → (b : Bool) → (eqb p q || eqb p (q + 1)) ≡ b
          → (c : Bool) → (eqb p (2 * q - 1) || eqb p (2 * q)) ≡ c → (d : Bool) → (eqb p (3 * q) || eqb p (3 * q + 1)) ≡ d
          → Own (cond a 1 (cond b (q - 1) (cond c (2 * q + 1) (cond d (3 * q - 1) p))))
      go true ea b eb c ec d ed = one_of 0 (4 * q - 1) ea corner-0 beside-0
      go false ea true eb c ec d ed = one_of q (q + 1) eb corner-1 beside-1
      go false ea false eb true ec d ed = one_of (2 * q - 1) (2 * q) ec beside-2 corner-2
      go false ea false eb false ec true ed = one_of (3 * q) (3 * q + 1) ed corner-3 beside-3
      go false ea false eb false ec false ed =
          plain (none_of 0 (4 * q - 1) ea) (none_of q (q + 1) eb) (none_of (2 * q - 1) (2 * q) ec) (none_of (3 * q) (3 * q + 1) ed)
          (leb p q) refl (leb p (2 * q)) refl (leb p (3 * q)) refl
        where
          plain : (p ≡ 0 → ⊥) × (p ≡ 4 * q - 1 → ⊥) → (p ≡ q → ⊥) × (p ≡ q + 1 → ⊥) → (p ≡ 2 * q - 1 → ⊥) × (p ≡ 2 * q → ⊥)
              → (p ≡ 3 * q → ⊥) × (p ≡ 3 * q + 1 → ⊥) → (a : Bool) → leb p q ≡ a → (b : Bool) → leb p (2 * q) ≡ b
              → (c : Bool) → leb p (3 * q) ≡ c → Own p
          plain n0 n1 n2 n3 true ea b eb c ec = let l : p ≤ q = leb-true p q ea in on-top (omega (arith, n0.0)) (omega (arith, n1.0))
          plain n0 n1 n2 n3 false ea true eb c ec =
              let g : q < p = leb-false p q ea in
              let l : p ≤ 2 * q = leb-true p (2 * q) eb in
              on-right (omega (arith, n1.1)) (below n2.0 n2.1 l)
            where
              below : (p ≡ 2 * q - 1 → ⊥) → (p ≡ 2 * q → ⊥) → p ≤ 2 * q → p < 2 * q - 1
              below a b l = omega arith
          plain n0 n1 n2 n3 false ea false eb true ec =
              let g : 2 * q < p = leb-false p (2 * q) eb in
              let l : p ≤ 3 * q = leb-true p (3 * q) ec in
              on-bottom g (omega (arith, n3.0))
          plain n0 n1 n2 n3 false ea false eb false ec =
              let g : 3 * q < p = leb-false p (3 * q) ec in
              on-left (omega (arith, n3.1)) (omega (arith, n0.1))

pub inner-owner : (v p : ℕ) → p < positions_of v → position_at v (inner_cell v p).x (inner_cell v p).y ≡ Some (inner_owner (quarter_of v) p)
unfolding inner_cell
inner-owner v p h = rw (mod-eq_of_lt h) (owner v p h)
