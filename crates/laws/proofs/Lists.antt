-- Laws of numbers in a row and of a list's places as a stack: in-range, range-has, range-more; stack_push, stack-length.
-- Assumes nothing.
use mathlib.Core.Path.{◌≡◌, refl, ap, ap₂, ◌∙◌}
use mathlib.Core.List.Memᴰ
use mathlib.Core.List.{List, [], ◌∷◌, ◌++◌, Memᴰ}
use Prim.Native.Nat.{ℕ, zero, suc, ◌+◌, ◌≤◌, ◌<◌}
use native.Mathlib.Nat as NatL
use native.Mathlib.Numerals.{add-one}
use native.Mathlib.Omega.{arith}
use lib.ListN.{length, set}
use lib.Seq.{get_or-set_other, get_or-set_same}
use Rattle.laws.specs.Lists.{range, stack_of}

-- ---- numbers in a row
pub in-range : (n k i : ℕ) → Memᴰ i (range n k) → (n ≤ i) × (i < n + k)
in-range n zero i m = elim m [ ]
in-range n (suc k) i (Memᴰ.head e) = (omega (arith, e), omega (arith, e))
in-range n (suc k) i (Memᴰ.tail t) = let r = in-range (suc n) k i t in (omega (arith, r.0), omega (arith, r.1))

pub range-has : (n k i : ℕ) → i < k → Memᴰ (n + i) (range n k)
range-has n zero i h = absurd (no_lt i h)
  where
    no_lt : (i : ℕ) → i < 0 → ⊥
    no_lt i h = omega arith
range-has n (suc k) zero h = Memᴰ.head {x = n} (omega arith)
range-has n (suc k) (suc i) h = Memᴰ.tail (Memᴰ.cast (eq n i) (range-has (suc n) k i (NatL.le_of_suc-le-suc h)))
  where
    eq : (n i : ℕ) → n + suc i ≡ suc n + i
    eq n i = omega arith

range_last : (n k : ℕ) → range n (suc k) ≡ range n k ++ (n + k) ∷ []
range_last n zero = let e : n ≡ n + 0 = omega arith in ap (λ (x : ℕ). x ∷ []) e
range_last n (suc k) =
    let e : suc n + k ≡ n + suc k = omega arith in
    ap (λ (l : List ℕ). n ∷ l) (range_last (suc n) k ∙ ap (λ (x : ℕ). range (suc n) k ++ x ∷ []) e)

pub range-more : (n k : ℕ) → range n (k + 1) ≡ range n k ++ (n + k) ∷ []
range-more n k = rw add-one (range_last n k)

-- ---- a list's places as a stack
stack_set : (s : List ℕ) (n m x : ℕ) → n ≤ m → stack_of (set s m x) n ≡ stack_of s n
unfolding stack_of
stack_set s zero m x l = refl
stack_set s (suc n) m x l =
    ap₂ (λ (a : ℕ) (t : List ℕ). a ∷ t) (get_or-set_other s m n x 0 (λ e. omega arith)) (stack_set s n m x (omega arith))

pub stack_push : (s : List ℕ) (n x : ℕ) → n < length s → stack_of (set s n x) (n + 1) ≡ x ∷ stack_of s n
unfolding stack_of
stack_push s n x l =
    let z : n + 1 ≡ suc n = omega arith in
    ap (stack_of (set s n x)) z ∙ ap₂ (λ (a : ℕ) (t : List ℕ). a ∷ t) (get_or-set_same s n x 0 l) (stack_set s n n x (omega arith))

pub stack-length : (s : List ℕ) (n : ℕ) → length (stack_of s n) ≡ n
unfolding stack_of
stack-length s zero = refl
stack-length s (suc n) = ap suc (stack-length s n)
