-- Lists one after the other: joined-more, joined-add, joined-ext, joined-none, joined-le, joined-mem, joined-has. Assumes nothing.
use mathlib.Core.Path.{◌≡◌, refl, sym, ap, subst, ◌∙◌}
use mathlib.Core.Logic.{◌⊎◌, inl, inr}
use mathlib.Core.List.Memᴰ
use mathlib.Core.List.{List, [], ◌++◌, append_assoc, append-nil, Memᴰ}
use Prim.Native.Nat.{ℕ, zero, suc, ◌+◌, ◌*◌, ◌≤◌, ◌<◌}
use native.Mathlib.Nat.{add-zero, add-suc}
use native.Mathlib.Numerals.{add-one}
use native.Mathlib.Omega.{arith}
use lib.ListN.{length, length-append}
use Rattle.laws.specs.Fold.{joined}
use Rattle.laws.proofs.Bools.{at-or-below}

pub joined-more : {A : Type 0} (n : ℕ) (f : ℕ → List A) → joined (n + 1) f ≡ joined n f ++ f n
unfolding joined
joined-more n f = rw add-one

pub joined-add : {A : Type 0} (n m : ℕ) (f : ℕ → List A) → joined (n + m) f ≡ joined n f ++ joined m (λ i. f (n + i))
unfolding joined
joined-add {A} n zero f = ap (λ (k : ℕ). joined k f) (add-zero n) ∙ sym (append-nil (joined n f))
joined-add {A} n (suc m) f =
    ap (λ (k : ℕ). joined k f) (add-suc n m)
    ∙ ap (λ (l : List A). l ++ f (n + m)) (joined-add n m f)
    ∙ append_assoc (joined n f) (joined m (λ i. f (n + i))) (f (n + m))

pub joined-ext : {A : Type 0} (n : ℕ) (f g : ℕ → List A) → ((i : ℕ) → i < n → f i ≡ g i) → joined n f ≡ joined n g
unfolding joined
joined-ext zero f g same = refl
joined-ext (suc n) f g same =
    let ih = joined-ext n f g (λ i l. same i (omega arith)) in
    let here = same n (omega arith) in
    cc

pub joined-none : {A : Type 0} (n : ℕ) (f : ℕ → List A) → ((i : ℕ) → i < n → f i ≡ []) → joined n f ≡ []
unfolding joined
joined-none zero f e = refl
joined-none (suc n) f e = rw (joined-none n f (λ i l. e i (omega arith)), e n (omega arith))

pub joined-le : {A : Type 0} (k n : ℕ) (f : ℕ → List A) → ((i : ℕ) → length (f i) ≤ k) → length (joined n f) ≤ k * n
unfolding joined
joined-le k zero f few = omega arith
joined-le k (suc n) f few = rw (length-append (joined n f) (f n)) (omega (arith, joined-le k n f few, few n))

-- ---- what is in it
pub joined-mem : {A : Type 0} (n : ℕ) (f : ℕ → List A) (q : A) → Memᴰ q (joined n f) → (i : ℕ) × (i < n) × Memᴰ q (f i)
unfolding joined
joined-mem zero f q t = elim t [ ]
joined-mem (suc n) f q t = go (Memᴰ.append_cases (joined n f) t) (joined-mem n f q)
  where
    go : Memᴰ q (joined n f) ⊎ Memᴰ q (f n) → (Memᴰ q (joined n f) → (i : ℕ) × (i < n) × Memᴰ q (f i))
        → (i : ℕ) × (i < suc n) × Memᴰ q (f i)
    go (inl s) ih = let r = ih s in (r.0, omega (arith, r.1), r.2)
    go (inr s) ih = (n, omega arith, s)

pub joined-has : {A : Type 0} (n : ℕ) (f : ℕ → List A) (q : A) (i : ℕ) → i < n → Memᴰ q (f i) → Memᴰ q (joined n f)
unfolding joined
joined-has zero f q i l t = absurd (omega arith)
joined-has (suc n) f q i l t = go (at-or-below i n l) (λ m. joined-has n f q i m t)
  where
    go : (i ≡ n) ⊎ (i < n) → (i < n → Memᴰ q (joined n f)) → Memᴰ q (joined (suc n) f)
    go (inl e) ih = Memᴰ.append_right (joined n f) (subst (λ (k : ℕ). Memᴰ q (f k)) e t)
    go (inr m) ih = Memᴰ.append_left (f n) (ih m)
