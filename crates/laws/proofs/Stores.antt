-- Lists with elements stored one after the other, and reads that need no default. sets-append, map-append, laid-is; run-off, run-at,
-- run_more, one value stored in a run of places; stored-none, stored_one, stored-append, stored-ext, stored-length, stored-laid; get_d_any;
-- below_next. Assumes nothing.
use mathlib.Core.Path.{◌≡◌, refl, sym, ap, ◌∙◌, subst}
use mathlib.Core.Logic.{◌⊎◌, inl, inr}
use mathlib.Core.List.{List, [], ◌∷◌, ◌++◌, map}
use Prim.Native.Nat.{ℕ, zero, suc, ◌+◌, ◌≤◌, ◌<◌}
use native.Mathlib.Nat.{add-zero, zero-add, eq-or-lt_of_le, not-suc-le-zero, le_of_suc-le-suc}
use native.Mathlib.Decide.{ℕ_discrete}
use native.Mathlib.Omega.{arith}
use lib.ListN.{length, get_or, set, drop, replicate, length-append, length-replicate, length-set, replicate-append-replicate}
use lib.Seq.{sets, sets-eq, length-sets, get_or-set_other, get_or-set_same}
use Rattle.laws.specs.Lent.{Stored}

-- stores that follow each other are one store
pub sets-append : {A : Type 0} (l : List A) (i : ℕ) (us vs : List A) → sets (sets l i us) (i + length us) vs ≡ sets l i (us ++ vs)
sets-append l i [] vs = ap (λ (k : ℕ). sets l k vs) (add-zero i)
sets-append l i (a ∷ us) vs =
    let z : i + suc (length us) ≡ suc i + length us = omega arith in
    ap (λ (k : ℕ). sets (sets (set l i a) (suc i) us) k vs) z ∙ sets-append (set l i a) (suc i) us vs

pub map-append : {A B : Type 0} (f : A → B) (us vs : List A) → map f (us ++ vs) ≡ map f us ++ map f vs
map-append f [] vs = refl
map-append {A} {B} f (a ∷ us) vs = ap (λ (l : List B). f a ∷ l) (map-append f us vs)

-- a store from the first place on, with the rest of the list
pub laid-is : {A : Type 0} (us old : List A) → length us ≤ length old → sets old 0 us ≡ us ++ drop (length us) old
laid-is us old fit = sets-eq us old 0 (rw (zero-add (length us)) fit) ∙ ap (λ (k : ℕ). us ++ drop k old) (zero-add (length us))

-- ---- one value in a run of places
pub run-off : (l : List ℕ) (at n b k : ℕ) → (k < at) ⊎ (at + n ≤ k) → get_or (sets l at (replicate n b)) k 0 ≡ get_or l k 0
run-off l at zero b k h = refl
run-off l at (suc n) b k h = run-off (set l at b) (suc at) n b k (on h) ∙ get_or-set_other l at k b 0 (other h)
  where
    on : (k < at) ⊎ (at + suc n ≤ k) → (k < suc at) ⊎ (suc at + n ≤ k)
    on (inl l) = inl (omega arith)
    on (inr l) = inr (omega arith)

    other : (k < at) ⊎ (at + suc n ≤ k) → k ≡ at → ⊥
    other (inl l) e = omega arith
    other (inr l) e = omega arith

pub run-at : (l : List ℕ) (at n b k : ℕ) → at + n ≤ length l → at ≤ k → k < at + n → get_or (sets l at (replicate n b)) k 0 ≡ b
run-at l at zero b k room low high = absurd (omega arith)
run-at l at (suc n) b k room low high = go (ℕ_discrete k at) (run-at (set l at b) (suc at) n b k)
  where
    go : Dec (k ≡ at)
        → (suc at + n ≤ length (set l at b) → suc at ≤ k → k < suc at + n → get_or (sets (set l at b) (suc at) (replicate n b)) k 0 ≡ b)
        → get_or (sets (set l at b) (suc at) (replicate n b)) k 0 ≡ b
    go (yes e) later =
        run-off (set l at b) (suc at) n b k (inl (omega arith)) ∙ ap (λ (i : ℕ). get_or (set l at b) i 0) e
        ∙ get_or-set_same l at b 0 (omega arith)
    go (no e) later = later (simp length-set (omega arith)) (omega arith) (omega arith)

pub run_more : (l : List ℕ) (at i b : ℕ) → set (sets l at (replicate i b)) (at + i) b ≡ sets l at (replicate (i + 1) b)
run_more l at i b =
    ap (λ (k : ℕ). set (sets l at (replicate i b)) (at + k) b) (sym (length-replicate i b))
    ∙ sets-append l at (replicate i b) (b ∷ [])
    ∙ ap (λ (r : List ℕ). sets l at r) (replicate-append-replicate i 1 b)

-- ---- from one place to the next
pub stored-none : {A : Type 0} (at : ℕ) (l : List A) → Stored at [] l l at
stored-none at l = record { list = refl; next = sym (add-zero at) }

pub stored_one : {A : Type 0} (at : ℕ) (a : A) (l : List A) → Stored at (a ∷ []) l (set l at a) (at + 1)
stored_one at a l = record { list = refl; next = refl }

pub stored-append : {A : Type 0} {at : ℕ} {us vs l l' l'' : List A} {r r' : ℕ} → Stored at us l l' r → Stored r vs l' l'' r'
    → Stored at (us ++ vs) l l'' r'
stored-append {A} {at} {us} {vs} {l} {l'} {l''} {r} {r'} v w = record {
  list =
      w.list
      ∙ ap (λ (q : List A). sets q r vs) v.list
      ∙ ap (λ (k : ℕ). sets (sets l at us) k vs) v.next
      ∙ sets-append l at us vs;
  next = w.next ∙ sum at (length us) (length vs) r v.next ∙ ap (λ (k : ℕ). at + k) (sym (length-append us vs));
}
  where
    sum : (at a b r : ℕ) → r ≡ at + a → r + b ≡ at + (a + b)
    sum at a b r e = omega arith

pub stored-ext : {A : Type 0} {at : ℕ} {l l' : List A} {r : ℕ} (us vs : List A) → us ≡ vs → Stored at us l l' r → Stored at vs l l' r
stored-ext {A} {at} {l} {l'} {r} us vs e w = subst (λ (q : List A). Stored at q l l' r) e w

pub stored-length : {A : Type 0} {at : ℕ} {us l l' : List A} {r : ℕ} → Stored at us l l' r → length l' ≡ length l
stored-length {A} {at} {us} {l} w = ap length w.list ∙ length-sets l at us

pub stored-laid : {A : Type 0} {us l l' : List A} {r : ℕ} → Stored 0 us l l' r → length us ≤ length l → l' ≡ us ++ drop (length us) l
stored-laid {A} {us} {l} w fit = w.list ∙ laid-is us l fit

-- an index within a list needs no default
pub get_d_any : {A : Type 0} (l : List A) (i : ℕ) (a b : A) → i < length l → get_or l i a ≡ get_or l i b
get_d_any [] i a b h = absurd (not-suc-le-zero h)
get_d_any (x ∷ l) zero a b h = refl
get_d_any (x ∷ l) (suc i) a b h = get_d_any l i a b (le_of_suc-le-suc h)

-- every number below i, and one more
pub below_next : (P : ℕ → Type 0) (i : ℕ) → ((j : ℕ) → j < i → P j) → P i → (j : ℕ) → j < i + 1 → P j
below_next P i h here j l = go (eq-or-lt_of_le l)
  where
    go : (suc j ≡ i + 1) ⊎ (suc j < i + 1) → P j
    go (inl q) = let z : i ≡ j = omega arith in subst P z here
    go (inr q) = h j (omega arith)
