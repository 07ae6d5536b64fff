-- A lent list that keeps the places past the first n. past-none: without a use; past-then: after two; past_more: past more places;
-- past-set: a store at place n; past-written: of which the first n are written, and written-past, where they hold what is written;
-- past-front: with another part in front; past-cleared: with 0 in the first n; drop_more. Assumes nothing.
use mathlib.Core.Path.{◌≡◌, refl, sym, ap, ap₂, ◌∙◌}
use mathlib.Core.List.{List, ◌++◌}
use Prim.Native.Nat.{ℕ, ◌+◌, ◌-◌, ◌≤◌, ◌<◌}
use native.Mathlib.Omega.{arith}
use lib.ListN.{
  length,
  get_or,
  set,
  take,
  drop,
  length-append,
  length-drop,
  length-set,
  length-replicate,
  get_or-replicate,
  take-append-drop,
  get_or-append,
}
use lib.Seq.{drop_at, drop-drop, drop-set-lt, get_or-take, length-take-le}
use Rattle.laws.proofs.Folds.{drop-written, is-tab, length-written}
use Rattle.laws.specs.Fold.{written}
use Rattle.laws.specs.Lent.{UntouchedPast, zeros}

-- drop further on
pub drop_more : {A : Type 0} (i j : ℕ) (a b : List A) → i ≤ j → drop i a ≡ drop i b → drop j a ≡ drop j b
drop_more {A} i j a b h e =
    let z : j ≡ i + (j - i) = omega arith in
    ap (λ (n : ℕ). drop n a) z
    ∙ sym (drop-drop (j - i) i a)
    ∙ ap (drop (j - i)) e
    ∙ drop-drop (j - i) i b
    ∙ ap (λ (n : ℕ). drop n b) (sym z)

pub past-none : {A : Type 0} (n : ℕ) (l : List A) → UntouchedPast n l l
past-none n l = record { same = refl; past = refl }

pub past-then : {A : Type 0} {n : ℕ} {a b c : List A} → UntouchedPast n a b → UntouchedPast n b c → UntouchedPast n a c
past-then p q = record { same = q.same ∙ p.same; past = q.past ∙ p.past }

pub past_more : {A : Type 0} {i : ℕ} {a b : List A} (j : ℕ) → i ≤ j → UntouchedPast i a b → UntouchedPast j a b
past_more {A} {i} {a} {b} j h q = record { same = q.same; past = drop_more i j b a h q.past }

-- a store at place n, past which nothing was touched
pub past-set : {A : Type 0} {n : ℕ} {old l : List A} (v : A) → UntouchedPast n old l → UntouchedPast (n + 1) old (set l n v)
past-set {A} {n} {old} {l} v p =
    past-then (past_more (n + 1) (omega arith) p)
    record { same = length-set l n v; past = drop-set-lt (n + 1) l n v (omega arith) }

pub past-written : (n : ℕ) (f : ℕ → ℕ) (old : List ℕ) {new : List ℕ} → n ≤ length old → new ≡ written n f old → UntouchedPast n old new
past-written n f old room e = record { same = ap length e ∙ length-written n f old room; past = ap (drop n) e ∙ drop-written n f old }

-- its first n places hold the values of f
pub written-past : (n : ℕ) (f : ℕ → ℕ) (old new : List ℕ) → ((i : ℕ) → i < n → get_or new i 0 ≡ f i) → UntouchedPast n old new
    → n ≤ length old → new ≡ written n f old
written-past n f old new held p room =
    let long : n ≤ length new = omega (arith, p.same) in
    sym (take-append-drop n new)
    ∙ ap₂ (λ (s t : List ℕ). s ++ t)
    (is-tab n f (take n new) (length-take-le n new long) (λ j l. get_or-take n new j 0 l ∙ held j l))
    p.past

-- m places of the list are another part, and m are no more than n
pub past-front : {A : Type 0} (n m : ℕ) (part old : List A) {new : List A} → m ≤ n → m ≤ length old → length part ≡ m
    → new ≡ part ++ drop m old → UntouchedPast n old new
past-front {A} n m part old few room long e = record {
  same = ap length e ∙ length-append part (drop m old) ∙ ap (λ (k : ℕ). length part + k) (length-drop m old) ∙ omega arith;
  past = drop_more m n _ old few (ap (drop m) e ∙ drop_at part (drop m old) m long);
}

-- the first n places were lent as a list of their own and came back as zeros
pub past-cleared : (n : ℕ) (old part : List ℕ) → n ≤ length old → part ≡ zeros (take n old)
    → ((i : ℕ) → i < n → get_or (part ++ drop n old) i 0 ≡ 0) × UntouchedPast n old (part ++ drop n old)
past-cleared n old part room e =
    let few = length-take-le n old room in
    let long : length part ≡ n = ap length e ∙ length-replicate (length (take n old)) 0 ∙ few in (
      λ i l.
          get_or-append part (drop n old) 0 i (omega arith)
          ∙ ap (λ (p : List ℕ). get_or p i 0) e
          ∙ get_or-replicate (length (take n old)) i 0 0 (omega arith),
      past-front n n part old (omega arith) room long refl,
    )
