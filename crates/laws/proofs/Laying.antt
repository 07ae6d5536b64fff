-- Lists of m elements each, f 0 to f (n - 1), stored one after the other.
--     Laying                                    the first i are stored from the beginning on, and the rest of the list is as before
--     laying-begin, laying-turn, laying-end     at the first, from one to the next, after the last
-- Assumes nothing.
use mathlib.Core.Path.{◌≡◌, refl, sym, ◌∙◌, subst}
use mathlib.Core.List.{List, [], ◌++◌}
use Prim.Native.Nat.{ℕ, suc, ◌+◌, ◌*◌, ◌≤◌, ◌<◌}
use native.Mathlib.Nat.{mul-zero}
use native.Mathlib.Omega.{arith}
use lib.ListN.{length}
use Rattle.laws.specs.Lent.{Stored}
use Rattle.laws.proofs.Stores.{stored-none, stored-append, stored-length}
use Rattle.laws.specs.Fold.{joined}

pub record Laying {A : Type 0} (m n : ℕ) (f : ℕ → List A) (old new : List A) (i : ℕ) : Type 0 where
  pub stored : Stored 0 (joined i f) old new (m * i)
  pub within : i ≤ n
  pub same : length new ≡ length old

pub laying-begin : {A : Type 0} (m n : ℕ) (f : ℕ → List A) (old : List A) → Laying m n f old old 0
unfolding joined
laying-begin m n f old = record {
  stored = subst (λ k. Stored 0 [] old old k) (sym (mul-zero m)) (stored-none 0 old);
  within = omega arith;
  same = refl;
}

pub laying-turn : {A : Type 0} (m n : ℕ) (f : ℕ → List A) (old new newer : List A) (i : ℕ) → i < n → Laying m n f old new i
    → Stored (m * i) (f i) new newer (m * i + m) → Laying m n f old newer (i + 1)
unfolding joined
laying-turn m n f old new newer i here a more =
    let z : m * i + m ≡ m * suc i = omega arith in
    let next : suc i ≡ i + 1 = omega arith in
    subst (λ k. Laying m n f old newer k) next record {
      stored = subst (λ k. Stored 0 (joined i f ++ f i) old newer k) z (stored-append a.stored more);
      within = here;
      same = stored-length more ∙ a.same;
    }

pub laying-end : {A : Type 0} (m n : ℕ) (f : ℕ → List A) (old new : List A) (i : ℕ) → n ≤ i → Laying m n f old new i
    → Stored 0 (joined n f) old new (m * n)
laying-end m n f old new i all a =
    let z : i ≡ n = omega (arith, a.within) in
    subst (λ k. Stored 0 (joined k f) old new (m * k)) z a.stored
