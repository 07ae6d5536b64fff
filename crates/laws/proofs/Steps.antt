-- Loops that count up while a definition counts down, and lists filled place by place. Assumes nothing.
--   on, done, from_zero            a definition by the steps left: one step on, at the end, at the beginning
--   filled_none, filled-step       the first places of a list are given: none yet, one more
--   filled_copy                    a list whose places are all another's is that list
--   take-replicate, drop-replicate parts of a list that has one value throughout
use mathlib.Core.Path.{◌≡◌, refl, sym, ap, ◌∙◌}
use mathlib.Core.Logic.{◌⊎◌, inl, inr}
use mathlib.Core.List.{List, ◌∷◌}
use Prim.Native.Nat.{ℕ, zero, suc, ◌+◌, ◌-◌, ◌≤◌, ◌<◌}
use native.Mathlib.Nat.{le_of_suc-le-suc, sub-zero, suc-sub-suc, not-suc-le-zero}
use native.Mathlib.Omega.{arith}
use lib.ListN.{length, get_or, set, take, drop, replicate}
use lib.Seq.{ext_get_or, get_or-set_same, get_or-set_other}
use Rattle.laws.proofs.Bools.{at-or-below}

-- ---- what is left falls by one
pub one_less : (n k : ℕ) → k < n → n - k ≡ suc (n - (k + 1))
one_less n k h = omega arith

pub none_left : (n k : ℕ) → n ≤ k → n - k ≡ 0
none_left n k h = omega arith

-- a definition that counts down from n - k while k counts up
module _ {S : Type 0} (go : ℕ → ℕ → S → S) (step : ℕ → S → S) (n : ℕ) where
  pub on : ((d k : ℕ) (s : S) → go (suc d) k s ≡ go d (k + 1) (step k s)) → (k : ℕ) (s : S) → k < n
      → go (n - k) k s ≡ go (n - (k + 1)) (k + 1) (step k s)
  on e k s h = ap (λ (d : ℕ). go d k s) (one_less n k h) ∙ e (n - (k + 1)) k s

  pub done : ((k : ℕ) (s : S) → go 0 k s ≡ s) → (k : ℕ) (s : S) → n ≤ k → go (n - k) k s ≡ s
  done e k s h = ap (λ (d : ℕ). go d k s) (none_left n k h) ∙ e k s

  pub from_zero : (s : S) → go (n - 0) 0 s ≡ go n 0 s
  from_zero s = ap (λ (d : ℕ). go d 0 s) (sub-zero n)

-- ---- lists filled place by place
module _ {A : Type 0} (o : A) where
  pub filled_none : (g : ℕ → A) (t : List A) (x : ℕ) → x < 0 → get_or t x o ≡ g x
  filled_none g t x h = absurd (not-suc-le-zero h)

  pub filled-step : (g : ℕ → A) (t : List A) (i : ℕ) (y : A) → i < length t → ((x : ℕ) → x < i → get_or t x o ≡ g x) → y ≡ g i
      → (x : ℕ) → x < i + 1 → get_or (set t i y) x o ≡ g x
  filled-step g t i y h f e x l = go (at-or-below x i (omega arith))
    where
      other : (x i : ℕ) → x < i → x ≡ i → ⊥
      other x i h e = omega arith

      go : (x ≡ i) ⊎ (x < i) → get_or (set t i y) x o ≡ g x
      go (inl z) = ap (λ (j : ℕ). get_or (set t i y) j o) z ∙ get_or-set_same t i y o h ∙ e ∙ ap g (sym z)
      go (inr k) = get_or-set_other t i x y o (other x i k) ∙ f x k

  pub filled_copy : (s t : List A) (i : ℕ) → length t ≡ length s → length s ≤ i → ((x : ℕ) → x < i → get_or t x o ≡ get_or s x o) → t ≡ s
  filled_copy s t i e h f = ext_get_or o t s e (λ x l. f x (omega arith))

-- ---- lists of one value
module _ {A : Type 0} (o : A) where
  pub take-replicate : (n m : ℕ) → n ≤ m → take n (replicate m o) ≡ replicate n o
  take-replicate zero m h = refl
  take-replicate (suc n) zero h = absurd (not-suc-le-zero h)
  take-replicate (suc n) (suc m) h = ap (λ (r : List A). o ∷ r) (take-replicate n m (le_of_suc-le-suc h))

  pub drop-replicate : (n m : ℕ) → n ≤ m → drop n (replicate m o) ≡ replicate (m - n) o
  drop-replicate zero m h = ap (λ (k : ℕ). replicate k o) (sym (sub-zero m))
  drop-replicate (suc n) zero h = absurd (not-suc-le-zero h)
  drop-replicate (suc n) (suc m) h = drop-replicate n m (le_of_suc-le-suc h) ∙ ap (λ (k : ℕ). replicate k o) (sym (suc-sub-suc m n))
