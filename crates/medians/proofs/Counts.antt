-- Counts of values that pass a test: of a list whose places are known, of a list with two places exchanged, of two lists in a row; and the
-- k-th smallest value from them.
--     one list: count-append, count_most, count-fewer, count-least, none-at, none-all, some_at
--     the same values: same_refl, same-trans, same_numbers, none-same, swap-same, same-front, same_back, numbers-take, numbers-drop,
--     number-at
--     the k-th smallest: kth-join, kth-is
-- Assumes nothing.
use mathlib.Core.Path.{◌≡◌, refl, sym, ap, ◌∙◌, subst}
use mathlib.Core.List.{List, [], ◌∷◌, ◌++◌}
use mathlib.Core.Bool.{Bool, true, false, not, cond, true≢false, false≢true}
use Prim.Native.Nat.{ℕ, zero, suc, ◌+◌, ◌≤◌, ◌<◌}
use native.Mathlib.Omega.{arith}
use lib.Dec.{T, leb, ltb, leb→le, le→leb, ltb→lt, lt→ltb}
use mathlib.Core.Logic.{◌⊎◌, inl, inr, ⊎_elim}
use lib.ListN.{length, set, take, drop, take-append-drop, length-set}
use lib.Ieee.{Float, lt}
use lib.Ieee.Fits.{and_l, and_r, and_i}
use lib.Ieee.Bits.{is_true}
use Rattle.math.specs.Lists.{number_at, swapped}
use Rattle.medians.specs.Median.{count_in, SameValues, under, up_to, is_kth, first_with, kth, is_bad, Numbers}
use Rattle.medians.proofs.Order.{Good, lt_same, le-lt}

T_of : {b : Bool} → b ≡ true → T b
T_of e = subst T (sym e) tt

-- ---- one list
one : Bool → ℕ
one b = cond b 1 0

pub count-append : (p : Float → Bool) (s t : List Float) → count_in p (s ++ t) ≡ count_in p s + count_in p t
unfolding count_in
count-append p [] t = omega arith
count-append p (x ∷ xs) t = let e = count-append p xs t in omega arith

-- what fails everywhere from k on is passed by at most k
pub count_most : (p : Float → Bool) (s : List Float) (k : ℕ) → ((x : ℕ) → k ≤ x → x < length s → p (number_at s x) ≡ false) → count_in p s ≤ k
unfolding count_in
count_most p [] k h = omega arith
count_most p (x ∷ xs) zero h =
    let e = h 0 (omega arith) (omega arith) in
    let z = count_most p xs zero (λ i l m. h (suc i) (omega arith) (omega arith)) in
    rw e (omega arith)
count_most p (x ∷ xs) (suc k) h = let z = count_most p xs k (λ i l m. h (suc i) (omega arith) (omega arith)) in small (p x) (count_in p xs) k z
  where
    small : (b : Bool) (c k : ℕ) → c ≤ k → cond b 1 0 + c ≤ suc k
    small true c k h = omega arith
    small false c k h = omega arith

-- and by fewer, if it fails at a place before k too
pub count-fewer : (p : Float → Bool) (s : List Float) (k j : ℕ) → j < k → p (number_at s j) ≡ false
    → ((x : ℕ) → k ≤ x → x < length s → p (number_at s x) ≡ false) → count_in p s < k
unfolding count_in
count-fewer p [] k j m e h = omega arith
count-fewer p (x ∷ xs) zero j m e h = absurd (none j m)
  where
    none : (j : ℕ) → j < 0 → ⊥
    none j h = omega arith
count-fewer p (x ∷ xs) (suc k) zero m e h =
    let z = count_most p xs k (λ i l m. h (suc i) (omega arith) (omega arith)) in
    rw e (omega arith)
count-fewer p (x ∷ xs) (suc k) (suc j) m e h =
    let z = count-fewer p xs k j (omega arith) e (λ i l m. h (suc i) (omega arith) (omega arith)) in small (p x) (count_in p xs) k z
  where
    small : (b : Bool) (c k : ℕ) → c < k → cond b 1 0 + c < suc k
    small true c k h = omega arith
    small false c k h = omega arith

-- what holds at the first k places is passed by at least k
pub count-least : (p : Float → Bool) (s : List Float) (k : ℕ) → k ≤ length s → ((x : ℕ) → x < k → p (number_at s x) ≡ true) → k ≤ count_in p s
unfolding count_in
count-least p s zero l h = omega arith
count-least p [] (suc k) l h = absurd (none k l)
  where
    none : (k : ℕ) → suc k ≤ 0 → ⊥
    none k h = omega arith
count-least p (x ∷ xs) (suc k) l h =
    let e = h 0 (omega arith) in
    let z = count-least p xs k (omega arith) (λ i m. h (suc i) (omega arith)) in
    rw e (omega arith)

-- what nothing passes fails at each place
pub none-at : (p : Float → Bool) (s : List Float) → count_in p s ≡ 0 → (x : ℕ) → x < length s → p (number_at s x) ≡ false
unfolding count_in
none-at p [] e x h = absurd (none x h)
  where
    none : (j : ℕ) → j < 0 → ⊥
    none j h = omega arith
none-at p (y ∷ ys) e zero h = go (p y) refl e
  where
    go : (b : Bool) → p y ≡ b → cond (p y) 1 0 + count_in p ys ≡ 0 → p y ≡ false
    go false q e = q
    go true q e = let z : 1 + count_in p ys ≡ 0 = rw q at e in absurd (no (count_in p ys) z)
      where
        no : (c : ℕ) → 1 + c ≡ 0 → ⊥
        no c h = omega arith
none-at p (y ∷ ys) e (suc x) h = none-at p ys (omega arith) x (omega arith)

pub none-all : (p : Float → Bool) (s : List Float) → ((x : ℕ) → x < length s → p (number_at s x) ≡ false) → count_in p s ≡ 0
none-all p s h = let z = count_most p s 0 (λ x l m. h x m) in omega arith

pub some_at : (p : Float → Bool) (s : List Float) (x : ℕ) → x < length s → p (number_at s x) ≡ true → 0 < count_in p s
some_at p s x h e = go (count_in p s) refl
  where
    go : (c : ℕ) → count_in p s ≡ c → 0 < count_in p s
    go zero q = absurd (true≢false (sym e ∙ none-at p s q x h))
    go (suc c) q = omega arith

-- ---- the same values
pub same_refl : (s : List Float) → SameValues s s
unfolding SameValues
same_refl s p = refl

pub same-trans : (s t u : List Float) → SameValues s t → SameValues t u → SameValues s u
unfolding SameValues
same-trans s t u h k p = h p ∙ k p

pub same_numbers : (s t : List Float) → SameValues s t → Numbers s → Numbers t
unfolding SameValues Numbers
same_numbers s t h n = sym (h is_bad) ∙ n

pub none-same : (p : Float → Bool) (s t : List Float) → SameValues s t → count_in p s ≡ 0 → count_in p t ≡ 0
unfolding SameValues
none-same p s t h n = sym (h p) ∙ n

-- a value put in place of another
count_set : (p : Float → Bool) (s : List Float) (i : ℕ) (y : Float) → i < length s
    → count_in p (set s i y) + cond (p (number_at s i)) 1 0 ≡ count_in p s + cond (p y) 1 0
unfolding count_in
count_set p [] i y h = absurd (none i h)
  where
    none : (j : ℕ) → j < 0 → ⊥
    none j h = omega arith
count_set p (x ∷ xs) zero y h = omega arith
count_set p (x ∷ xs) (suc i) y h = let e = count_set p xs i y (omega arith) in omega arith

at_set : (s : List Float) (i j : ℕ) (y : Float) → i < length s → j < length s → (number_at (set s i y) j ≡ y) ⊎ (number_at (set s i y) j ≡ number_at s j)
at_set [] i j y h l = inr refl
at_set (x ∷ xs) zero zero y h l = inl refl
at_set (x ∷ xs) zero (suc j) y h l = inr refl
at_set (x ∷ xs) (suc i) zero y h l = inr refl
at_set (x ∷ xs) (suc i) (suc j) y h l = at_set xs i j y (omega arith) (omega arith)

pub swap-same : (s : List Float) (i j : ℕ) → i < length s → j < length s → SameValues s (swapped s i j)
unfolding SameValues
swap-same s i j h l p =
    let t = set s i (number_at s j) in
    let a = count_set p s i (number_at s j) h in
    let b = count_set p t j (number_at s i) (simp length-set l) in
    let c : p (number_at t j) ≡ p (number_at s j) = ⊎_elim (λ e. ap p e) (λ e. ap p e) (at_set s i j (number_at s j) h l) in
    let d : cond {A = ℕ} (p (number_at t j)) 1 0 ≡ cond (p (number_at s j)) 1 0 = ap (λ (b : Bool). cond {A = ℕ} b 1 0) c in
    omega arith

-- a part in the place of one with the same values
pub same-front : (t u : List Float) (e : ℕ) → SameValues (take e t) u → SameValues t (u ++ drop e t)
unfolding SameValues
same-front t u e h p =
    ap (count_in p) (sym (take-append-drop e t)) ∙ count-append p (take e t) (drop e t) ∙ ap (λ (c : ℕ). c + count_in p (drop e t)) (h p)
    ∙ sym (count-append p u (drop e t))

pub same_back : (t u : List Float) (i : ℕ) → SameValues (drop i t) u → SameValues t (take i t ++ u)
unfolding SameValues
same_back t u i h p =
    ap (count_in p) (sym (take-append-drop i t)) ∙ count-append p (take i t) (drop i t) ∙ ap (λ (c : ℕ). count_in p (take i t) + c) (h p)
    ∙ sym (count-append p (take i t) u)

pub numbers-take : (t : List Float) (e : ℕ) → Numbers t → Numbers (take e t)
unfolding Numbers
numbers-take t e n = let z = ap (count_in is_bad) (take-append-drop e t) in let w = count-append is_bad (take e t) (drop e t) in omega arith

pub numbers-drop : (t : List Float) (e : ℕ) → Numbers t → Numbers (drop e t)
unfolding Numbers
numbers-drop t e n = let z = ap (count_in is_bad) (take-append-drop e t) in let w = count-append is_bad (take e t) (drop e t) in omega arith

pub number-at : (s : List Float) → Numbers s → (x : ℕ) → x < length s → Good (number_at s x)
unfolding Numbers
number-at s n x h = none-at is_bad s n x h

-- ---- the k-th smallest
-- a test that whatever passes another passes too
count-le : (p q : Float → Bool) (s : List Float) → Numbers s → ((z : Float) → Good z → p z ≡ true → q z ≡ true) → count_in p s ≤ count_in q s
unfolding count_in Numbers
count-le p q [] n h = omega arith
count-le p q (x ∷ xs) n h = go (count-le p q xs (omega arith) h) (p x) refl
  where
    small : (b : Bool) (c d : ℕ) → c ≤ d → c ≤ cond b 1 0 + d
    small true c d h = omega arith
    small false c d h = omega arith

    go : count_in p xs ≤ count_in q xs → (b : Bool) → p x ≡ b → cond (p x) 1 0 + count_in p xs ≤ cond (q x) 1 0 + count_in q xs
    go l true e = rw (e, h x (none-at is_bad (x ∷ xs) n 0 (omega arith)) e) (omega arith)
    go l false e = rw e (omega (arith, small (q x) (count_in p xs) (count_in q xs) l))

first-with : (p : Float → Bool) (s : List Float) → Numbers s → 0 < count_in p s → (p (first_with p s) ≡ true) × Good (first_with p s)
unfolding count_in first_with Numbers
first-with p [] n h = absurd (none h)
  where
    none : 0 < 0 → ⊥
    none h = omega arith
first-with p (x ∷ xs) n h = go (λ l. first-with p xs (omega arith) l) (p x) refl
  where
    go : (0 < count_in p xs → (p (first_with p xs) ≡ true) × Good (first_with p xs)) → (b : Bool) → p x ≡ b
        → (p (cond (p x) x (first_with p xs)) ≡ true) × Good (cond (p x) x (first_with p xs))
    go more true e = rw e (e, none-at is_bad (x ∷ xs) n 0 (omega arith))
    go more false e = let l : 0 < cond {A = ℕ} false 1 0 + count_in p xs = rw e at h in rw e (more (omega arith))

kth-split : (s : List Float) (k : ℕ) (x : Float) → is_kth s k x ≡ true → (count_in (under x) s ≤ k) × (k < count_in (up_to x) s)
unfolding is_kth
kth-split s k x h =
    let a = leb (count_in (under x) s) k in
    let b = ltb k (count_in (up_to x) s) in
    (leb→le _ _ (and_l a b (T_of h)), ltb→lt _ _ (and_r a b (T_of h)))

pub kth-join : (s : List Float) (k : ℕ) (x : Float) → count_in (under x) s ≤ k → k < count_in (up_to x) s → is_kth s k x ≡ true
unfolding is_kth
kth-join s k x h l = is_true _ (and_i (leb (count_in (under x) s) k) (ltb k (count_in (up_to x) s)) (le→leb _ _ h) (lt→ltb _ _ l))

-- of two at the same place neither is below the other
kth-not : (s : List Float) → Numbers s → (k : ℕ) (x y : Float) → Good x → Good y → is_kth s k x ≡ true → is_kth s k y ≡ true → lt x y ≡ false
kth-not s n k x y gx gy hx hy = go (lt x y) refl
  where
    not-up : (b : Bool) → not b ≡ true → b ≡ false
    not-up true e = absurd (false≢true e)
    not-up false e = refl

    go : (b : Bool) → lt x y ≡ b → lt x y ≡ false
    go false e = e
    go true e =
        let a = kth-split s k x hx in
        let b = kth-split s k y hy in
        let c = count-le (up_to x) (under y) s n (λ z gz q. le-lt z x y gz gx gy (not-up (lt x z) q) e) in
        absurd (no _ _ _ a.1 c b.0)
      where
        no : (k c d : ℕ) → k < c → c ≤ d → d ≤ k → ⊥
        no k c d p q r = omega arith

-- the value at place k is the definition's
pub kth-is : (s : List Float) (k : ℕ) (x : Float) → Numbers s → Good x → is_kth s k x ≡ true → 0 < count_in (is_kth s k) s → x ≡ kth s k
unfolding kth
kth-is s k x n gx hx some =
    let f = first-with (is_kth s k) s n some in
    let y = first_with (is_kth s k) s in
    lt_same x y gx f.1 (kth-not s n k x y gx f.1 hx f.0) (kth-not s n k y x f.1 gx f.0 hx)
