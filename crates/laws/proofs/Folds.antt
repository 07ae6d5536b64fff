-- Laws of folds, of `first` and `end_of`, and of written lists.
--     fold-..                        one step, equal functions, from the other end, two folds joined, rows against columns
--     first-.., end-..               the first and the last that pass a test; first-turn: read backwards, one is the other
--     tab-.., is-tab, written-..     lists written from a function
--     bit_le                         a bit is at most 1
-- Assumes nothing.
use mathlib.Core.Path.{◌≡◌, refl, sym, ap, ◌∙◌}
use mathlib.Core.Bool.{Bool, true, false, cond}
use mathlib.Core.List.{List, [], ◌∷◌}
use Prim.Native.Nat.{ℕ, zero, suc, ◌+◌, ◌-◌, ◌≤◌, ◌<◌, zero-le}
use native.Mathlib.Nat.{not-suc-le-zero, le_of_suc-le-suc, eq-or-lt_of_le}
use mathlib.Core.Logic.{⊎_elim}
use native.Mathlib.Numerals.{add-one}
use native.Mathlib.Omega.{arith}
use lib.ListN.{length, get_or, set, drop, length-append, length-drop, get_or-append}
use lib.Seq.{ext_get_or, drop-cons, set_at, get_or_at, drop_at, append_snoc}
use Rattle.laws.specs.Fold.{bit, end_of, fold, first, tab, written}

-- ---- folds
module _ (op : ℕ → ℕ → ℕ) (e : ℕ) where
  pub fold-zero : (f : ℕ → ℕ) → fold op e 0 f ≡ e
  unfolding fold
  fold-zero f = refl

  pub fold-suc : (n : ℕ) (f : ℕ → ℕ) → fold op e (n + 1) f ≡ op (fold op e n f) (f n)
  unfolding fold
  fold-suc n f = rw add-one

  pub fold-ext : (n : ℕ) (f g : ℕ → ℕ) → ((i : ℕ) → i < n → f i ≡ g i) → fold op e n f ≡ fold op e n g
  unfolding fold
  fold-ext zero f g same = refl
  fold-ext (suc n) f g same =
      let ih = fold-ext n f g (λ i l. same i (omega arith)) in
      let here = same n (omega arith) in
      cc

  -- for an operation that commutes and associates
  module _ (comm : (a b : ℕ) → op a b ≡ op b a) (assoc : (a b c : ℕ) → op (op a b) c ≡ op a (op b c)) where
    -- the first one taken out
    pub fold-front : (n : ℕ) (f : ℕ → ℕ) → fold op e (suc n) f ≡ op (f 0) (fold op e n (λ i. f (suc i)))
    unfolding fold
    fold-front zero f = comm e (f 0)
    fold-front (suc n) f = ap (λ (k : ℕ). op k (f (suc n))) (fold-front n f) ∙ assoc (f 0) (fold op e n (λ i. f (suc i))) (f (suc n))

    -- from the other end
    pub fold-reverse : (n : ℕ) (f : ℕ → ℕ) → fold op e n (λ i. f (n - 1 - i)) ≡ fold op e n f
    unfolding fold
    fold-reverse zero f = refl
    fold-reverse (suc n) f =
        fold-front n (λ i. f (suc n - 1 - i))
        ∙ ap (λ (k : ℕ). op k (fold op e n (λ i. f (suc n - 1 - suc i)))) (ap f (omega arith))
        ∙ ap (λ (k : ℕ). op (f n) k)
        (fold-ext n (λ i. f (suc n - 1 - suc i)) (λ i. f (n - 1 - i)) (λ i l. ap f (omega arith)) ∙ fold-reverse n f)
        ∙ comm (f n) (fold op e n f)

    -- two folds joined place by place
    middle : (a b c d : ℕ) → op (op a b) (op c d) ≡ op (op a c) (op b d)
    middle a b c d = assoc a b (op c d) ∙ ap (op a) (sym (assoc b c d) ∙ ap (λ (k : ℕ). op k d) (comm b c) ∙ assoc c b d)
        ∙ sym (assoc a c (op b d))

    module _ (idem : op e e ≡ e) where
      pub fold-unit : (n : ℕ) → fold op e n (λ i. e) ≡ e
      unfolding fold
      fold-unit zero = refl
      fold-unit (suc n) = ap (λ (k : ℕ). op k e) (fold-unit n) ∙ idem

      pub fold-join : (n : ℕ) (f g : ℕ → ℕ) → fold op e n (λ i. op (f i) (g i)) ≡ op (fold op e n f) (fold op e n g)
      unfolding fold
      fold-join zero f g = sym idem
      fold-join (suc n) f g = ap (λ (k : ℕ). op k (op (f n) (g n))) (fold-join n f g) ∙ middle (fold op e n f) (fold op e n g) (f n) (g n)

      -- rows of columns are columns of rows
      pub fold-swap : (m n : ℕ) (f : ℕ → ℕ → ℕ) → fold op e m (λ j. fold op e n (λ i. f i j)) ≡ fold op e n (λ i. fold op e m (λ j. f i j))
      unfolding fold
      fold-swap zero n f = sym (fold-unit n)
      fold-swap (suc m) n f =
          ap (λ (k : ℕ). op k (fold op e n (λ i. f i m))) (fold-swap m n f)
          ∙ sym (fold-join n (λ i. fold op e m (λ j. f i j)) (λ i. f i m))

-- ---- the first that passes
first-suc : (n : ℕ) (t : ℕ → Bool) → first (suc n) t ≡ cond (t zero) zero (suc (first n (λ k. t (suc k))))
unfolding first
first-suc n t = refl

pub first-at : (n : ℕ) (t : ℕ → Bool) (b : ℕ) → b < n → ((k : ℕ) → k < b → t k ≡ false) → t b ≡ true → first n t ≡ b
first-at zero t b l none here = absurd (not-suc-le-zero l)
first-at (suc n) t zero l none here = rw (first-suc, here)
first-at (suc n) t (suc b) l none here =
    rw (first-suc, none zero (omega arith))
    (ap suc (first-at n (λ k. t (suc k)) b (le_of_suc-le-suc l) (λ k m. none (suc k) (omega arith)) here))

pub first-none : (n : ℕ) (t : ℕ → Bool) → ((k : ℕ) → k < n → t k ≡ false) → first n t ≡ n
unfolding first
first-none zero t none = refl
first-none (suc n) t none =
    rw (first-suc, none zero (omega arith)) (ap suc (first-none n (λ k. t (suc k)) (λ k m. none (suc k) (omega arith))))

pub first-ext : (n : ℕ) (t u : ℕ → Bool) → ((k : ℕ) → k < n → t k ≡ u k) → first n t ≡ first n u
unfolding first
first-ext zero t u same = refl
first-ext (suc n) t u same =
    rw (
      first-suc n t,
      first-suc n u,
      same zero (omega arith),
      first-ext n (λ k. t (suc k)) (λ k. u (suc k)) (λ k m. same (suc k) (omega arith)),
    )

pub first-le : (n : ℕ) (t : ℕ → Bool) → first n t ≤ n
unfolding first
first-le zero t = zero-le
first-le (suc n) t = go (t zero) (first-le n (λ k. t (suc k)))
  where
    go : (b : Bool) → first n (λ k. t (suc k)) ≤ n → cond b zero (suc (first n (λ k. t (suc k)))) ≤ suc n
    go true ih = zero-le
    go false ih = omega arith

-- ---- written lists
pub length-tab : (n : ℕ) (f : ℕ → ℕ) → length (tab n f) ≡ n
unfolding tab
length-tab zero f = refl
length-tab (suc n) f = rw (length-append, length-tab n f) (omega arith)

pub get_or-tab : (n : ℕ) (f : ℕ → ℕ) (i d : ℕ) → i < n → get_or (tab n f) i d ≡ f i
unfolding tab
get_or-tab zero f i d l = absurd (not-suc-le-zero l)
get_or-tab (suc n) f i d l =
    ⊎_elim
    (λ e. (get_or_at (tab n f) (f n) [] d i (length-tab n f ∙ sym e) ∙ ap f (sym e)))
    (λ lt. get_or-append (tab n f) (f n ∷ []) d i (rw (length-tab n f) lt) ∙ get_or-tab n f i d lt)
    (eq-or-lt_of_le (le_of_suc-le-suc l))

pub tab-ext : (n : ℕ) (f g : ℕ → ℕ) → ((i : ℕ) → i < n → f i ≡ g i) → tab n f ≡ tab n g
unfolding tab
tab-ext zero f g same = refl
tab-ext (suc n) f g same =
    let ih = tab-ext n f g (λ i l. same i (omega arith)) in
    let here = same n (omega arith) in
    cc

pub length-written : (n : ℕ) (f : ℕ → ℕ) (old : List ℕ) → n ≤ length old → length (written n f old) ≡ length old
length-written n f old l = rw (length-append, length-tab n f, length-drop) (omega arith)

pub written_none : (f : ℕ → ℕ) (old : List ℕ) → old ≡ written 0 f old
unfolding tab
written_none f old = refl

pub written-more : (n : ℕ) (f : ℕ → ℕ) (old : List ℕ) → n < length old → set (written n f old) n (f n) ≡ written (n + 1) f old
unfolding tab
written-more n f old l =
    rw (add-one, drop-cons old n 0, set_at (tab n f) (get_or old n 0) (drop (suc n) old) (f n) n (length-tab n f), append_snoc)

pub get_or-written : (n : ℕ) (f : ℕ → ℕ) (old : List ℕ) (i d : ℕ) → i < n → get_or (written n f old) i d ≡ f i
get_or-written n f old i d l = get_or-append (tab n f) (drop n old) d i (rw (length-tab n f) l) ∙ get_or-tab n f i d l

pub drop-written : (n : ℕ) (f : ℕ → ℕ) (old : List ℕ) → drop n (written n f old) ≡ drop n old
drop-written n f old = drop_at (tab n f) (drop n old) n (length-tab n f)

-- one store of a loop that writes a list from the front
pub written_step : (n : ℕ) (f : ℕ → ℕ) (old : List ℕ) {l : List ℕ} {v : ℕ} → l ≡ written n f old → v ≡ f n → n < length old
    → set l n v ≡ written (n + 1) f old
written_step n f old e q l = rw (e, q) (written-more n f old l)

-- ---- the last that passes
pub end-le : (n : ℕ) (t : ℕ → Bool) → end_of n t ≤ n
unfolding end_of
end-le zero t = zero-le
end-le (suc n) t = go (t n) (end-le n t)
  where
    go : (b : Bool) → end_of n t ≤ n → cond b (suc n) (end_of n t) ≤ suc n
    go true ih = omega arith
    go false ih = omega arith

pub end-ext : (n : ℕ) (t u : ℕ → Bool) → ((k : ℕ) → k < n → t k ≡ u k) → end_of n t ≡ end_of n u
unfolding end_of
end-ext zero t u same = refl
end-ext (suc n) t u same = rw (same n (omega arith), end-ext n t u (λ k l. same k (omega arith)))

pub end-above : (n : ℕ) (t : ℕ → Bool) (i : ℕ) → i < n → t i ≡ true → i < end_of n t
unfolding end_of
end-above zero t i l e = absurd (not-suc-le-zero l)
end-above (suc n) t i l e = go (t n) refl (end-above n t i)
  where
    go : (b : Bool) → t n ≡ b → (i < n → t i ≡ true → i < end_of n t) → i < cond b (suc n) (end_of n t)
    go true q ih = l
    go false q ih = ⊎_elim (λ z. absurd (no (sym e ∙ ap t z ∙ q))) (λ z. ih z e) (eq-or-lt_of_le (le_of_suc-le-suc l))
      where
        no : true ≡ false → ⊥
        no z = let y : ◌≡◌ {A = ℕ} 0 1 = cc in omega arith

pub end-holds : (n : ℕ) (t : ℕ → Bool) → 0 < end_of n t → t (end_of n t - 1) ≡ true
unfolding end_of
end-holds zero t l = absurd (not-suc-le-zero l)
end-holds (suc n) t l = go (t n) refl l (end-holds n t)
  where
    go : (b : Bool) → t n ≡ b → 0 < cond b (suc n) (end_of n t) → (0 < end_of n t → t (end_of n t - 1) ≡ true)
        → t (cond b (suc n) (end_of n t) - 1) ≡ true
    go true q z ih = let e : suc n - 1 ≡ n = omega arith in ap t e ∙ q
    go false q z ih = ih z

pub first_holds : (n : ℕ) (t : ℕ → Bool) → first n t < n → t (first n t) ≡ true
unfolding first
first_holds zero t l = absurd (not-suc-le-zero l)
first_holds (suc n) t l = go (t zero) refl l (first_holds n (λ k. t (suc k)))
  where
    go : (b : Bool) → t zero ≡ b → cond b zero (suc (first n (λ k. t (suc k)))) < suc n
        → (first n (λ k. t (suc k)) < n → t (suc (first n (λ k. t (suc k)))) ≡ true)
        → t (cond b zero (suc (first n (λ k. t (suc k))))) ≡ true
    go true q z ih = q
    go false q z ih = ih (le_of_suc-le-suc z)

pub first_below : (n : ℕ) (t : ℕ → Bool) (i : ℕ) → i < n → t i ≡ true → first n t ≤ i
unfolding first
first_below zero t i l e = absurd (not-suc-le-zero l)
first_below (suc n) t zero l e = rw e zero-le
first_below (suc n) t (suc i) l e = go (t zero) (first_below n (λ k. t (suc k)) i (le_of_suc-le-suc l) e)
  where
    go : (b : Bool) → first n (λ k. t (suc k)) ≤ i → cond b zero (suc (first n (λ k. t (suc k)))) ≤ suc i
    go true ih = zero-le
    go false ih = omega arith

-- read backwards, the first is the last
pub first-turn : (n : ℕ) (t u : ℕ → Bool) → ((i : ℕ) → i < n → u i ≡ t (n - 1 - i)) → first n u ≡ n - end_of n t
unfolding first end_of
first-turn zero t u same = refl
first-turn (suc n) t u same =
    let e : u zero ≡ t n = same zero (omega arith) ∙ ap t (omega arith) in
    let ih = first-turn n t (λ i. u (suc i)) (λ i l. same (suc i) (omega arith) ∙ ap t (back n i l)) in
    rw (e, ih) (go (t n) (end-le n t))
  where
    back : (n i : ℕ) → i < n → suc n - 1 - suc i ≡ n - 1 - i
    back n i l = omega arith

    go : (b : Bool) → end_of n t ≤ n → cond b zero (suc (n - end_of n t)) ≡ suc n - cond b (suc n) (end_of n t)
    go true l = omega arith
    go false l = omega arith

-- a list with those values is the table
pub is-tab : (n : ℕ) (f : ℕ → ℕ) (l : List ℕ) → length l ≡ n → ((j : ℕ) → j < n → get_or l j 0 ≡ f j) → l ≡ tab n f
is-tab n f l e same = ext_get_or 0 l (tab n f) (e ∙ sym (length-tab n f)) (λ i b. same i (omega arith) ∙ sym (get_or-tab n f i 0 (omega arith)))

pub bit_le : (b : Bool) → bit b ≤ 1
bit_le true = omega arith
bit_le false = omega arith
