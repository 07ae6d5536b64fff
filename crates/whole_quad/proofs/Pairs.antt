-- The folds of the quad, a step at a time.
--     keep_append, keep_one, keep-value, keep_low, keep-any, value-any   a fold over any list
--     kept-yes, kept-no, kept-at, kept_in                                one step of it
--     keep-begin, keep-turn, keep-end                                    over points
--     reach-begin, reach-turn, reach-end; partner-turn, partner-end      over the pairs of one point with a later one
--     rows_are                                                           over all pairs, point by point
-- Assumes nothing.
use mathlib.Core.Path.{◌≡◌, refl, sym, ap, ◌∙◌, subst}
use mathlib.Core.Bool.{Bool, true, false}
use mathlib.Core.List.{List, [], ◌∷◌, ◌++◌, map}
use Prim.Native.Nat.{ℕ, zero, suc, ◌+◌, ◌-◌, ◌≤◌, ◌<◌, max}
use native.Mathlib.Omega.{arith}
use lib.Dec.{ltb}
use borrow.Author.Tests.{lt-ltb, le-ltb, ltb-true, ltb-false}
use Rattle.laws.specs.Lists.{range}
use Rattle.laws.proofs.Steps.{one_less, none_left}
use Rattle.whole.specs.Walk.{keep, index_pairs, with-i}
use Rattle.whole_quad.specs.Inner.{kept1}

up : (i : ℕ) → suc i ≡ i + 1
up i = omega arith

all : (n : ℕ) → n - 0 ≡ n
all n = omega arith

module _ {T : Type 0} (g : T → ℕ) where
  -- a fold over one list after the other
  keep_append : (x : T) (u : ℕ) (l m : List T) → keep ltb g x u (l ++ m) ≡ keep ltb g (keep ltb g x u l).0 (keep ltb g x u l).1 m
  unfolding keep
  keep_append x u [] m = refl
  keep_append x u (y ∷ l) m = go (ltb u (g y)) (keep_append y (g y) l m) (keep_append x u l m)
    where
      go : (b : Bool) → keep ltb g y (g y) (l ++ m) ≡ keep ltb g (keep ltb g y (g y) l).0 (keep ltb g y (g y) l).1 m
          → keep ltb g x u (l ++ m) ≡ keep ltb g (keep ltb g x u l).0 (keep ltb g x u l).1 m
          → ◌≡◌ {A = T × ℕ} (elim b as (λ _. T × ℕ) [ true ↦ keep ltb g y (g y) (l ++ m) | false ↦ keep ltb g x u (l ++ m) ])
          (keep ltb g (elim b as (λ _. T × ℕ) [ true ↦ keep ltb g y (g y) l | false ↦ keep ltb g x u l ]).0
          (elim b as (λ _. T × ℕ) [ true ↦ keep ltb g y (g y) l | false ↦ keep ltb g x u l ]).1 m)
      go true p q = p
      go false p q = q

  keep_one : (x : T) (u : ℕ) (y : T) (l : List T) → keep ltb g x u (y ∷ l) ≡ keep ltb g (kept1 g x u y).0 (kept1 g x u y).1 l
  unfolding keep kept1
  keep_one x u y l = go (ltb u (g y))
    where
      go : (b : Bool) → ◌≡◌ {A = T × ℕ} (elim b as (λ _. T × ℕ) [ true ↦ keep ltb g y (g y) l | false ↦ keep ltb g x u l ])
          (keep ltb g (elim b as (λ _. T × ℕ) [ true ↦ (y, g y) | false ↦ (x, u) ]).0
          (elim b as (λ _. T × ℕ) [ true ↦ (y, g y) | false ↦ (x, u) ]).1 l)
      go true = refl
      go false = refl

  -- one candidate
  pub kept-yes : (x y : T) (u s : ℕ) → s ≡ g y → u < s → (y, s) ≡ kept1 g x u y
  unfolding kept1
  kept-yes x y u s e h =
      let k : ltb u (g y) ≡ true = ap (ltb u) (sym e) ∙ lt-ltb u s h in
      ap (λ (w : ℕ). (y, w)) e ∙ sym (ap (λ (b : Bool). elim b as (λ _. T × ℕ) [ true ↦ (y, g y) | false ↦ (x, u) ]) k)

  pub kept-no : (x y : T) (u s : ℕ) → s ≡ g y → s ≤ u → (x, u) ≡ kept1 g x u y
  unfolding kept1
  kept-no x y u s e h =
      let k : ltb u (g y) ≡ false = ap (ltb u) (sym e) ∙ le-ltb u s h in
      sym (ap (λ (b : Bool). elim b as (λ _. T × ℕ) [ true ↦ (y, g y) | false ↦ (x, u) ]) k)

  -- a step with the value of its candidate
  pub kept-at : (x y : T) (u s : ℕ) → s ≡ g y → kept1 (λ _. s) x u y ≡ kept1 g x u y
  unfolding kept1
  kept-at x y u s e = ap (λ (w : ℕ). elim (ltb u w) as (λ _. T × ℕ) [ true ↦ (y, w) | false ↦ (x, u) ]) e

  -- a fold that begins with a value keeps a value
  pub keep-value : (x : T) (u : ℕ) (ys : List T) → u ≡ g x → (keep ltb g x u ys).1 ≡ g (keep ltb g x u ys).0
  unfolding keep
  keep-value x u [] e = e
  keep-value x u (y ∷ ys) e = go (ltb u (g y)) (keep-value y (g y) ys refl) (keep-value x u ys e)
    where
      go : (b : Bool) → (keep ltb g y (g y) ys).1 ≡ g (keep ltb g y (g y) ys).0 → (keep ltb g x u ys).1 ≡ g (keep ltb g x u ys).0
          → (elim b as (λ _. T × ℕ) [ true ↦ keep ltb g y (g y) ys | false ↦ keep ltb g x u ys ]).1
          ≡ g (elim b as (λ _. T × ℕ) [ true ↦ keep ltb g y (g y) ys | false ↦ keep ltb g x u ys ]).0
      go true p q = p
      go false p q = q

  keep-grows : (x : T) (u : ℕ) (ys : List T) → u ≤ (keep ltb g x u ys).1
  unfolding keep
  keep-grows x u [] = omega arith
  keep-grows x u (y ∷ ys) = go (ltb u (g y)) refl (keep-grows y (g y) ys) (keep-grows x u ys)
    where
      go : (b : Bool) → ltb u (g y) ≡ b → g y ≤ (keep ltb g y (g y) ys).1 → u ≤ (keep ltb g x u ys).1
          → u ≤ (elim b as (λ _. T × ℕ) [ true ↦ keep ltb g y (g y) ys | false ↦ keep ltb g x u ys ]).1
      go true e p q = let l = ltb-true u (g y) e in omega arith
      go false e p q = q

  -- the value that is kept does not depend on what the fold began with
  value-any : (x z : T) (u : ℕ) (ys : List T) → (keep ltb g x u ys).1 ≡ (keep ltb g z u ys).1
  unfolding keep
  value-any x z u [] = refl
  value-any x z u (y ∷ ys) = go (ltb u (g y)) (value-any x z u ys)
    where
      go : (b : Bool) → (keep ltb g x u ys).1 ≡ (keep ltb g z u ys).1
          → (elim b as (λ _. T × ℕ) [ true ↦ keep ltb g y (g y) ys | false ↦ keep ltb g x u ys ]).1
          ≡ (elim b as (λ _. T × ℕ) [ true ↦ keep ltb g y (g y) ys | false ↦ keep ltb g z u ys ]).1
      go true p = refl
      go false p = p

  -- a fold that begins with no less than what another one finds keeps what it began with
  pub keep_low : (z : T) (w : ℕ) (x : T) (u : ℕ) (ys : List T) → (keep ltb g z w ys).1 ≤ u → keep ltb g x u ys ≡ (x, u)
  unfolding keep
  keep_low z w x u [] h = refl
  keep_low z w x u (y ∷ ys) h =
      go (ltb w (g y)) (ltb u (g y)) refl refl (keep_low y (g y) x u ys) (keep_low z w x u ys) h
    where
      go : (a b : Bool) → ltb w (g y) ≡ a → ltb u (g y) ≡ b
          → ((keep ltb g y (g y) ys).1 ≤ u → keep ltb g x u ys ≡ (x, u))
          → ((keep ltb g z w ys).1 ≤ u → keep ltb g x u ys ≡ (x, u))
          → (elim a as (λ _. T × ℕ) [ true ↦ keep ltb g y (g y) ys | false ↦ keep ltb g z w ys ]).1 ≤ u
          → ◌≡◌ {A = T × ℕ} (elim b as (λ _. T × ℕ) [ true ↦ keep ltb g y (g y) ys | false ↦ keep ltb g x u ys ]) (x, u)
      go true true ea eb p q h =
          let l = ltb-true u (g y) eb in let m = keep-grows y (g y) ys in absurd (omega arith)
      go true false ea eb p q h = p h
      go false true ea eb p q h =
          let l = ltb-true u (g y) eb in let k = ltb-false w (g y) ea in let m = keep-grows z w ys in absurd (omega arith)
      go false false ea eb p q h = q h

  -- two folds that begin with less than one of them finds end alike
  pub keep-any : (z : T) (w : ℕ) (x : T) (u : ℕ) (ys : List T) → w < (keep ltb g z w ys).1 → u < (keep ltb g z w ys).1
      → keep ltb g x u ys ≡ keep ltb g z w ys
  unfolding keep
  keep-any z w x u [] h k = absurd (omega arith)
  keep-any z w x u (y ∷ ys) h k =
      go (ltb w (g y)) (ltb u (g y)) refl refl (keep-any y (g y) x u ys) (keep-any z w y (g y) ys) (keep-any z w x u ys) h k
    where
      go : (a b : Bool) → ltb w (g y) ≡ a → ltb u (g y) ≡ b
          → (g y < (keep ltb g y (g y) ys).1 → u < (keep ltb g y (g y) ys).1 → keep ltb g x u ys ≡ keep ltb g y (g y) ys)
          → (w < (keep ltb g z w ys).1 → g y < (keep ltb g z w ys).1 → keep ltb g y (g y) ys ≡ keep ltb g z w ys)
          → (w < (keep ltb g z w ys).1 → u < (keep ltb g z w ys).1 → keep ltb g x u ys ≡ keep ltb g z w ys)
          → w < (elim a as (λ _. T × ℕ) [ true ↦ keep ltb g y (g y) ys | false ↦ keep ltb g z w ys ]).1
          → u < (elim a as (λ _. T × ℕ) [ true ↦ keep ltb g y (g y) ys | false ↦ keep ltb g z w ys ]).1
          → ◌≡◌ {A = T × ℕ} (elim b as (λ _. T × ℕ) [ true ↦ keep ltb g y (g y) ys | false ↦ keep ltb g x u ys ])
          (elim a as (λ _. T × ℕ) [ true ↦ keep ltb g y (g y) ys | false ↦ keep ltb g z w ys ])
      go true true ea eb p q r h k = refl
      go true false ea eb p q r h k = let l = ltb-false u (g y) eb in p (omega arith) k
      go false true ea eb p q r h k = let l = ltb-false w (g y) ea in q h (omega arith)
      go false false ea eb p q r h k = r h k

-- a step keeps one of the two
pub kept_in : (x y u s at val m : ℕ) → (at, val) ≡ kept1 (λ _. s) x u y → x < m → y < m → at < m
unfolding kept1
kept_in x y u s at val m e hx hy = go (ltb u s) e
  where
    go : (b : Bool) → ◌≡◌ {A = ℕ × ℕ} (at, val) (elim b as (λ _. ℕ × ℕ) [ true ↦ (y, s) | false ↦ (x, u) ]) → at < m
    go true e = subst (λ (k : ℕ). k < m) (sym (ap (λ (q : ℕ × ℕ). q.0) e)) hy
    go false e = subst (λ (k : ℕ). k < m) (sym (ap (λ (q : ℕ × ℕ). q.0) e)) hx

-- the greater of two numbers is one of them
-- ---- points
module _ (g : ℕ → ℕ) where
  pub keep-begin : (x n u : ℕ) → keep ltb g x u (range 0 (n - 0)) ≡ keep ltb g x u (range 0 n)
  keep-begin x n u = ap (λ (k : ℕ). keep ltb g x u (range 0 k)) (all n)

  pub keep-turn : (n i x y u w : ℕ) → i < n → (y, w) ≡ kept1 g x u i
      → keep ltb g y w (range (i + 1) (n - (i + 1))) ≡ keep ltb g x u (range i (n - i))
  keep-turn n i x y u w h e =
      ap (λ (q : ℕ × ℕ). keep ltb g q.0 q.1 (range (i + 1) (n - (i + 1)))) e
      ∙ ap (λ (k : ℕ). keep ltb g (kept1 g x u i).0 (kept1 g x u i).1 (range k (n - (i + 1)))) (sym (up i))
      ∙ sym (keep_one g x u i (range (suc i) (n - (i + 1))))
      ∙ ap (λ (k : ℕ). keep ltb g x u (range i k)) (sym (one_less n i h))

  pub keep-end : (n i x u : ℕ) → n ≤ i → (x, u) ≡ keep ltb g x u (range i (n - i))
  unfolding keep
  keep-end n i x u h = ap (λ (k : ℕ). keep ltb g x u (range i k)) (sym (none_left n i h))

-- ---- pairs, of which every value is above 0
module _ (g : ℕ × ℕ → ℕ) (some : (q : ℕ × ℕ) → 0 < g q) (n : ℕ) where
  -- the pairs of i with j and later points
  abbrev pub row : ℕ → ℕ → List (ℕ × ℕ)
  row i j = map (with-i i) (range j (n - j))

  row_first : (i j : ℕ) → j < n → row i j ≡ (i, j) ∷ row i (j + 1)
  row_first i j h =
      ap (λ (k : ℕ). map (with-i i) (range j k)) (one_less n j h)
      ∙ ap (λ (k : ℕ). (i, j) ∷ map (with-i i) (range k (n - (j + 1)))) (up j)

  row-none : (i j : ℕ) → n ≤ j → row i j ≡ []
  row-none i j h = ap (λ (k : ℕ). map (with-i i) (range j k)) (none_left n j h)

  -- what a fold finds that begins with nothing
  abbrev pub found : ℕ → ℕ → (ℕ × ℕ) × ℕ
  found i j = keep ltb g (0, 0) 0 (row i j)

  found_first : (i j : ℕ) → j < n → found i j ≡ keep ltb g (i, j) (g (i, j)) (row i (j + 1))
  found_first i j h =
      ap (keep ltb g (0, 0) 0) (row_first i j h) ∙ keep_one g (0, 0) 0 (i, j) (row i (j + 1))
      ∙ ap (λ (q : (ℕ × ℕ) × ℕ). keep ltb g q.0 q.1 (row i (j + 1))) (sym (kept-yes g (0, 0) (i, j) 0 (g (i, j)) refl (some (i, j))))

  -- the greatest value of a row, from 1 on
  abbrev from : ℕ → ℕ → ℕ → ℕ
  from i j m = (keep ltb g (0, 0) (m + 1) (row i j)).1

  -- the same after the first pair
  abbrev rest : ℕ → ℕ → (ℕ × ℕ) × ℕ → ℕ
  rest i j q = (keep ltb g q.0 q.1 (row i (j + 1))).1

  pub reach-turn : (i j m d r : ℕ) → j < n → d + 1 ≡ g (i, j) → r ≡ max m d → from i (j + 1) r ≡ from i j m
  reach-turn i j m d r h e is =
      go (ltb m d) refl
      ∙ sym (ap (λ (l : List (ℕ × ℕ)). (keep ltb g (0, 0) (m + 1) l).1) (row_first i j h)
      ∙ ap (λ (q : (ℕ × ℕ) × ℕ). q.1) (keep_one g (0, 0) (m + 1) (i, j) (row i (j + 1))))
    where
      go : (b : Bool) → ltb m d ≡ b → from i (j + 1) r ≡ rest i j (kept1 g (0, 0) (m + 1) (i, j))
      go true t =
          let l = ltb-true m d t in
          ap (λ (k : ℕ). from i (j + 1) k) (let z : r ≡ d = omega arith in z) ∙ value-any g (0, 0) (i, j) (d + 1) (row i (j + 1))
          ∙ ap (rest i j) (kept-yes g (0, 0) (i, j) (m + 1) (d + 1) e (omega arith))
      go false t =
          let l = ltb-false m d t in
          ap (λ (k : ℕ). from i (j + 1) k) (let z : r ≡ m = omega arith in z) ∙ ap (rest i j) (kept-no g (0, 0) (i, j) (m + 1) (d + 1) e (omega arith))

  pub reach-begin : (i j : ℕ) → j < n → from i j 0 ≡ (found i j).1
  reach-begin i j h =
      ap (λ (l : List (ℕ × ℕ)). (keep ltb g (0, 0) 1 l).1) (row_first i j h)
      ∙ ap (λ (q : (ℕ × ℕ) × ℕ). q.1) (keep_one g (0, 0) 1 (i, j) (row i (j + 1)))
      ∙ go (ltb 1 (g (i, j))) refl
      ∙ sym (ap (λ (q : (ℕ × ℕ) × ℕ). q.1) (found_first i j h))
    where
      go : (b : Bool) → ltb 1 (g (i, j)) ≡ b → rest i j (kept1 g (0, 0) 1 (i, j)) ≡ rest i j ((i, j), g (i, j))
      go true t = sym (ap (rest i j) (kept-yes g (0, 0) (i, j) 1 (g (i, j)) refl (ltb-true 1 (g (i, j)) t)))
      go false t =
          let l = ltb-false 1 (g (i, j)) t in
          let s = some (i, j) in
          let z : 1 ≡ g (i, j) = omega arith in
          sym (ap (rest i j) (kept-no g (0, 0) (i, j) 1 (g (i, j)) refl l))
          ∙ value-any g (0, 0) (i, j) 1 (row i (j + 1))
          ∙ ap (λ (k : ℕ). rest i j ((i, j), k)) z

  pub reach-end : (i j m : ℕ) → n ≤ j → m + 1 ≡ from i j m
  unfolding keep
  reach-end i j m h = sym (ap (λ (l : List (ℕ × ℕ)). (keep ltb g (0, 0) (m + 1) l).1) (row-none i j h))

  -- the first of the greatest of a row
  row_more : (i j far : ℕ) (x : ℕ × ℕ) (u : ℕ) → (keep ltb g x u (row i j)).1 ≡ far → u < far → j < n
  unfolding keep
  row_more i j far x u e l = go (ltb j n) refl
    where
      go : (b : Bool) → ltb j n ≡ b → j < n
      go true t = ltb-true j n t
      go false t =
          let z = ap (λ (q : List (ℕ × ℕ)). (keep ltb g x u q).1) (row-none i j (ltb-false j n t)) in
          absurd (omega (arith, z, e))

  pub partner-turn : (i j far : ℕ) → j < n → far ≡ (found i j).1 → g (i, j) < far → (j + 1 < n) × (found i (j + 1) ≡ found i j)
  partner-turn i j far h e l =
      let f = found_first i j h in
      let v : (keep ltb g (i, j) (g (i, j)) (row i (j + 1))).1 ≡ far = sym (e ∙ ap (λ (q : (ℕ × ℕ) × ℕ). q.1) f) in (
        row_more i (j + 1) far (i, j) (g (i, j)) v l,
        keep-any g (i, j) (g (i, j)) (0, 0) 0 (row i (j + 1)) (omega (arith, v)) (omega (arith, v)) ∙ sym f,
      )

  pub partner-end : (i j far : ℕ) → j < n → far ≡ (found i j).1 → far ≤ g (i, j) → ((i, j), far) ≡ found i j
  partner-end i j far h e l =
      let f = found_first i j h in
      let v : (keep ltb g (i, j) (g (i, j)) (row i (j + 1))).1 ≡ far = sym (e ∙ ap (λ (q : (ℕ × ℕ) × ℕ). q.1) f) in
      let k = f ∙ keep_low g (i, j) (g (i, j)) (i, j) (g (i, j)) (row i (j + 1)) (omega (arith, v)) in
      ap (λ (w : ℕ). ((i, j), w)) (e ∙ ap (λ (q : (ℕ × ℕ) × ℕ). q.1) k) ∙ sym k

  -- all pairs, a row at a time
  abbrev top : ℕ → ℕ
  top i = (found i (i + 1)).1

  row_of : (i k : ℕ) → i + suc k ≡ n → map (with-i i) (range (suc i) k) ≡ row i (i + 1)
  row_of i k e = let z : k ≡ n - (i + 1) = omega arith in
      ap (λ (j : ℕ). map (with-i i) (range j k)) (up i) ∙ ap (λ (j : ℕ). map (with-i i) (range (i + 1) j)) z

  abbrev rows : ℕ → ℕ → (ℕ × ℕ) × ℕ → (ℕ × ℕ) × ℕ
  rows i k q = keep ltb g q.0 q.1 (index_pairs i k)

  abbrev row_at : ℕ × ℕ → (ℕ × ℕ) × ℕ
  row_at q = found q.0 (q.0 + 1)

  rows-from : (k i a : ℕ) → i + suc k ≡ n
      → keep ltb g (found a (a + 1)).0 (top a) (index_pairs i (suc k)) ≡ row_at (keep ltb top a (top a) (range i k))
  unfolding keep
  rows-from zero i a e = refl
  rows-from (suc k) i a e =
      keep_append g (found a (a + 1)).0 (top a) (map (with-i i) (range (suc i) (suc k))) (index_pairs (suc i) (suc k))
      ∙ ap (λ (l : List (ℕ × ℕ)). rows (suc i) (suc k) (keep ltb g (found a (a + 1)).0 (top a) l)) (row_of i (suc k) e)
      ∙ go (ltb (top a) (top i)) refl (rows-from k (suc i) i (omega arith)) (rows-from k (suc i) a (omega arith))
    where
      go : (b : Bool) → ltb (top a) (top i) ≡ b
          → rows (suc i) (suc k) (found i (i + 1)) ≡ row_at (keep ltb top i (top i) (range (suc i) k))
          → rows (suc i) (suc k) (found a (a + 1)) ≡ row_at (keep ltb top a (top a) (range (suc i) k))
          → rows (suc i) (suc k) (keep ltb g (found a (a + 1)).0 (top a) (row i (i + 1)))
          ≡ row_at (elim b as (λ _. ℕ × ℕ) [ true ↦ keep ltb top i (top i) (range (suc i) k) | false ↦ keep ltb top a (top a) (range (suc i) k) ])
      go true t p q =
          let l = ltb-true (top a) (top i) t in
          ap (rows (suc i) (suc k)) (keep-any g (0, 0) 0 (found a (a + 1)).0 (top a) (row i (i + 1)) (omega arith) l) ∙ p
      go false t p q =
          ap (rows (suc i) (suc k)) (keep_low g (0, 0) 0 (found a (a + 1)).0 (top a) (row i (i + 1)) (ltb-false (top a) (top i) t)) ∙ q

  module _ (m : ℕ) (z : n ≡ suc (suc m)) where
    top-some : 0 < top 0
    top-some =
        let f = ap (λ (q : (ℕ × ℕ) × ℕ). q.1) (found_first 0 1 (omega arith)) in
        let k = keep-grows g (0, 1) (g (0, 1)) (row 0 2) in
        let l = some (0, 1) in
        omega (arith, f, k, l)

    fold_is : keep ltb top 0 0 (range 0 (n - 1)) ≡ keep ltb top 0 (top 0) (range 1 m)
    fold_is =
        let e : n - 1 ≡ suc m = omega arith in
        ap (λ (k : ℕ). keep ltb top 0 0 (range 0 k)) e
        ∙ keep_one top 0 0 0 (range 1 m)
        ∙ ap (λ (q : ℕ × ℕ). keep ltb top q.0 q.1 (range 1 m)) (sym (kept-yes top 0 0 0 (top 0) refl top-some))

    all-is : keep ltb g (0, 0) 0 (index_pairs 0 n) ≡ row_at (keep ltb top 0 (top 0) (range 1 m))
    all-is =
        ap (λ (k : ℕ). keep ltb g (0, 0) 0 (index_pairs 0 k)) z
        ∙ keep_append g (0, 0) 0 (map (with-i 0) (range 1 (suc m))) (index_pairs 1 (suc m))
        ∙ ap (λ (l : List (ℕ × ℕ)). rows 1 (suc m) (keep ltb g (0, 0) 0 l)) (row_of 0 (suc m) (omega arith))
        ∙ rows-from m 1 0 (omega arith)

  pub rows_are : (a far : ℕ) → 1 < n → (a, far) ≡ keep ltb top 0 0 (range 0 (n - 1))
      → (far ≡ top a) × (found a (a + 1) ≡ keep ltb g (0, 0) 0 (index_pairs 0 n))
  rows_are a far h e =
      let z : n ≡ suc (suc (n - 2)) = omega arith in
      let f = e ∙ fold_is (n - 2) z in (
        ap (λ (q : ℕ × ℕ). q.1) f ∙ keep-value top 0 (top 0) (range 1 (n - 2)) refl ∙ sym (ap (λ (q : ℕ × ℕ). top q.0) f),
        ap row_at f ∙ sym (all-is (n - 2) z),
      )
