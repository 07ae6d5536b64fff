-- The folds of the quad, a step at a time. keep_append, keep-begin, keep-turn, keep-end; kept-yes, kept-no; pair-begin .. pairs_end;
-- quad-few, quad-over, quad-under, quad-on, quad-back.
--     keep_append, keep-begin, keep-turn, keep-end
--     one candidate: kept-yes, kept-no, keeps-under, keeps-over
--     pairs: a row of pairs, then the rows after it: row, pair_turn, pair_end, pairs-begin, pairs-turn, pairs_end, pair-yes, pair-no,
--     minus_one_lem
--     the whole rule: quad-few, quad-over, quad-under, quad-on, quad-back
-- Assumes nothing.
use mathlib.Core.Path.{◌≡◌, refl, sym, ap, ◌∙◌}
use mathlib.Core.Bool.{Bool, true, false, not, ◌&&◌}
use mathlib.Core.List.{List, [], ◌∷◌, ◌++◌, map}
use Prim.Native.Nat.{ℕ, suc, ◌+◌, ◌-◌, ◌≤◌, ◌<◌}
use native.Mathlib.Omega.{arith}
use lib.Ieee.{Float, lt, le, neg, of_bits, binary32}
use borrow.Author.Tests.{lt-ltb, le-ltb}
use Rattle.laws.specs.Lists.{range}
use Rattle.ieee.specs.Constants.{0f}
use Rattle.laws.proofs.Steps.{one_less, none_left}
use Rattle.whole.specs.Walk.{keep, index_pairs, with-i, farthest_with, ends, quad_with}
use Rattle.hull.specs.Points.{many}
use Rattle.hull.specs.Hull.{cross_at, d2_at}
use Rattle.hull.specs.Quad.{area_at, quad_ops, quad_of, minus_one}
use Rattle.hull.specs.Inner.{keeps, kept1, apart, kept2}

up : (i : ℕ) → suc i ≡ i + 1
up i = omega arith

all : (n : ℕ) → n - 0 ≡ n
all n = omega arith

-- a fold over one list after the other
pub keep_append : {T : Type 0} (t : Float → Float → Bool) (g : T → Float) (x : T) (u : Float) (l m : List T)
    → keep t g x u (l ++ m) ≡ keep t g (keep t g x u l).0 (keep t g x u l).1 m
unfolding keep
keep_append t g x u [] m = refl
keep_append {T} t g x u (y ∷ l) m = go (t u (g y)) (keep_append t g y (g y) l m) (keep_append t g x u l m)
  where
    go : (b : Bool) → keep t g y (g y) (l ++ m) ≡ keep t g (keep t g y (g y) l).0 (keep t g y (g y) l).1 m
        → keep t g x u (l ++ m) ≡ keep t g (keep t g x u l).0 (keep t g x u l).1 m
        → ◌≡◌ {A = T × Float} (elim b as (λ _. T × Float) [ true ↦ keep t g y (g y) (l ++ m) | false ↦ keep t g x u (l ++ m) ])
        (keep t g (elim b as (λ _. T × Float) [ true ↦ keep t g y (g y) l | false ↦ keep t g x u l ]).0
        (elim b as (λ _. T × Float) [ true ↦ keep t g y (g y) l | false ↦ keep t g x u l ]).1 m)
    go true p q = p
    go false p q = q

module _ (t : Float → Float → Bool) (g : ℕ → Float) where
  keep_one : (x : ℕ) (u : Float) (i : ℕ) (is : List ℕ) → keep t g x u (i ∷ is) ≡ keep t g (kept1 t g x u i).0 (kept1 t g x u i).1 is
  unfolding keep kept1
  keep_one x u i is = go (t u (g i))
    where
      go : (b : Bool) → ◌≡◌ {A = ℕ × Float} (elim b as (λ _. ℕ × Float) [ true ↦ keep t g i (g i) is | false ↦ keep t g x u is ])
          (keep t g (elim b as (λ _. ℕ × Float) [ true ↦ (i, g i) | false ↦ (x, u) ]).0
          (elim b as (λ _. ℕ × Float) [ true ↦ (i, g i) | false ↦ (x, u) ]).1 is)
      go true = refl
      go false = refl

  pub keep-begin : (x n : ℕ) (u : Float) → keep t g x u (range 0 (n - 0)) ≡ keep t g x u (range 0 n)
  keep-begin x n u = ap (λ (k : ℕ). keep t g x u (range 0 k)) (all n)

  pub keep-turn : (n i x y : ℕ) (u w : Float) → i < n → (y, w) ≡ kept1 t g x u i
      → keep t g y w (range (i + 1) (n - (i + 1))) ≡ keep t g x u (range i (n - i))
  keep-turn n i x y u w h e =
      ap (λ (q : ℕ × Float). keep t g q.0 q.1 (range (i + 1) (n - (i + 1)))) e
      ∙ ap (λ (k : ℕ). keep t g (kept1 t g x u i).0 (kept1 t g x u i).1 (range k (n - (i + 1)))) (sym (up i))
      ∙ sym (keep_one x u i (range (suc i) (n - (i + 1))))
      ∙ ap (λ (k : ℕ). keep t g x u (range i k)) (sym (one_less n i h))

  pub keep-end : (n i x : ℕ) (u : Float) → n ≤ i → (x, u) ≡ keep t g x u (range i (n - i))
  unfolding keep
  keep-end n i x u h = ap (λ (k : ℕ). keep t g x u (range i k)) (sym (none_left n i h))

-- ---- one candidate
pub kept-yes : (t : Float → Float → Bool) (g : ℕ → Float) (x i : ℕ) (u s : Float) → s ≡ g i → t u s ≡ true → (i, s) ≡ kept1 t g x u i
unfolding kept1
kept-yes t g x i u s e h = let k : t u (g i) ≡ true =
    ap (t u) (sym e) ∙ h in ap (λ (w : Float). (i, w)) e
    ∙ sym (ap (λ (b : Bool). elim b as (λ _. ℕ × Float) [ true ↦ (i, g i) | false ↦ (x, u) ]) k)

pub kept-no : (t : Float → Float → Bool) (g : ℕ → Float) (x i : ℕ) (u s : Float) → s ≡ g i → t u s ≡ false → (x, u) ≡ kept1 t g x u i
unfolding kept1
kept-no t g x i u s e h = let k : t u (g i) ≡ false =
    ap (t u) (sym e) ∙ h in sym (ap (λ (b : Bool). elim b as (λ _. ℕ × Float) [ true ↦ (i, g i) | false ↦ (x, u) ]) k)

pub keeps-under : (under b : Bool) (u s : Float) → under ≡ true → lt s u ≡ b → keeps under u s ≡ b
keeps-under true b u s e h = h
keeps-under false b u s e h = absurd (mathlib.Core.Bool.false≢true e)

pub keeps-over : (under b : Bool) (u s : Float) → under ≡ false → lt u s ≡ b → keeps under u s ≡ b
keeps-over false b u s e h = h
keeps-over true b u s e h = absurd (mathlib.Core.Bool.true≢false e)

-- ---- pairs: a row of pairs, then the rows after it
module _ (p : List Float) where
  keep_pair : (a b i j : ℕ) (far : Float) (l : List (ℕ × ℕ))
      → keep lt (apart p) (a, b) far ((i, j) ∷ l) ≡ keep lt (apart p) (kept2 p a b far i j).0 (kept2 p a b far i j).1 l
  unfolding keep kept2
  keep_pair a b i j far l = go (lt far (d2_at p i j))
    where
      go : (t : Bool) → ◌≡◌ {A = (ℕ × ℕ) × Float}
          (elim t as (λ _. (ℕ × ℕ) × Float) [ true ↦ keep lt (apart p) (i, j) (d2_at p i j) l | false ↦ keep lt (apart p) (a, b) far l ])
          (keep lt (apart p) (elim t as (λ _. (ℕ × ℕ) × Float) [ true ↦ ((i, j), d2_at p i j) | false ↦ ((a, b), far) ]).0
          (elim t as (λ _. (ℕ × ℕ) × Float) [ true ↦ ((i, j), d2_at p i j) | false ↦ ((a, b), far) ]).1 l)
      go true = refl
      go false = refl

  -- the pairs of i from j on
  abbrev pub row : ℕ → ℕ → ℕ → List (ℕ × ℕ)
  row n i j = map (with-i i) (range j (n - j))

  pub pair_turn : (n i j a b a' b' : ℕ) (far far' : Float) → j < n → ((a', b'), far') ≡ kept2 p a b far i j
      → keep lt (apart p) (a', b') far' (row n i (j + 1)) ≡ keep lt (apart p) (a, b) far (row n i j)
  pair_turn n i j a b a' b' far far' h e =
      ap (λ (q : (ℕ × ℕ) × Float). keep lt (apart p) q.0 q.1 (row n i (j + 1))) e
      ∙ sym (keep_pair a b i j far (row n i (j + 1)))
      ∙ ap (λ (k : ℕ). keep lt (apart p) (a, b) far ((i, j) ∷ map (with-i i) (range k (n - (j + 1))))) (sym (up j))
      ∙ ap (λ (k : ℕ). keep lt (apart p) (a, b) far (map (with-i i) (range j k))) (sym (one_less n j h))

  pub pair_end : (n i j a b : ℕ) (far : Float) → n ≤ j → ((a, b), far) ≡ keep lt (apart p) (a, b) far (row n i j)
  unfolding keep
  pair_end n i j a b far h = ap (λ (k : ℕ). keep lt (apart p) (a, b) far (map (with-i i) (range j k))) (sym (none_left n j h))

  pub pairs-begin : (n a b : ℕ) (far : Float) → keep lt (apart p) (a, b) far (index_pairs 0 (n - 0)) ≡ keep lt (apart p) (a, b) far (index_pairs 0 n)
  pairs-begin n a b far = ap (λ (k : ℕ). keep lt (apart p) (a, b) far (index_pairs 0 k)) (all n)

  pub pairs-turn : (n i a b a' b' : ℕ) (far far' : Float) → i < n → ((a', b'), far') ≡ keep lt (apart p) (a, b) far (row n i (i + 1))
      → keep lt (apart p) (a', b') far' (index_pairs (i + 1) (n - (i + 1))) ≡ keep lt (apart p) (a, b) far (index_pairs i (n - i))
  pairs-turn n i a b a' b' far far' h e =
      ap (λ (q : (ℕ × ℕ) × Float). keep lt (apart p) q.0 q.1 (index_pairs (i + 1) (n - (i + 1)))) e
      ∙ sym (keep_append lt (apart p) (a, b) far (row n i (i + 1)) (index_pairs (i + 1) (n - (i + 1))))
      ∙ ap (λ (k : ℕ). keep lt (apart p) (a, b) far (map (with-i i) (range k (n - (i + 1))) ++ index_pairs k (n - (i + 1)))) (sym (up i))
      ∙ ap (λ (k : ℕ). keep lt (apart p) (a, b) far (index_pairs i k)) (sym (one_less n i h))

  pub pairs_end : (n i a b : ℕ) (far : Float) → n ≤ i → ((a, b), far) ≡ keep lt (apart p) (a, b) far (index_pairs i (n - i))
  unfolding keep
  pairs_end n i a b far h = ap (λ (k : ℕ). keep lt (apart p) (a, b) far (index_pairs i k)) (sym (none_left n i h))

  pub pair-yes : (a b i j : ℕ) (far d : Float) → d ≡ d2_at p i j → lt far d ≡ true → ((i, j), d) ≡ kept2 p a b far i j
  unfolding kept2
  pair-yes a b i j far d e h =
      let k : lt far (d2_at p i j) ≡ true = ap (lt far) (sym e) ∙ h in
      ap (λ (w : Float). ((i, j), w)) e
      ∙ sym (ap (λ (t : Bool). elim t as (λ _. (ℕ × ℕ) × Float) [ true ↦ ((i, j), d2_at p i j) | false ↦ ((a, b), far) ]) k)

  pub pair-no : (a b i j : ℕ) (far d : Float) → d ≡ d2_at p i j → lt far d ≡ false → ((a, b), far) ≡ kept2 p a b far i j
  unfolding kept2
  pair-no a b i j far d e h =
      let k : lt far (d2_at p i j) ≡ false = ap (lt far) (sym e) ∙ h in
      sym (ap (λ (t : Bool). elim t as (λ _. (ℕ × ℕ) × Float) [ true ↦ ((i, j), d2_at p i j) | false ↦ ((a, b), far) ]) k)

-- the code's -1.0
pub minus_one_lem : neg (of_bits binary32 0x3f80_0000) ≡ minus_one
unfolding neg of_bits
minus_one_lem = refl

-- ---- the whole rule
pub quad-few : (p : List Float) → many p < 4 → quad_of p (many p) ≡ []
unfolding quad_of quad_with
quad-few p h =
    ap (λ (b : Bool). elim b as (λ _. List ℕ)
    [ true ↦ [] | false ↦ ends (quad_ops p) (many p) (farthest_with (quad_ops p) (many p)).0 (farthest_with (quad_ops p) (many p)).1 ])
    (lt-ltb (many p) 4 h)

-- the answer from its three tests
shape : Bool → Bool → Bool → ℕ → ℕ → ℕ → ℕ → List ℕ
shape x y z a c b d = elim (x && y) [ false ↦ [] | true ↦ elim z [ false ↦ a ∷ c ∷ b ∷ d ∷ [] | true ↦ a ∷ d ∷ b ∷ c ∷ [] ] ]

module _ (p : List Float) (some : 4 ≤ many p) (a b : ℕ) (far : Float)
    (e : ((a, b), far) ≡ keep lt (apart p) (0, 0) minus_one (index_pairs 0 (many p)))
    (c : ℕ) (u : Float) (ec : (c, u) ≡ keep (keeps false) (cross_at p a b) a 0f (range 0 (many p)))
    (d : ℕ) (w : Float) (ed : (d, w) ≡ keep (keeps true) (cross_at p a b) a 0f (range 0 (many p))) where
  -- which way round
  abbrev backs : Bool
  backs = not (le 0f (area_at p a c b d))

  pair_is : (a, b) ≡ farthest_with (quad_ops p) (many p)
  unfolding farthest_with
  pair_is = ap (λ (q : (ℕ × ℕ) × Float). q.0) e

  ends-are : ends (quad_ops p) (many p) a b ≡ shape (lt 0f u) (lt w 0f) backs a c b d
  unfolding ends shape
  ends-are =
      ap (λ (q : ℕ × Float). shape (lt 0f q.1) (lt under.1 0f) (not (le 0f (area_at p a q.0 b under.0))) a q.0 b under.0)
      (sym ec)
      ∙ ap (λ (q : ℕ × Float). shape (lt 0f u) (lt q.1 0f) (not (le 0f (area_at p a c b q.0))) a c b q.0) (sym ed)
    where
      under : ℕ × Float
      under = keep (keeps true) (cross_at p a b) a 0f (range 0 (many p))

  quad_is : (x y z : Bool) → lt 0f u ≡ x → lt w 0f ≡ y → backs ≡ z → quad_of p (many p) ≡ shape x y z a c b d
  unfolding quad_of quad_with
  quad_is x y z hx hy hz =
      ap (λ (t : Bool). elim t as (λ _. List ℕ)
      [ true ↦ [] | false ↦ ends (quad_ops p) (many p) (farthest_with (quad_ops p) (many p)).0 (farthest_with (quad_ops p) (many p)).1 ])
      (le-ltb (many p) 4 some)
      ∙ ap (λ (q : ℕ × ℕ). ends (quad_ops p) (many p) q.0 q.1) (sym pair_is)
      ∙ ends-are
      ∙ rw (hx, hy, hz)

  pub quad-over : lt 0f u ≡ false → quad_of p (many p) ≡ []
  unfolding shape
  quad-over hx = quad_is false (lt w 0f) backs hx refl refl

  pub quad-under : lt 0f u ≡ true → lt w 0f ≡ false → quad_of p (many p) ≡ []
  unfolding shape
  quad-under hx hy = quad_is true false backs hx hy refl

  pub quad-on : (s : Float) → lt 0f u ≡ true → lt w 0f ≡ true → s ≡ area_at p a c b d → le 0f s ≡ true
      → quad_of p (many p) ≡ a ∷ c ∷ b ∷ d ∷ []
  unfolding shape
  quad-on s hx hy hs h = quad_is true true false hx hy (ap (λ (t : Float). not (le 0f t)) (sym hs) ∙ ap not h)

  pub quad-back : (s : Float) → lt 0f u ≡ true → lt w 0f ≡ true → s ≡ area_at p a c b d → le 0f s ≡ false
      → quad_of p (many p) ≡ a ∷ d ∷ b ∷ c ∷ []
  unfolding shape
  quad-back s hx hy hs h = quad_is true true true hx hy (ap (λ (t : Float). not (le 0f t)) (sym hs) ∙ ap not h)
