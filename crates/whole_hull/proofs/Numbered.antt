-- Vertices by their number, and lists made from numbers.
--     links-full, links-at, links-first, rising, first-less   the places of a chain
--     up_to-cons, up_to-map, way_up        lists f 0, .. , f (n − 1), and a way along them
--     All, all_append, all-up_to          every element passes
--     lex-below, lex-left                the order by x, then y
-- Assumes nothing.
use mathlib.Core.Path.{◌≡◌, refl, ap, ◌∙◌, subst}
use mathlib.Core.Logic.{◌⊎◌, inl, inr}
use mathlib.Core.List.{List, [], ◌∷◌, ◌++◌, map}
use Prim.Native.Nat.{ℕ, zero, suc, ◌≤◌, ◌<◌}
use native.Mathlib.Omega.{arith}
use lib.ListN.{get_or}
use lib.IntN.{pos}
use Rattle.laws.specs.Lists.{stack_of}
use Rattle.laws.proofs.Bools.{le-or-lt}
use Rattle.laws.proofs.Stores.{map-append}
use Rattle.whole.specs.Numbers.{◌⊕◌, neg}
use Rattle.whole.specs.Points.{Pt, Mem, LexLe}
use Rattle.whole.proofs.Sums.{⊕-neg}
use Rattle.whole.proofs.Edge.{Edge}
use Rattle.hull.specs.Points.{pt_of}
use Rattle.whole_hull.specs.Inner.{Full, Right, Links, list_up_to}
use Rattle.whole_hull.proofs.Turns.{nn-sub, pp-sub}
use Rattle.whole_hull.proofs.Ways.{Way, way-snoc}

-- ---- the vertices by their number
module _ (A : ℕ → ℕ) (e : ℕ) (s : List ℕ) where
  abbrev pub S : ℕ → ℕ
  S i = get_or s i 0

  pub links-full : (n : ℕ) → Links A e (stack_of s (suc n)) → (i : ℕ) → i ≤ n → Full A (S i)
  unfolding stack_of
  links-full zero k i l = let z : 0 ≡ i = omega arith in subst (λ (i : ℕ). Full A (S i)) z k.0
  links-full (suc n) k i l = go (le-or-lt i n) (links-full n k.4 i)
    where
      go : (i ≤ n) ⊎ (n < i) → (i ≤ n → Full A (S i)) → Full A (S i)
      go (inl b) ih = ih b
      go (inr b) ih = let z : suc n ≡ i = omega arith in subst (λ (i : ℕ). Full A (S i)) z k.0

  pub links-at : (n : ℕ) → Links A e (stack_of s (suc n)) → (i : ℕ) → i < n
      → (S i < S (suc i)) × ((w : ℕ) → w < e → Full A w → Right A (S i) (S (suc i)) w)
  unfolding stack_of
  links-at zero k i l = absurd (omega arith)
  links-at (suc n) k i l = go (le-or-lt n i) (links-at n k.4 i)
    where
      go : (n ≤ i) ⊎ (i < n)
          → (i < n → (S i < S (suc i)) × ((w : ℕ) → w < e → Full A w → Right A (S i) (S (suc i)) w))
          → (S i < S (suc i)) × ((w : ℕ) → w < e → Full A w → Right A (S i) (S (suc i)) w)
      go (inl b) ih =
          let z : n ≡ i = omega arith in
          subst (λ (i : ℕ). (S i < S (suc i)) × ((w : ℕ) → w < e → Full A w → Right A (S i) (S (suc i)) w)) z (k.2, k.3)
      go (inr b) ih = ih b

  pub links-first : (n : ℕ) → Links A e (stack_of s (suc n)) → (w : ℕ) → w < e → Full A w → S 0 ≤ w
  unfolding stack_of
  links-first zero k w l f = k.2 w l f
  links-first (suc n) k w l f = links-first n k.4 w l f

  pub rising : (n : ℕ) → Links A e (stack_of s (suc n)) → (i : ℕ) → i < n → S i < S n
  unfolding stack_of
  rising zero k i l = absurd (omega arith)
  rising (suc n) k i l = go (le-or-lt n i) (rising n k.4 i)
    where
      go : (n ≤ i) ⊎ (i < n) → (i < n → S i < S n) → S i < S (suc n)
      go (inl b) ih = let z : n ≡ i = omega arith in subst (λ (i : ℕ). S i < S (suc n)) z k.2
      go (inr b) ih = let r = ih b in let q = k.2 in omega arith

  pub first-less : (n : ℕ) → Links A e (stack_of s (suc n)) → (i : ℕ) → 0 < i → i ≤ n → S 0 < S i
  unfolding stack_of
  first-less zero k i a l = absurd (omega arith)
  first-less (suc n) k i a l = go (le-or-lt i n) (first-less n k.4 i a)
    where
      go : (i ≤ n) ⊎ (n < i) → (i ≤ n → S 0 < S i) → S 0 < S i
      go (inl b) ih = ih b
      go (inr b) ih = let z : suc n ≡ i = omega arith in subst (λ (i : ℕ). S 0 < S i) z (rising (suc n) k 0 (omega arith))

-- ---- lists
pub up_to-cons : {B : Type 0} (f : ℕ → B) (n : ℕ) → list_up_to f (suc n) ≡ f 0 ∷ list_up_to (λ i. f (suc i)) n
unfolding list_up_to
up_to-cons f zero = refl
up_to-cons {B} f (suc n) = ap (λ (l : List B). l ++ (f (suc n) ∷ [])) (up_to-cons f n)

pub up_to-map : {B C : Type 0} (g : B → C) (f : ℕ → B) (n : ℕ) → map g (list_up_to f n) ≡ list_up_to (λ i. g (f i)) n
unfolding list_up_to
up_to-map g f zero = refl
up_to-map {B} {C} g f (suc n) = map-append g (list_up_to f n) (f n ∷ []) ∙ ap (λ (l : List C). l ++ (g (f n) ∷ [])) (up_to-map g f n)

pub way_up : (P : List Pt) (f : ℕ → Pt) (n : ℕ) → ((i : ℕ) → i ≤ n → Mem (f i) P) → ((i : ℕ) → i < n → Edge P (f i) (f (suc i)))
    → Way P (f 0) (list_up_to f n) (f n)
unfolding list_up_to
way_up P f zero m e = refl
way_up P f (suc n) m e =
    way-snoc P (f 0) (f n) (f (suc n)) (list_up_to f n) (way_up P f n (λ i l. m i (omega arith)) (λ i l. e i (omega arith))) (m n (omega arith))
    (e n (omega arith))

-- every element of a list passes
abbrev pub All : {B : Type 0} → (B → Type 0) → List B → Type 0
All R [] = Unit {0}
All R (q ∷ l) = R q × All R l

pub all_append : {B : Type 0} (R : B → Type 0) (l m : List B) → All R l → All R m → All R (l ++ m)
all_append R [] m h k = k
all_append R (q ∷ l) m h k = (h.0, all_append R l m h.1 k)

pub all-up_to : {B : Type 0} (R : B → Type 0) (f : ℕ → B) (n : ℕ) → ((i : ℕ) → i < n → R (f i)) → All R (list_up_to f n)
unfolding list_up_to
all-up_to R f zero h = tt
all-up_to R f (suc n) h = all_append R (list_up_to f n) (f n ∷ []) (all-up_to R f n (λ i l. h i (omega arith))) (h n (omega arith), tt)

-- ---- the order by x, then y
pub lex-below : (x y u w : ℕ) → u ≡ x → y ≤ w → LexLe (pt_of (x, y)) (pt_of (u, w))
unfolding pt_of
lex-below x y u w e l = inr (ap (λ (n : ℕ). pos n ⊕ neg (pos x)) e ∙ ⊕-neg (pos x), nn-sub w y l)

pub lex-left : (x y u w : ℕ) → x < u → LexLe (pt_of (x, y)) (pt_of (u, w))
unfolding pt_of
lex-left x y u w l = inl (pp-sub u x l)
