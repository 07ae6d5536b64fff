-- The loops, a step at a time.
--     kept_full, kept-pop, kept-stop, kept-few   places that go, by a test of sums of products
--     placed-skip, placed-push           one place more
--     tops-none, tops_step               the least y at each place, one point more
--     lowered-yes, lowered-no, lowered-length    a place that a point makes less
--     seen_back, seen-on                 a coordinate from either end
--     stored-two, numbers-one            one point stored
-- Assumes nothing.
use mathlib.Core.Path.{◌≡◌, refl, sym, ap, ap₂, ◌∙◌, subst}
use mathlib.Core.Logic.{◌⊎◌, inl, inr}
use mathlib.Core.Bool.{Bool, true, false, cond}
use mathlib.Core.List.{List, [], ◌∷◌}
use Prim.Native.Nat.{ℕ, zero, suc, ◌+◌, ◌-◌, ◌*◌, ◌≤◌, ◌<◌}
use native.Mathlib.Omega.{arith}
use native.Mathlib.Decide.{ℕ_discrete}
use lib.Dec.{ltb}
use lib.ListN.{length, get_or, set, replicate, length-set, length-replicate, get_or-replicate}
use lib.Seq.{get_or-set_other, get_or-set_same}
use lib.IntN.{ℤ, pos}
use borrow.Author.Tests.{ltb-true, ltb-false, lt-ltb, le-ltb}
use Rattle.laws.proofs.Lists.{stack_push}
use Rattle.laws.specs.Lists.{stack_of}
use Rattle.laws.specs.Plane.{value_at}
use Rattle.laws.specs.Lent.{Stored}
use Rattle.laws.proofs.Bools.{at-or-below}
use Rattle.whole.specs.Numbers.{◌⊕◌, ◌⊗◌, neg, NN, PP}
use Rattle.whole.specs.Points.{cross}
use Rattle.whole.proofs.Ring.{𝕧, ◌:+◌, ◌:-◌, ◌:*◌, :n, solve}
use Rattle.whole.proofs.Ord.{nn≡, pp≡}
use Rattle.whole.proofs.Turns.{X, Y, C}
use Rattle.hull.specs.Points.{pt_of, numbers_of}
use Rattle.doubled.specs.Points.{x_at, y_at}
use Rattle.whole_hull.specs.Inner.{Full, pt, Links, Chain, ChainReady, Steep, sum_l, sum_r, seen, Tops, lowered}
use Rattle.whole_hull.proofs.Turns.{nn-sub, pp-sub}
use Rattle.whole_hull.proofs.Chains.{ready-pop, chain-skip, chain_first, chain-push}

-- ---- the test
cross-sum : (A : ℕ → ℕ) (u c w : ℕ) → cross (pt A u) (pt A c) (pt A w) ≡ pos (sum_l A u c w) ⊕ neg (pos (sum_r A u c w))
unfolding cross pt_of sum_l sum_r
cross-sum A u c w =
    solve (pos u ∷ pos (A u) ∷ pos c ∷ pos (A c) ∷ pos w ∷ pos (A w) ∷ []) (C 0 1 2)
    ((X 1 :* Y 2 :+ X 2 :* Y 0 :+ X 0 :* Y 1) :- (Y 1 :* X 2 :+ Y 2 :* X 0 :+ Y 0 :* X 1)) refl
    ∙ fold
  where
    fold : (pos c ⊗ pos (A w) ⊕ pos w ⊗ pos (A u) ⊕ pos u ⊗ pos (A c)) ⊕ neg (pos (A c) ⊗ pos w ⊕ pos (A w) ⊗ pos u ⊕ pos (A u) ⊗ pos c)
        ≡ pos (c * A w + w * A u + u * A c) ⊕ neg (pos (A c * w + A w * u + A u * c))
    fold = unfold ◌⊕◌ ◌⊗◌ in refl

back : (a b : ℤ) → b ⊕ neg a ≡ neg (a ⊕ neg b)
back a b = solve (a ∷ b ∷ []) (𝕧 1 :- 𝕧 0) (:n (𝕧 0 :- 𝕧 1)) refl

behind-yes : (A : ℕ → ℕ) (u c w : ℕ) → sum_l A u c w ≤ sum_r A u c w → NN (neg (cross (pt A u) (pt A c) (pt A w)))
behind-yes A u c w l =
    nn≡ (nn-sub (sum_r A u c w) (sum_l A u c w) l) (back (pos (sum_l A u c w)) (pos (sum_r A u c w)) ∙ ap neg (sym (cross-sum A u c w)))

behind-no : (A : ℕ → ℕ) (u c w : ℕ) → sum_r A u c w < sum_l A u c w → PP (cross (pt A u) (pt A c) (pt A w))
behind-no A u c w l = pp≡ (pp-sub (sum_l A u c w) (sum_r A u c w) l) (sym (cross-sum A u c w))

-- ---- places that go
links-head : (A : ℕ → ℕ) (e x : ℕ) (l : List ℕ) → Links A e (x ∷ l) → Full A x
links-head A e x [] k = k.0
links-head A e x (u ∷ l) k = k.0

module _ (A : ℕ → ℕ) (e : ℕ) (f : Full A e) (s : List ℕ) (m : ℕ) (more : 1 < m) where
  two : stack_of s m ≡ get_or s (m - 1) 0 ∷ get_or s (m - 2) 0 ∷ stack_of s (m - 2)
  unfolding stack_of
  two =
      let z : m ≡ suc (suc (m - 2)) = omega arith in
      let y : suc (m - 2) ≡ m - 1 = omega arith in
      ap (stack_of s) z ∙ ap (λ (i : ℕ). get_or s i 0 ∷ get_or s (m - 2) 0 ∷ stack_of s (m - 2)) y

  one : stack_of s (m - 1) ≡ get_or s (m - 2) 0 ∷ stack_of s (m - 2)
  unfolding stack_of
  one = let z : m - 1 ≡ suc (m - 2) = omega arith in ap (stack_of s) z

  pub kept_full : ChainReady A e (stack_of s m)
      → Full A (get_or s (m - 2) 0) × Full A (get_or s (m - 1) 0) × (get_or s (m - 2) 0 < get_or s (m - 1) 0) × (get_or s (m - 1) 0 < e)
  kept_full r =
      let q = subst (ChainReady A e) two r in
      (links-head A e (get_or s (m - 2) 0) (stack_of s (m - 2)) q.0.4, q.0.0, q.0.2, q.0.1)

  pub kept-pop : ChainReady A e (stack_of s m) → sum_l A (get_or s (m - 2) 0) (get_or s (m - 1) 0) e ≤ sum_r A (get_or s (m - 2) 0) (get_or s (m - 1) 0) e
      → ChainReady A e (stack_of s (m - 1))
  kept-pop r l =
      subst (ChainReady A e) (sym one)
      (ready-pop A e f (get_or s (m - 1) 0) (get_or s (m - 2) 0) (stack_of s (m - 2)) (subst (ChainReady A e) two r)
      (behind-yes A (get_or s (m - 2) 0) (get_or s (m - 1) 0) e l))

  pub kept-stop : sum_r A (get_or s (m - 2) 0) (get_or s (m - 1) 0) e < sum_l A (get_or s (m - 2) 0) (get_or s (m - 1) 0) e → Steep A e (stack_of s m)
  kept-stop l = subst (Steep A e) (sym two) (behind-no A (get_or s (m - 2) 0) (get_or s (m - 1) 0) e l)

pub kept-few : (A : ℕ → ℕ) (e : ℕ) (s : List ℕ) (m : ℕ) → m ≤ 1 → Steep A e (stack_of s m)
unfolding stack_of
kept-few A e s zero l = tt
kept-few A e s (suc zero) l = tt
kept-few A e s (suc (suc m)) l = absurd (omega arith)

-- ---- one place more
pub placed-skip : (A : ℕ → ℕ) (e : ℕ) (l : List ℕ) → 8192 < A e → Chain A e l → Chain A (e + 1) l
placed-skip A e l h c = chain-skip A e l (λ f. let z = f.1 in omega arith) c

pub placed-push : (A : ℕ → ℕ) (e : ℕ) (s : List ℕ) (m : ℕ) → Full A e → m < length s → ChainReady A e (stack_of s m) → Steep A e (stack_of s m)
    → Chain A (e + 1) (stack_of (set s m e) (m + 1))
placed-push A e s m f l r h = subst (Chain A (e + 1)) (sym (stack_push s m e l)) (go (stack_of s m) r h)
  where
    go : (l : List ℕ) → ChainReady A e l → Steep A e l → Chain A (e + 1) (e ∷ l)
    go [] r h = chain_first A e f r
    go (x ∷ l) r h = chain-push A e f x l r h

-- ---- the least y at each place
pub tops-none : (o : Bool) (p : List ℕ) → Tops o p 0 (replicate 8193 65535)
tops-none o p = record {
  size = length-replicate {A = ℕ} 8193 65535;
  above = λ i l. absurd (omega arith);
  is = λ x f. absurd (let e = get_or-replicate {A = ℕ} 8193 x 65535 0 f.0 in let z = f.1 in omega arith);
}

module _ (o : Bool) (p : List ℕ) (k : ℕ) (a : List ℕ) (t : Tops o p k a) (x y : ℕ) (ex : x ≡ seen o (x_at p k)) (ey : y ≡ seen o (y_at p k))
    (le : x ≤ 8192) where
  inside : x < length a
  inside = let z = t.size in omega arith

  here : value_at (set a x y) x ≡ y
  here = get_or-set_same a x y 0 inside

  other : (i : ℕ) → (i ≡ x → ⊥) → value_at (set a x y) i ≡ value_at a i
  other i ne = get_or-set_other a x i y 0 ne

  low : y < value_at a x → Tops o p (k + 1) (set a x y)
  low h = record {
    size = length-set a x y ∙ t.size;
    above = λ i l. go i (at-or-below i k (omega arith)) (ℕ_discrete (seen o (x_at p i)) x);
    is = λ w f. was w f (ℕ_discrete w x);
  }
    where
      go : (i : ℕ) → (i ≡ k) ⊎ (i < k) → Dec (seen o (x_at p i) ≡ x) → value_at (set a x y) (seen o (x_at p i)) ≤ seen o (y_at p i)
      go i (inl e) (yes q) =
          let z : value_at (set a x y) (seen o (x_at p i)) ≡ y = ap (value_at (set a x y)) q ∙ here in
          let v : y ≡ seen o (y_at p i) = ey ∙ ap (λ (n : ℕ). seen o (y_at p n)) (sym e) in
          omega arith
      go i (inl e) (no q) = absurd (q (ap (λ (n : ℕ). seen o (x_at p n)) e ∙ sym ex))
      go i (inr b) (yes q) =
          let z : value_at (set a x y) (seen o (x_at p i)) ≡ y = ap (value_at (set a x y)) q ∙ here in
          let v = t.above i b in
          let w : value_at a (seen o (x_at p i)) ≡ value_at a x = ap (value_at a) q in
          omega arith
      go i (inr b) (no q) = let z = other (seen o (x_at p i)) q in let v = t.above i b in omega arith

      was : (w : ℕ) → Full (value_at (set a x y)) w → Dec (w ≡ x)
          → (i : ℕ) × (i < k + 1) × (seen o (x_at p i) ≡ w) × (seen o (y_at p i) ≡ value_at (set a x y) w)
      was w f (yes q) = (k, omega arith, sym ex ∙ sym q, sym ey ∙ sym here ∙ ap (value_at (set a x y)) (sym q))
      was w f (no q) =
          let e = other w q in
          let r = t.is w (f.0, subst (λ (n : ℕ). n ≤ 8192) e f.1) in
          (r.0, omega (arith, r.1), r.2, r.3 ∙ sym e)

  same : value_at a x ≤ y → Tops o p (k + 1) a
  same h = record {
    size = t.size;
    above = λ i l. go i (at-or-below i k (omega arith));
    is = λ w f. let r = t.is w f in (r.0, omega (arith, r.1), r.2, r.3);
  }
    where
      go : (i : ℕ) → (i ≡ k) ⊎ (i < k) → value_at a (seen o (x_at p i)) ≤ seen o (y_at p i)
      go i (inl e) =
          let u : seen o (x_at p i) ≡ x = ap (λ (n : ℕ). seen o (x_at p n)) e ∙ sym ex in
          let v : seen o (y_at p i) ≡ y = ap (λ (n : ℕ). seen o (y_at p n)) e ∙ sym ey in
          let z : value_at a (seen o (x_at p i)) ≡ value_at a x = ap (value_at a) u in
          omega arith
      go i (inr b) = t.above i b

  pub tops_step : Tops o p (k + 1) (lowered a x y)
  unfolding lowered
  tops_step = go (ltb y (value_at a x)) refl
    where
      go : (z : Bool) → ltb y (value_at a x) ≡ z → Tops o p (k + 1) (cond z (set a x y) a)
      go true e = low (ltb-true y (value_at a x) e)
      go false e = same (ltb-false y (value_at a x) e)

pub lowered-yes : (a : List ℕ) (x y : ℕ) → y < value_at a x → set a x y ≡ lowered a x y
unfolding lowered
lowered-yes a x y l = sym (ap (λ (z : Bool). cond z (set a x y) a) (lt-ltb y (value_at a x) l))

pub lowered-no : (a : List ℕ) (x y : ℕ) → value_at a x ≤ y → a ≡ lowered a x y
unfolding lowered
lowered-no a x y l = sym (ap (λ (z : Bool). cond z (set a x y) a) (le-ltb y (value_at a x) l))

pub seen_back : (o : Bool) (n : ℕ) → o ≡ true → 8192 - n ≡ seen o n
seen_back true n e = refl
seen_back false n e = absurd (mathlib.Core.Bool.false≢true e)

pub seen-on : (o : Bool) (n : ℕ) → o ≡ false → n ≡ seen o n
seen-on false n e = refl
seen-on true n e = absurd (mathlib.Core.Bool.true≢false e)

pub lowered-length : (a : List ℕ) (x y : ℕ) → length (lowered a x y) ≡ length a
unfolding lowered
lowered-length a x y = go (ltb y (value_at a x))
  where
    go : (z : Bool) → length (cond z (set a x y) a) ≡ length a
    go true = length-set a x y
    go false = refl

-- ---- points stored
pub stored-two : (i x y : ℕ) (l : List ℕ) → Stored i (x ∷ y ∷ []) l (set (set l i x) (i + 1) y) (i + 2)
stored-two i x y l = record {
  list = (let z : i + 1 ≡ suc i = omega arith in ap (λ (k : ℕ). set (set l i x) k y) z);
  next = refl;
}

pub numbers-one : (q : ℕ × ℕ) (x y : ℕ) → x ≡ q.0 → y ≡ q.1 → x ∷ y ∷ [] ≡ numbers_of (q ∷ [])
unfolding numbers_of
numbers-one q x y ex ey = ap₂ (λ (a b : ℕ). a ∷ b ∷ []) ex ey
