-- The selection of the next vertex, `select-ok`: a fold over candidates of any kind S with points `pt`. Assumes nothing.
use mathlib.Core.Path.{◌≡◌, refl, sym, ◌∙◌, ap, subst}
use mathlib.Core.Logic.{◌⊎◌, inl, inr}
use mathlib.Core.Bool.{Bool, true, false, ◌&&◌, ◌||◌}
use mathlib.Core.List.{List, [], ◌∷◌, Memᴰ}
use Prim.Native.Nat.{ℕ, zero, suc}
use lib.IntN.{ℤ, pos, negsuc}
use Rattle.whole.specs.Numbers.{◌⊕◌, neg, 𝟘, NN, nn, PP, pp}
use Rattle.whole.proofs.Sums.{𝟘-⊕, ⊕-neg, neg-⊕, neg-neg, ⊕-comm}
use Rattle.whole.proofs.Ord.{p0, nn≡, z0}
use Rattle.whole.specs.Points.{Pt, cross, d2}
use Rattle.whole.proofs.Turns.{swap, Ge, At, ge-refl, ge_trans}
use Rattle.whole.specs.Hull.{is_neg, is_zero, better, step, select}

flip-0 : (c n i : Pt) → cross c i n ≡ 𝟘 → cross c n i ≡ 𝟘
flip-0 c n i e = swap c i n ∙ ap neg e ∙ sym (𝟘-⊕ (neg 𝟘)) ∙ ⊕-neg 𝟘

pub flip-d : (a b : ℤ) → neg (a ⊕ neg b) ≡ b ⊕ neg a
flip-d a b = neg-⊕ a (neg b) ∙ ap (λ t. neg a ⊕ t) (neg-neg b) ∙ ⊕-comm (neg a) b

neg-nn : (n : ℕ) → NN (neg (negsuc n))
unfolding neg
neg-nn n = nn (suc n)

pp-s : (n : ℕ) → PP (neg (negsuc n))
unfolding neg
pp-s n = pp n

-- what the test says
better-true : (c n i : Pt) (s t : ℤ) → cross c n i ≡ s → d2 c n ⊕ neg (d2 c i) ≡ t → is_neg s || (is_zero s && is_neg t) ≡ true → Ge c i n
unfolding Ge 𝟘
better-true c n i (pos zero) (pos m) e d h = absurd (mathlib.Core.Bool.false≢true h)
better-true c n i (pos zero) (negsuc m) e d h =
    (nn≡ z0 (sym (flip-0 c i n e)), λ _. nn≡ (neg-nn m) (ap neg (sym d) ∙ flip-d (d2 c n) (d2 c i)))
better-true c n i (pos (suc k)) t e d h = absurd (mathlib.Core.Bool.false≢true h)
better-true c n i (negsuc k) t e d h =
    (nn≡ (neg-nn k) (ap neg (sym e) ∙ sym (swap c n i)), λ z. absurd (p0 (pp-s k) (ap neg (sym e) ∙ sym (swap c n i) ∙ z)))

better-false : (c n i : Pt) (s t : ℤ) → cross c n i ≡ s → d2 c n ⊕ neg (d2 c i) ≡ t → is_neg s || (is_zero s && is_neg t) ≡ false → Ge c n i
unfolding Ge 𝟘
better-false c n i (pos zero) (pos m) e d h = (nn≡ z0 (sym e), λ _. nn≡ (nn m) (sym d))
better-false c n i (pos zero) (negsuc m) e d h = absurd (mathlib.Core.Bool.true≢false h)
better-false c n i (pos (suc k)) t e d h = (nn≡ (nn (suc k)) (sym e), λ z. absurd (p0 (pp k) (sym e ∙ z)))
better-false c n i (negsuc k) t e d h = absurd (mathlib.Core.Bool.true≢false h)

module _ {S : Type 0} (pt : S → Pt) where
  step_ok : (c : Pt) (n i : S) → ((step pt c n i ≡ i) × Ge c (pt i) (pt n)) ⊎ ((step pt c n i ≡ n) × Ge c (pt n) (pt i))
  unfolding step better
  step_ok c n i = go (better c (pt n) (pt i)) refl
    where
      go : (b : Bool) → better c (pt n) (pt i) ≡ b
          → ((elim b [ true ↦ i | false ↦ n ] ≡ i) × Ge c (pt i) (pt n)) ⊎ ((elim b [ true ↦ i | false ↦ n ] ≡ n) × Ge c (pt n) (pt i))
      go true h = inl (refl, better-true c (pt n) (pt i) _ _ refl refl h)
      go false h = inr (refl, better-false c (pt n) (pt i) _ _ refl refl h)

  -- the selected one is at least as good as the first and as every candidate, and one of them
  module _ (f c : Pt) where
    pub record Sel (n : S) (is : List S) (r : S) : Type 0 where
      pub at : At f c (pt r)
      pub first : Ge c (pt r) (pt n)
      pub all : (i : S) → Memᴰ i is → Ge c (pt r) (pt i)
      pub mem : Memᴰ r (n ∷ is)

    pub select-ok : (n : S) (is : List S) → At f c (pt n) → ((i : S) → Memᴰ i is → At f c (pt i)) → Sel n is (select pt c n is)
    unfolding select
    select-ok n [] hn hs = record { at = hn; first = ge-refl c (pt n); all = λ i m. elim m [ ]; mem = Memᴰ.head refl }
    select-ok n (i ∷ is) hn hs = go (step pt c n i) (step_ok c n i) (λ m hm. select-ok m is hm (λ j t. hs j (Memᴰ.tail t)))
      where
        hi : At f c (pt i)
        hi = hs i (Memᴰ.head refl)

        later : {r : S} (m : S) → Memᴰ r (m ∷ is) → (m ≡ i) ⊎ (m ≡ n) → Memᴰ r (n ∷ i ∷ is)
        later m (Memᴰ.head e) (inl q) = Memᴰ.tail (Memᴰ.head (e ∙ q))
        later m (Memᴰ.head e) (inr q) = Memᴰ.head (e ∙ q)
        later m (Memᴰ.tail t) q = Memᴰ.tail (Memᴰ.tail t)

        all' : (r : S) → Ge c (pt r) (pt i) → ((j : S) → Memᴰ j is → Ge c (pt r) (pt j)) → (j : S) → Memᴰ j (i ∷ is)
            → Ge c (pt r) (pt j)
        all' r g h j (Memᴰ.head e) = subst (λ t. Ge c (pt r) (pt t)) (sym e) g
        all' r g h j (Memᴰ.tail t) = h j t

        go : (m : S) → ((m ≡ i) × Ge c (pt i) (pt n)) ⊎ ((m ≡ n) × Ge c (pt n) (pt i))
            → ((m : S) → At f c (pt m) → Sel m is (select pt c m is)) → Sel n (i ∷ is) (select pt c m is)
        go m (inl q) rec =
            let hm : At f c (pt m) = subst (λ t. At f c (pt t)) (sym q.0) hi in
            let r = rec m hm in
            let g : Ge c (pt (select pt c m is)) (pt i) = subst (λ t. Ge c (pt (select pt c m is)) (pt t)) q.0 r.first in
            record {
              at = r.at;
              first = ge_trans f c _ (pt i) (pt n) r.at hi hn g q.1;
              all = all' _ g r.all;
              mem = later m
                  r.mem (inl q.0);
            }
        go m (inr q) rec =
            let hm : At f c (pt m) = subst (λ t. At f c (pt t)) (sym q.0) hn in
            let r = rec m hm in
            let g : Ge c (pt (select pt c m is)) (pt n) = subst (λ t. Ge c (pt (select pt c m is)) (pt t)) q.0 r.first in
            record {
              at = r.at;
              first = g;
              all = all' _ (ge_trans f c _ (pt n) (pt i) r.at hn hi g q.1) r.all;
              mem = later m
                  r.mem (inr q.0);
            }
