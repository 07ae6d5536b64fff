-- The gift wrapping of the Rust, by indices, and what its list is.
--     start-.., ext-of-least         the start is least by x, then y, and extreme
--     hull-run                       the list is a closed run along edges
-- Assumes nothing.
use mathlib.Core.Path.{◌≡◌, refl, sym, ◌∙◌, ap, subst}
use mathlib.Core.Logic.{◌⊎◌, inl, inr}
use mathlib.Core.Bool.{Bool, true, false, ◌&&◌, ◌||◌}
use mathlib.Core.List.Memᴰ
use mathlib.Core.List.{List, [], ◌∷◌, Memᴰ}
use Prim.Native.Nat.{ℕ, zero, suc, ◌+◌, ◌%◌, ◌<◌, suc-le-suc}
use native.Mathlib.Omega.{arith}
use native.Mathlib.Nat as NatL
use lib.ListN.{length}
use lib.IntN.{ℤ, pos, negsuc}
use Rattle.laws.proofs.Lists.{in-range, range-has}
use Rattle.laws.specs.Lists.{range}
use Rattle.whole.specs.Numbers.{◌⊕◌, ◌⊗◌, neg, 𝟘, 𝟙, NN, nn, PP, pp}
use Rattle.whole.proofs.Sums.{⊕-𝟘, 𝟘-⊕, ⊗-𝟘, ⊕-neg, 𝟙-⊗}
use Rattle.whole.proofs.Ring.{𝕧, ◌:+◌, ◌:-◌, solve}
use Rattle.whole.proofs.Ord.{pn, nn+, np+, pn+, nn≡, pp≡, z0, nsplit, sub0}
use Rattle.whole.specs.Points.{Pt, Mem, pt_at, LexLe}
use Rattle.whole.proofs.Turns.{pt≡, lin, At}
use Rattle.whole.proofs.Edge.{Side, Edge, Ext, side-of, bound, more}
use Rattle.whole.specs.Hull.{is_neg, is_zero, select, lower, least, start_of, next_of, hull}
use Rattle.whole.proofs.Select.{select-ok, Sel, flip-d}
use Rattle.whole.proofs.Run.{Run, back_start}

-- ---- the start

ring3 : (a b c : ℤ) → (b ⊕ neg a) ⊕ (c ⊕ neg b) ≡ c ⊕ neg a
ring3 a b c = solve (a ∷ b ∷ c ∷ []) ((𝕧 1 :- 𝕧 0) :+ (𝕧 2 :- 𝕧 1)) (𝕧 2 :- 𝕧 0) refl

lex-refl : (a : Pt) → LexLe a a
lex-refl a = inr (⊕-neg a.x, nn≡ z0 (sym (⊕-neg a.y)))

lex-trans : (a b c : Pt) → LexLe a b → LexLe b c → LexLe a c
lex-trans a b c (inl p) (inl q) = inl (pp≡ (pn+ p (pn q)) (ring3 a.x b.x c.x))
lex-trans a b c (inl p) (inr q) = inl (pp≡ p (sym (⊕-𝟘 _) ∙ ap (λ t. b.x ⊕ neg a.x ⊕ t) (sym q.0) ∙ ring3 a.x b.x c.x))
lex-trans a b c (inr p) (inl q) = inl (pp≡ q (sym (𝟘-⊕ _) ∙ ap (λ t. t ⊕ (c.x ⊕ neg b.x)) (sym p.0) ∙ ring3 a.x b.x c.x))
lex-trans a b c (inr p) (inr q) =
    inr (
      sym (ring3 a.x b.x c.x) ∙ ap (λ t. t ⊕ (c.x ⊕ neg b.x)) p.0 ∙ 𝟘-⊕ _
          ∙ q.0,
      nn≡ (nn+ p.1 q.1) (ring3 a.y b.y c.y),
    )

nn-of : (n : ℕ) → NN (neg (negsuc n))
unfolding neg
nn-of n = nn (suc n)

pp-of : (n : ℕ) → PP (neg (negsuc n))
unfolding neg
pp-of n = pp n

lower-true : (a b : Pt) (s t : ℤ) → a.x ⊕ neg b.x ≡ s → a.y ⊕ neg b.y ≡ t → is_neg s || (is_zero s && is_neg t) ≡ true → LexLe a b
unfolding 𝟘
lower-true a b (pos zero) (pos m) e d h = absurd (mathlib.Core.Bool.false≢true h)
lower-true a b (pos zero) (negsuc m) e d h =
    inr (sym (flip-d a.x b.x) ∙ ap neg e ∙ nz, nn≡ (nn-of m) (ap neg (sym d) ∙ flip-d a.y b.y))
  where
    nz : neg (pos zero) ≡ pos zero
    nz = sym (𝟘-⊕ (neg 𝟘)) ∙ ⊕-neg 𝟘
lower-true a b (pos (suc m)) t e d h = absurd (mathlib.Core.Bool.false≢true h)
lower-true a b (negsuc m) t e d h = inl (pp≡ (pp-of m) (ap neg (sym e) ∙ flip-d a.x b.x))

lower-false : (a b : Pt) (s t : ℤ) → a.x ⊕ neg b.x ≡ s → a.y ⊕ neg b.y ≡ t → is_neg s || (is_zero s && is_neg t) ≡ false → LexLe b a
unfolding 𝟘
lower-false a b (pos zero) (pos m) e d h = inr (e, nn≡ (nn m) (sym d))
lower-false a b (pos zero) (negsuc m) e d h = absurd (mathlib.Core.Bool.true≢false h)
lower-false a b (pos (suc m)) t e d h = inl (pp≡ (pp m) (sym e))
lower-false a b (negsuc m) t e d h = absurd (mathlib.Core.Bool.true≢false h)

module _ {S : Type 0} (pt : S → Pt) where
  least-ok : (n : S) (is : List S)
      → LexLe (pt (least pt n is)) (pt n) × ((i : S) → Memᴰ i is → LexLe (pt (least pt n is)) (pt i))
      × Memᴰ (least pt n is) (n ∷ is)
  unfolding least lower
  least-ok n [] = (lex-refl (pt n), (λ i m. elim m [ ]), Memᴰ.head refl)
  least-ok n (i ∷ is) = go (lower (pt i) (pt n)) refl (λ m. least-ok m is)
    where
      all' : (r : S) → LexLe (pt r) (pt i) → ((j : S) → Memᴰ j is → LexLe (pt r) (pt j)) → (j : S) → Memᴰ j (i ∷ is)
          → LexLe (pt r) (pt j)
      all' r g h j (Memᴰ.head e) = subst (λ t. LexLe (pt r) (pt t)) (sym e) g
      all' r g h j (Memᴰ.tail t) = h j t

      in-i : {r : S} → Memᴰ r (i ∷ is) → Memᴰ r (n ∷ i ∷ is)
      in-i m = Memᴰ.tail m

      in-n : {r : S} → Memᴰ r (n ∷ is) → Memᴰ r (n ∷ i ∷ is)
      in-n (Memᴰ.head e) = Memᴰ.head e
      in-n (Memᴰ.tail t) = Memᴰ.tail (Memᴰ.tail t)

      go : (b : Bool) → lower (pt i) (pt n) ≡ b
          → ((m : S) → LexLe (pt (least pt m is)) (pt m) × ((i : S) → Memᴰ i is → LexLe (pt (least pt m is)) (pt i))
          × Memᴰ (least pt m is) (m ∷ is))
          → LexLe (pt (least pt (elim b [ true ↦ i | false ↦ n ]) is)) (pt n)
          × ((j : S) → Memᴰ j (i ∷ is) → LexLe (pt (least pt (elim b [ true ↦ i | false ↦ n ]) is)) (pt j))
          × Memᴰ (least pt (elim b [ true ↦ i | false ↦ n ]) is) (n ∷ i ∷ is)
      go true h rec = let r =
          rec i in (lex-trans _ (pt i) (pt n) r.0 (lower-true (pt i) (pt n) _ _ refl refl h), all' _ r.0 r.1, in-i r.2)
      go false h rec = let r =
          rec n in (r.0, all' _ (lex-trans _ (pt n) (pt i) r.0 (lower-false (pt i) (pt n) _ _ refl refl h)) r.1, in-n r.2)

-- the start is extreme
pub ext-of-least : (P : List Pt) (s : Pt) → ((p : Pt) → Mem p P → LexLe s p) → Ext P s
unfolding Ext lin
ext-of-least P s h = (f, λ p m. at p m (h p m))
  where
    bd : (m : ℤ) × NN m × ((p : Pt) → Mem p P → PP (m ⊕ (p.y ⊕ neg s.y)))
    bd = bound (λ p. p.y ⊕ neg s.y) P

    f : Pt
    f = record { x = bd.0; y = 𝟙 }

    one : (m a b : ℤ) → m ⊗ a ⊕ b ≡ m ⊗ a ⊕ 𝟙 ⊗ b
    one m a b = ap (λ t. m ⊗ a ⊕ t) (sym (𝟙-⊗ b))

    at : (p : Pt) → Mem p P → LexLe s p → At f s p
    at p m (inl q) = inr (pp≡ (more bd.0 (p.x ⊕ neg s.x) (p.y ⊕ neg s.y) bd.1 q (bd.2 p m)) (one _ _ _))
    at p m (inr q) = on (nsplit q.1)
      where
        on : (p.y ⊕ neg s.y ≡ 𝟘) ⊎ PP (p.y ⊕ neg s.y) → At f s p
        on (inl z) = inl (pt≡ p s (sub0 _ _ q.0) (sub0 _ _ z))
        on (inr z) = inr (pp≡ (np+ (nn≡ z0 (sym (ap (λ t. bd.0 ⊗ t) q.0 ∙ ⊗-𝟘 bd.0))) z) (one _ _ _))

-- ---- indices and points
mem-at : (P : List Pt) (i : ℕ) → i < length P → Mem (pt_at P i) P
unfolding pt_at
mem-at [] i h = absurd (no_lt i h)
  where
    no_lt : (i : ℕ) → i < 0 → ⊥
    no_lt i h = omega arith
mem-at (p ∷ P) zero h = Memᴰ.head refl
mem-at (p ∷ P) (suc i) h = Memᴰ.tail (mem-at P i (NatL.le_of_suc-le-suc h))

index_of : (p : Pt) (P : List Pt) → Mem p P → (i : ℕ) × (i < length P) × (pt_at P i ≡ p)
unfolding pt_at
index_of p P (Memᴰ.head {xs = xs} e) = (0, pos-len xs, sym e)
  where
    pos-len : (l : List Pt) → 0 < suc (length l)
    pos-len l = omega arith
index_of p P (Memᴰ.tail {xs = xs} t) = let r = index_of p xs t in (suc r.0, suc-le-suc r.1, r.2)

-- ---- the hull
mod< : (a n : ℕ) → 0 < n → a % n < n
mod< a n h = NatL.mod-lt a h

module _ (P : List Pt) (some : 0 < length P) where
  abbrev s : Pt
  s = pt_at P (start_of P)

  in-P : (i : ℕ) → Memᴰ i (range 0 (length P)) → i < length P
  in-P i m = omega (arith, (in-range 0 (length P) i m).1)

  start< : start_of P < length P
  unfolding start_of
  start< = go (least-ok (pt_at P) 0 (range 0 (length P))).2
    where
      go : Memᴰ (least (pt_at P) 0 (range 0 (length P))) (0 ∷ range 0 (length P)) → least (pt_at P) 0 (range 0 (length P)) < length P
      go (Memᴰ.head e) = omega (arith, e, some)
      go (Memᴰ.tail t) = in-P _ t

  pub start-least : (p : Pt) → Mem p P → LexLe s p
  unfolding start_of
  start-least p m = let r =
      index_of p P m in subst (λ t. LexLe s t) r.2
      ((least-ok (pt_at P) 0 (range 0 (length P))).1 r.0 (Memᴰ.cast (omega arith) (range-has 0 (length P) r.0 r.1)))

  pub start-mem : Mem s P
  start-mem = mem-at P (start_of P) start<

  pub start-ext : Ext P s
  start-ext = ext-of-least P s start-least

  next-ok : (c : ℕ) → Mem (pt_at P c) P → Ext P (pt_at P c) → Mem (pt_at P (next_of P c)) P × Edge P (pt_at P c) (pt_at P (next_of P c))
  unfolding next_of Ext Edge
  next-ok c mc x = (
    mem-at P r r<,
    λ p m. let q = index_of p P m in
        subst (λ t. Side (pt_at P c) (pt_at P r) t) q.2
        (side-of x.0 (pt_at P c) (pt_at P r) (pt_at P q.0) best_with.at (x.1 _ (mem-at P q.0 q.1))
        (best_with.all q.0 (Memᴰ.cast (omega arith) (range-has 0 (length P) q.0 q.1)))),
  )
    where
      i0 : ℕ
      i0 = (c + 1) % length P

      i0< : i0 < length P
      i0< = mod< (c + 1) (length P) some

      r : ℕ
      r = select (pt_at P) (pt_at P c) i0 (range 0 (length P))

      best_with : Sel (pt_at P) x.0 (pt_at P c) i0 (range 0 (length P)) r
      best_with = select-ok (pt_at P) x.0 (pt_at P c) i0 (range 0 (length P)) (x.1 _ (mem-at P i0 i0<)) (λ i m. x.1 _ (mem-at P i (in-P i m)))

      go : (r : ℕ) → Memᴰ r (i0 ∷ range 0 (length P)) → r < length P
      go r (Memᴰ.head e) = subst (λ t. t < length P) (sym e) i0<
      go r (Memᴰ.tail t) = in-P r t

      r< : r < length P
      r< = go r best_with.mem

  pub hull-run : (vs : List Pt) × (hull P ≡ s ∷ vs) × Run P s vs s × (¬ Mem s vs)
  unfolding hull
  hull-run = back_start (pt_at P) (next_of P) P next-ok s start-mem start-ext (length P) (start_of P) refl (NatL.le_refl (length P))
