-- The quad of a hull: the farthest pair, and the farthest on either side of it.
--     amax-ok                        the first greatest of a list
--     Corners, corners-ok            what the four corners are, or why there are none
--     pair-mem, pair-has             the pairs of a list
--     far-found                      where one pair is farthest, the search finds it
--     corners-yes, corners-no-..     the corners from what the two scans found
-- Assumes nothing.
use mathlib.Core.Path.{◌≡◌, refl, sym, ◌∙◌, ap, subst}
use mathlib.Core.Logic.{◌⊎◌, inl, inr, ◌≢◌}
use mathlib.Core.Bool.{Bool, true, false, ◌&&◌}
use mathlib.Core.List.Memᴰ
use mathlib.Core.List.{
  List,
  [],
  ◌∷◌,
  map,
  Memᴰ,
}
use Prim.Native.Nat.{ℕ}
use lib.IntN.{ℤ, pos, negsuc}
use Rattle.whole.proofs.Select.{flip-d}
use Rattle.whole.specs.Numbers.{◌⊕◌, neg, 𝟘, 𝟙, NN, nn, PP, pp}
use Rattle.whole.proofs.Sums.{neg-neg, ⊕-neg, neg-⊕}
use Rattle.whole.proofs.Ring.{Expr, 𝕧, ◌:+◌, ◌:-◌, ◌:*◌, :n, solve}
use Rattle.whole.proofs.Ord.{pn, nn+, pn+, nn≡, pp≡, p0, z0, pnn, p1}
use Rattle.whole.specs.Points.{Pt, cross, d2, Mem}
use Rattle.whole.proofs.Turns.{X, Y, C, S, env, rot2, d2_n}
use Rattle.whole.specs.Hull.{is_neg}
use Rattle.whole.specs.Quad.{amax, pairs, dist, lace, area, corners, farthest, Top, Far}

neg-true : (z : ℤ) → is_neg z ≡ true → PP (neg z)
unfolding neg
neg-true (pos n) h = absurd (mathlib.Core.Bool.false≢true h)
neg-true (negsuc n) h = pp n

neg-false : (z : ℤ) → is_neg z ≡ false → NN z
neg-false (pos n) h = nn n
neg-false (negsuc n) h = absurd (mathlib.Core.Bool.true≢false h)

ring3 : (a b c : ℤ) → (a ⊕ neg b) ⊕ (b ⊕ neg c) ≡ a ⊕ neg c
ring3 a b c = solve (a ∷ b ∷ c ∷ []) ((𝕧 0 :- 𝕧 1) :+ (𝕧 1 :- 𝕧 2)) (𝕧 0 :- 𝕧 2) refl

module _ {T : Type 0} (g : T → ℤ) where
  pub record Best (t : T) (u : ℤ) (xs : List T) (r : T × ℤ) : Type 0 where
    pub from : (r ≡ (t, u)) ⊎ (Memᴰ r.0 xs × (r.1 ≡ g r.0))
    pub least : NN (r.1 ⊕ neg u)
    pub most : (x : T) → Memᴰ x xs → NN (r.1 ⊕ neg (g x))

  pub amax-ok : (t : T) (u : ℤ) (xs : List T) → Best t u xs (amax g t u xs)
  unfolding amax
  amax-ok t u [] = record { from = inl refl; least = nn≡ z0 (sym (⊕-neg u)); most = λ x m. elim m [ ] }
  amax-ok t u (x ∷ xs) = go (is_neg (u ⊕ neg (g x))) refl (λ t u. amax-ok t u xs)
    where
      all : (r : T × ℤ) → NN (r.1 ⊕ neg (g x)) → ((y : T) → Memᴰ y xs → NN (r.1 ⊕ neg (g y))) → (y : T) → Memᴰ y (x ∷ xs)
          → NN (r.1 ⊕ neg (g y))
      all r h k y (Memᴰ.head e) = subst (λ q. NN (r.1 ⊕ neg (g q))) (sym e) h
      all r h k y (Memᴰ.tail m) = k y m

      fromx : (r : T × ℤ) → (r ≡ (x, g x)) ⊎ (Memᴰ r.0 xs × (r.1 ≡ g r.0))
          → (r ≡ (t, u)) ⊎ (Memᴰ r.0 (x ∷ xs) × (r.1 ≡ g r.0))
      fromx r (inl e) = inr (Memᴰ.head (ap (λ q. q.0) e), ap (λ q. q.1) e ∙ ap g (sym (ap (λ q. q.0) e)))
      fromx r (inr q) = inr (Memᴰ.tail q.0, q.1)

      fromt : (r : T × ℤ) → (r ≡ (t, u)) ⊎ (Memᴰ r.0 xs × (r.1 ≡ g r.0))
          → (r ≡ (t, u)) ⊎ (Memᴰ r.0 (x ∷ xs) × (r.1 ≡ g r.0))
      fromt r (inl e) = inl e
      fromt r (inr q) = inr (Memᴰ.tail q.0, q.1)

      go : (b : Bool) → is_neg (u ⊕ neg (g x)) ≡ b → ((t : T) (u : ℤ) → Best t u xs (amax g t u xs))
          → Best t u (x ∷ xs) (elim b [ true ↦ amax g x (g x) xs | false ↦ amax g t u xs ])
      go true h rec = let r = rec x (g x) in record {
        from = fromx (amax g x (g x) xs) r.from;
        least = nn≡ (nn+ r.least (nn≡ (pn (neg-true _ h)) (flip-d u (g x)))) (ring3 (amax g x (g x) xs).1 (g x) u);
        most = all (amax g x (g x) xs) r.least r.most;
      }
      go false h rec = let r = rec t u in record {
        from = fromt (amax g t u xs) r.from;
        least = r.least;
        most = all (amax g t u xs) (nn≡ (nn+ r.least (neg-false _ h)) (ring3 (amax g t u xs).1 u (g x))) r.most;
      }

unfoldable pub Bare : Pt → Pt → List Pt → Type 0
Bare a b H = ((w : Pt) → Mem w H → NN (neg (cross a b w))) ⊎ ((w : Pt) → Mem w H → NN (neg (cross b a w)))

pub data Corners (a b : Pt) (H : List Pt) (l : List Pt) : Type 0 where
  nope : l ≡ [] → Bare a b H → Corners a b H l
  yep : (c d : Pt) → l ≡ a ∷ d ∷ b ∷ c ∷ [] → Mem c H → Mem d H → Top a b H c → Top b a H d → Corners a b H l

area-is : (a c b d : Pt) → area a c b d ≡ neg (cross a b c ⊕ neg (cross a b d))
unfolding area lace cross
area-is a c b d = solve (env (a ∷ c ∷ b ∷ d ∷ [])) (W 0 1 :+ W 1 2 :+ W 2 3 :+ W 3 0) (:n (C 0 2 1 :- C 0 2 3)) refl
  where
    W : ℕ → ℕ → Expr
    W p r = X p :* Y r :- X r :* Y p

module _ (a b : Pt) (H : List Pt) (g : Pt → ℤ) (is : (p : Pt) → g p ≡ cross a b p) (t : Pt) where
  top_of : (r : Pt × ℤ) → PP r.1 → Best g t 𝟘 H r → Mem r.0 H × Top a b H r.0
  unfolding Top
  top_of r h k = go k.from
    where
      go : (r ≡ (t, 𝟘)) ⊎ (Mem r.0 H × (r.1 ≡ g r.0))
          → Mem r.0 H × (PP (cross a b r.0) × ((w : Pt) → Mem w H → NN (cross a b r.0 ⊕ neg (cross a b w))))
      go (inl e) = absurd (p0 h (ap (λ q. q.1) e))
      go (inr q) = (
        q.0,
        (
          pp≡ h (q.1 ∙ is r.0),
          λ w m. nn≡ (k.most w m) (ap (λ z. z ⊕ neg (g w)) (q.1 ∙ is r.0) ∙ ap (λ z. cross a b r.0 ⊕ neg z) (is w)),
        ),
      )

  bare_of : (r : Pt × ℤ) → NN (neg r.1) → Best g t 𝟘 H r → (w : Pt) → Mem w H → NN (neg (cross a b w))
  bare_of r h k w m = nn≡ (nn+ h (k.most w m)) (drop r.1 (g w) ∙ ap neg (is w))
    where
      drop : (z u : ℤ) → neg z ⊕ (z ⊕ neg u) ≡ neg u
      drop z u = solve (z ∷ u ∷ []) (:n (𝕧 0) :+ (𝕧 0 :- 𝕧 1)) (:n (𝕧 1)) refl

is-neg : (z : ℤ) → PP (neg z) → is_neg z ≡ true
is-neg z h = go (is_neg z) refl
  where
    go : (b : Bool) → is_neg z ≡ b → is_neg z ≡ true
    go true e = e
    go false e = absurd (pnn h (nn≡ (neg-false z e) (sym (neg-neg z))))

pub corners-ok : (a b : Pt) (H : List Pt) → Corners a b H (corners a b H)
unfolding corners Bare Top
corners-ok a b H = go (is_neg (neg c.1)) (is_neg (neg d.1)) (is_neg (area a c.0 b d.0)) refl refl refl
  where
    c : Pt × ℤ
    c = amax (cross a b) a 𝟘 H

    d : Pt × ℤ
    d = amax (λ p. neg (cross a b p)) a 𝟘 H

    rc : Best (cross a b) a 𝟘 H c
    rc = amax-ok (cross a b) a 𝟘 H

    rd : Best (λ p. neg (cross a b p)) a 𝟘 H d
    rd = amax-ok (λ p. neg (cross a b p)) a 𝟘 H

    sd : (p : Pt) → neg (cross a b p) ≡ cross b a p
    sd p = sym (rot2 a b p)

    neg-area : (c d : Pt) → PP (cross a b c) → PP (cross b a d) → PP (neg (area a c b d))
    neg-area c d h k = pp≡ (pn+ h (pn k)) (ap (λ z. cross a b c ⊕ z) (rot2 a b d) ∙ sym (neg-neg _) ∙ ap neg (sym (area-is a c b d)))

    go : (p q w : Bool) → is_neg (neg c.1) ≡ p → is_neg (neg d.1) ≡ q → is_neg (area a c.0 b d.0) ≡ w
        → Corners a b H (elim
        (p && q) [ false ↦ [] | true ↦ elim w [ false ↦ a ∷ c.0 ∷ b ∷ d.0 ∷ [] | true ↦ a ∷ d.0 ∷ b ∷ c.0 ∷ [] ] ])
    go false q w ep eq ew = nope refl (inl (bare_of a b H (cross a b) (λ p. refl) a c (neg-false _ ep) rc))
    go true false w ep eq ew = nope refl (inr (bare_of b a H (λ p. neg (cross a b p)) sd a d (neg-false _ eq) rd))
    go true true w ep eq ew =
        let tc = top_of a b H (cross a b) (λ p. refl) a c (pp≡ (neg-true _ ep) (neg-neg c.1)) rc in
        let td = top_of b a H (λ p. neg (cross a b p)) sd a d (pp≡ (neg-true _ eq) (neg-neg d.1)) rd in
        fin w ew tc td
      where
        fin : (w : Bool) → is_neg (area a c.0 b d.0) ≡ w → Mem c.0 H × Top a b H c.0 → Mem d.0 H × Top b a H d.0
            → Corners a b H (elim w [ false ↦ a ∷ c.0 ∷ b ∷ d.0 ∷ [] | true ↦ a ∷ d.0 ∷ b ∷ c.0 ∷ [] ])
        fin true ew tc td = yep c.0 d.0 refl tc.0 td.0 tc.1 td.1
        fin false ew tc td = absurd (mathlib.Core.Bool.false≢true (sym ew ∙ is-neg _ (neg-area c.0 d.0 tc.1.0 td.1.0)))

-- ---- the farthest pair
pub pair-mem : (H : List Pt) (q : Pt × Pt) → Memᴰ q (pairs H) → Mem q.0 H × Mem q.1 H
pair-mem [] q m = elim m [ ]
pair-mem (a ∷ l) q m = go (Memᴰ.append_cases (map (λ b. (a, b)) l) m) (λ t. pair-mem l q t)
  where
    inl' : (l : List Pt) → Memᴰ q (map (λ b. (a, b)) l) → (q.0 ≡ a) × Mem q.1 l
    inl' [] m = elim m [ ]
    inl' (b ∷ l) (Memᴰ.head e) = (ap (λ p. p.0) e, Memᴰ.head (ap (λ p. p.1) e))
    inl' (b ∷ l) (Memᴰ.tail t) = let r = inl' l t in (r.0, Memᴰ.tail r.1)

    go : Memᴰ q (map (λ b. (a, b)) l) ⊎ Memᴰ q (pairs l) → (Memᴰ q (pairs l) → Mem q.0 l × Mem q.1 l)
        → Mem q.0 (a ∷ l) × Mem q.1 (a ∷ l)
    go (inl t) rec = let r = inl' l t in (Memᴰ.head r.0, Memᴰ.tail r.1)
    go (inr t) rec = let r = rec t in (Memᴰ.tail r.0, Memᴰ.tail r.1)

map-mem : (a b : Pt) (l : List Pt) → Mem b l → Memᴰ {A = Pt × Pt} (a, b) (map (λ b. (a, b)) l)
map-mem a b l (Memᴰ.head e) = Memᴰ.head (ap (λ t. (a, t)) e)
map-mem a b l (Memᴰ.tail {xs = xs} t) = Memᴰ.tail (map-mem a b xs t)

pub pair-has : (H : List Pt) (u w : Pt) → Mem u H → Mem w H → u ≢ w
    → Memᴰ {A = Pt × Pt} (u, w) (pairs H) ⊎ Memᴰ {A = Pt × Pt} (w, u) (pairs H)
pair-has [] u w mu mw n = elim mu [ ]
pair-has (a ∷ l) u w (Memᴰ.head e) (Memᴰ.head e') n = absurd (n (e ∙ sym e'))
pair-has (a ∷ l) u w (Memᴰ.head e) (Memᴰ.tail t) n =
    inl (Memᴰ.append_left (pairs l) (subst (λ q. Memᴰ {A = Pt × Pt} (q, w) (map (λ b. (a, b)) l)) (sym e) (map-mem a w l t)))
pair-has (a ∷ l) u w (Memᴰ.tail t) (Memᴰ.head e) n =
    inr (Memᴰ.append_left (pairs l) (subst (λ q. Memᴰ {A = Pt × Pt} (q, u) (map (λ b. (a, b)) l)) (sym e) (map-mem a u l t)))
pair-has (a ∷ l) u w (Memᴰ.tail s) (Memᴰ.tail t) n = go (pair-has l u w s t n)
  where
    go : Memᴰ {A = Pt × Pt} (u, w) (pairs l) ⊎ Memᴰ {A = Pt × Pt} (w, u) (pairs l)
        → Memᴰ {A = Pt × Pt} (u, w) (pairs (a ∷ l)) ⊎ Memᴰ {A = Pt × Pt} (w, u) (pairs (a ∷ l))
    go (inl m) = inl (Memᴰ.append_right (map (λ b. (a, b)) l) m)
    go (inr m) = inr (Memᴰ.append_right (map (λ b. (a, b)) l) m)

pub d2-sym : (a b : Pt) → d2 a b ≡ d2 b a
unfolding d2
d2-sym a b = solve (env (a ∷ b ∷ [])) (S 0 1) (S 1 0) refl

-- where one pair is farthest, the loops find it, one way round or the other
pub far-found : (H : List Pt) (a b : Pt) → Far H a b → (farthest H ≡ (a, b)) ⊎ (farthest H ≡ (b, a))
unfolding Far farthest
far-found [] a b f = elim f.0 [ ]
far-found (h ∷ l) a b f = got r.from (pair-has (h ∷ l) a b f.0 f.1 f.2)
  where
    q : (Pt × Pt) × ℤ
    q = amax dist (h, h) (neg 𝟙) (pairs (h ∷ l))

    r : Best dist (h, h) (neg 𝟙) (pairs (h ∷ l)) q
    r = amax-ok dist (h, h) (neg 𝟙) (pairs (h ∷ l))

    atleast : Memᴰ {A = Pt × Pt} (a, b) (pairs (h ∷ l)) ⊎ Memᴰ {A = Pt × Pt} (b, a) (pairs (h ∷ l)) → NN (q.1 ⊕ neg (d2 a b))
    atleast (inl m) = r.most (a, b) m
    atleast (inr m) = nn≡ (r.most (b, a) m) (ap (λ z. q.1 ⊕ neg z) (d2-sym b a))

    pick : q.1 ≡ d2 q.0.0 q.0.1 → NN (q.1 ⊕ neg (d2 a b))
        → ((q.0.0 ≡ a) × (q.0.1 ≡ b)) ⊎ (((q.0.0 ≡ b) × (q.0.1 ≡ a)) ⊎ PP (d2 a b ⊕ neg (d2 q.0.0 q.0.1)))
        → (q.0 ≡ (a, b)) ⊎ (q.0 ≡ (b, a))
    pick e n (inl x) = inl (λ i. (x.0 i, x.1 i))
    pick e n (inr (inl x)) = inr (λ i. (x.0 i, x.1 i))
    pick e n (inr (inr p)) = absurd (p0 (pn+ p (nn≡ n (ap (λ z. z ⊕ neg (d2 a b)) e))) (ring3 _ _ _ ∙ ⊕-neg _))

    got : (q ≡ ((h, h), neg 𝟙)) ⊎ (Memᴰ q.0 (pairs (h ∷ l)) × (q.1 ≡ dist q.0))
        → Memᴰ {A = Pt × Pt} (a, b) (pairs (h ∷ l)) ⊎ Memᴰ {A = Pt × Pt} (b, a) (pairs (h ∷ l))
        → (q.0 ≡ (a, b)) ⊎ (q.0 ≡ (b, a))
    got (inl e) m = absurd (minus (d2 a b) (d2_n a b) (nn≡ (atleast m) (ap (λ z. z.1 ⊕ neg (d2 a b)) e)))
      where
        minus : (z : ℤ) → NN z → NN (neg 𝟙 ⊕ neg z) → ⊥
        minus z h k = pnn (pn+ p1 h) (nn≡ k (sym (neg-⊕ 𝟙 z)))
    got (inr x) m = let s = pair-mem (h ∷ l) q.0 x.0 in pick x.1 (atleast m) (f.3 q.0.0 q.0.1 s.0 s.1)

-- ---- the corners, from what the two scans found
module _ (a b : Pt) (H : List Pt) where
  abbrev sc : Pt × ℤ
  sc = amax (cross a b) a 𝟘 H

  abbrev sd : Pt × ℤ
  sd = amax (λ p. neg (cross a b p)) a 𝟘 H

  neg_of : (z : ℤ) → PP z → is_neg (neg z) ≡ true
  neg_of z h = is-neg (neg z) (pp≡ h (sym (neg-neg z)))

  not_neg : (z : ℤ) → NN z → is_neg z ≡ false
  not_neg z h = go (is_neg z) refl
    where
      go : (t : Bool) → is_neg z ≡ t → is_neg z ≡ false
      go true e = absurd (pnn (neg-true z e) (nn≡ h (sym (neg-neg z))))
      go false e = e

  pub corners-yes : PP sc.1 → PP sd.1 → corners a b H ≡ a ∷ sd.0 ∷ b ∷ sc.0 ∷ []
  unfolding corners Top
  corners-yes hc hd =
      ap (λ (t : Bool). elim (t && is_neg (neg sd.1)) as (λ _. List Pt) [ false ↦ [] | true ↦ inner (is_neg (area a sc.0 b sd.0)) ])
      (neg_of sc.1 hc)
      ∙ ap (λ (t : Bool). elim t as (λ _. List Pt) [ false ↦ [] | true ↦ inner (is_neg (area a sc.0 b sd.0)) ]) (neg_of sd.1 hd)
      ∙ ap inner (is-neg _ neg-area)
    where
      inner : Bool → List Pt
      inner w = elim w [ false ↦ a ∷ sc.0 ∷ b ∷ sd.0 ∷ [] | true ↦ a ∷ sd.0 ∷ b ∷ sc.0 ∷ [] ]

      tc : Mem sc.0 H × Top a b H sc.0
      tc = top_of a b H (cross a b) (λ p. refl) a sc hc (amax-ok (cross a b) a 𝟘 H)

      td : Mem sd.0 H × Top b a H sd.0
      td = top_of b a H (λ p. neg (cross a b p)) (λ p. sym (rot2 a b p)) a sd hd (amax-ok (λ p. neg (cross a b p)) a 𝟘 H)

      neg-area : PP (neg (area a sc.0 b sd.0))
      neg-area = pp≡ (pn+ tc.1.0 (pn td.1.0))
          (ap (λ z. cross a b sc.0 ⊕ z) (rot2 a b sd.0) ∙ sym (neg-neg _) ∙ ap neg (sym (area-is a sc.0 b sd.0)))

  abbrev in4 : List Pt
  in4 = elim (is_neg (area a sc.0 b sd.0)) [ false ↦ a ∷ sc.0 ∷ b ∷ sd.0 ∷ [] | true ↦ a ∷ sd.0 ∷ b ∷ sc.0 ∷ [] ]

  pub corners-no-c : NN (neg sc.1) → corners a b H ≡ []
  unfolding corners
  corners-no-c h = ap (λ (t : Bool). elim (t && is_neg (neg sd.1)) as (λ _. List Pt) [ false ↦ [] | true ↦ in4 ]) (not_neg _ h)

  pub corners-no-d : NN (neg sd.1) → corners a b H ≡ []
  unfolding corners
  corners-no-d h = ap (λ (t : Bool). elim (is_neg (neg sc.1) && t) as (λ _. List Pt) [ false ↦ [] | true ↦ in4 ]) (not_neg _ h)
      ∙ both (is_neg (neg sc.1))
    where
      both : (t : Bool) → ◌≡◌ {A = List Pt} (elim (t && false) as (λ _. List Pt) [ false ↦ [] | true ↦ in4 ]) []
      both true = refl
      both false = refl
