-- The quad over indices, with the values and their comparisons as parameters: one rule for f32 and for whole numbers.
--     keep-cong, quad_with-cong          values that compare alike give the same indices
--     far-is', c-is, d-is, quad_is   whole values give the quad of the points
-- Assumes nothing.
use mathlib.Core.Path.{◌≡◌, refl, sym, ◌∙◌, ap}
use mathlib.Core.Bool.{Bool, true, false, ◌&&◌}
use mathlib.Core.List.{List, [], ◌∷◌, ◌++◌, map, Memᴰ}
use Prim.Native.Nat.{ℕ, suc, ◌+◌, ◌<◌, suc-le-suc}
use native.Mathlib.Omega.{arith}
use lib.ListN.{length}
use lib.Dec.{ltb}
use lib.IntN.{ℤ}
use Rattle.laws.specs.Lists.{range}
use Rattle.laws.proofs.Stores.{map-append}
use Rattle.whole.specs.Numbers.{◌⊕◌, neg, 𝟘, 𝟙}
use Rattle.whole.proofs.Sums.{neg-neg, ⊕-comm, 𝟘-⊕, ⊕-𝟘}
use Rattle.whole.specs.Points.{Pt, cross, pt_at}
use Rattle.whole.specs.Hull.{is_neg}
use Rattle.whole.specs.Quad.{amax, pairs, dist, area, corners, farthest, quad}
use Rattle.whole.specs.Walk.{keep, index_pairs, Ops, farthest_with, ends, quad_with, whole_ops, less_z, with-i}

-- ---- values that are related and compared alike give the same indices
module _ {T E F : Type 0} (R : E → F → Type 0) (t : E → E → Bool) (t' : F → F → Bool) (g : T → E) (g' : T → F)
    (alike : (u s : E) (u' s' : F) → R u u' → R s s' → t u s ≡ t' u' s') where
  pub keep-cong : (x : T) (u : E) (u' : F) (ys : List T) → R u u' → ((y : T) → Memᴰ y ys → R (g y) (g' y))
      → ((keep t g x u ys).0 ≡ (keep t' g' x u' ys).0) × R (keep t g x u ys).1 (keep t' g' x u' ys).1
  unfolding keep
  keep-cong x u u' [] h k = (refl, h)
  keep-cong x u u' (y ∷ ys) h k =
      go (t u (g y)) (t' u' (g' y)) (alike u (g y) u' (g' y) h ry) (λ x u u' h. keep-cong x u u' ys h (λ z m. k z (Memᴰ.tail m)))
    where
      ry : R (g y) (g' y)
      ry = k y (Memᴰ.head refl)

      go : (a b : Bool) → a ≡ b
          → ((x : T) (u : E) (u' : F) → R u u'
          → ((keep t g x u ys).0 ≡ (keep t' g' x u' ys).0) × R (keep t g x u ys).1 (keep t' g' x u' ys).1)
          → ((elim a as (λ _. T × E) [ true ↦ keep t g y (g y) ys | false ↦ keep t g x u ys ]).0
          ≡ (elim b as (λ _. T × F) [ true ↦ keep t' g' y (g' y) ys | false ↦ keep t' g' x u' ys ]).0)
          × R (elim a as (λ _. T × E) [ true ↦ keep t g y (g y) ys | false ↦ keep t g x u ys ]).1
          (elim b as (λ _. T × F) [ true ↦ keep t' g' y (g' y) ys | false ↦ keep t' g' x u' ys ]).1
      go true true e rec = rec y (g y) (g' y) ry
      go true false e rec = absurd (mathlib.Core.Bool.true≢false e)
      go false true e rec = absurd (mathlib.Core.Bool.false≢true e)
      go false false e rec = rec x u u' h

-- Rd relates the distances (and the value below all of them), R the sides
module _ {E F : Type 0} (Rd R : E → F → Type 0) (o : Ops E) (p : Ops F)
    (aliked : (u s : E) (u' s' : F) → Rd u u' → Rd s s' → o.less u s ≡ p.less u' s')
    (alike : (u s : E) (u' s' : F) → R u u' → R s s' → o.less u s ≡ p.less u' s')
    (lows : Rd o.low p.low) (nils : R o.nil p.nil)
    (ds : (i j : ℕ) → Rd (o.d i j) (p.d i j)) (sides : (a b i : ℕ) → R (o.side a b i) (p.side a b i))
    (areas : (a b c d : ℕ) → R (o.quad_area a b c d) (p.quad_area a b c d))
    (backs : (u : E) (u' : F) → R u u' → o.back u ≡ p.back u') where
  farthest_with-cong : (n : ℕ) → farthest_with o n ≡ farthest_with p n
  unfolding farthest_with
  farthest_with-cong n = (keep-cong Rd o.less p.less (λ q. o.d q.0 q.1) (λ q. p.d q.0 q.1) aliked (0, 0) o.low p.low
      (index_pairs 0 n) lows (λ q m. ds q.0 q.1)).0

  ends-cong : (n a b : ℕ) → ends o n a b ≡ ends p n a b
  unfolding ends
  ends-cong n a b = go (o.less o.nil c.1) (p.less p.nil c'.1) (alike _ _ _ _ nils rc.1) (o.less e.1 o.nil)
      (p.less e'.1 p.nil) (alike _ _ _ _ re.1 nils)
      (o.back (o.quad_area a c.0 b e.0)) (p.back (p.quad_area a c'.0 b e'.0))
      (backs _ _ (areas a c.0 b e.0) ∙ ap (λ t. p.back (p.quad_area a t b e.0)) rc.0
      ∙ ap (λ t. p.back (p.quad_area a c'.0 b t)) re.0)
    where
      c : ℕ × E
      c = keep o.less (o.side a b) a o.nil (range 0 n)

      c' : ℕ × F
      c' = keep p.less (p.side a b) a p.nil (range 0 n)

      rc : (c.0 ≡ c'.0) × R c.1 c'.1
      rc = keep-cong R o.less p.less (o.side a b) (p.side a b) alike a o.nil p.nil (range 0 n) nils (λ i m. sides a b i)

      e : ℕ × E
      e = keep (λ u s. o.less s u) (o.side a b) a o.nil (range 0 n)

      e' : ℕ × F
      e' = keep (λ u s. p.less s u) (p.side a b) a p.nil (range 0 n)

      re : (e.0 ≡ e'.0) × R e.1 e'.1
      re = keep-cong R (λ u s. o.less s u) (λ u s. p.less s u) (o.side a b) (p.side a b) (λ u s u' s' h k. alike s u s' u' k h) a
          o.nil p.nil (range 0 n) nils (λ i m. sides a b i)

      go : (x x' : Bool) → x ≡ x' → (y y' : Bool) → y ≡ y' → (z z' : Bool) → z ≡ z' →
          ◌≡◌ {A = List ℕ} (elim
          (x && y) [ false ↦ [] | true ↦ elim z [ false ↦ a ∷ c.0 ∷ b ∷ e.0 ∷ [] | true ↦ a ∷ e.0 ∷ b ∷ c.0 ∷ [] ] ])
          (elim (x' && y') [ false ↦ [] | true ↦ elim z' [ false ↦ a ∷ c'.0 ∷ b ∷ e'.0 ∷ [] | true ↦ a ∷ e'.0 ∷ b ∷ c'.0 ∷ [] ] ])
      go x x' hx y y' hy z z' hz =
          ap (λ (t : Bool). elim (t && y) as
          (λ _. List ℕ) [
            | false ↦ []
            | true ↦ elim z as
                (λ _. List ℕ) [ false ↦ a ∷ c.0 ∷ b ∷ e.0 ∷ [] | true ↦ a ∷ e.0 ∷ b ∷ c.0 ∷ [] ]
          ]) hx
          ∙ ap (λ (t : Bool). elim (x' && t) as
          (λ _. List ℕ) [
            | false ↦ []
            | true ↦ elim z as
                (λ _. List ℕ) [ false ↦ a ∷ c.0 ∷ b ∷ e.0 ∷ [] | true ↦ a ∷ e.0 ∷ b ∷ c.0 ∷ [] ]
          ]) hy
          ∙ ap (λ (t : Bool). elim (x' && y') as
          (λ _. List ℕ) [
            | false ↦ []
            | true ↦ elim t as
                (λ _. List ℕ) [ false ↦ a ∷ c.0 ∷ b ∷ e.0 ∷ [] | true ↦ a ∷ e.0 ∷ b ∷ c.0 ∷ [] ]
          ]) hz
          ∙ ap (λ (t : ℕ). elim (x' && y') as
          (λ _. List ℕ) [
            | false ↦ []
            | true ↦ elim z' as
                (λ _. List ℕ) [ false ↦ a ∷ t ∷ b ∷ e.0 ∷ [] | true ↦ a ∷ e.0 ∷ b ∷ t ∷ [] ]
          ]) rc.0
          ∙ ap (λ (t : ℕ). elim (x' && y') as
          (λ _. List ℕ) [
            | false ↦ []
            | true ↦ elim z' as
                (λ _. List ℕ) [ false ↦ a ∷ c'.0 ∷ b ∷ t ∷ [] | true ↦ a ∷ t ∷ b ∷ c'.0 ∷ [] ]
          ]) re.0

  pub quad_with-cong : (n : ℕ) → quad_with o n ≡ quad_with p n
  unfolding quad_with
  quad_with-cong n = ap (λ (l : List ℕ). elim (ltb n 4) as (λ _. List ℕ) [ true ↦ [] | false ↦ l ])
      (ends-cong n (farthest_with o n).0 (farthest_with o n).1 ∙ ap (λ (q : ℕ × ℕ). ends p n q.0 q.1) (farthest_with-cong n))

keep-map : {I T : Type 0} (f : I → T) (g : T → ℤ) (x : I) (u : ℤ) (is : List I)
    → amax g (f x) u (map f is) ≡ (f (keep less_z (λ i. g (f i)) x u is).0, (keep less_z (λ i. g (f i)) x u is).1)
unfolding amax keep
keep-map {I} {T} f g x u [] = refl
keep-map {I} {T} f g x u (i ∷ is) = go (less_z u (g (f i))) (keep-map f g i (g (f i)) is) (keep-map f g x u is)
  where
    go : (b : Bool) → amax g (f i) (g (f i)) (map f is)
        ≡ (f (keep less_z (λ i. g (f i)) i (g (f i)) is).0, (keep less_z (λ i. g (f i)) i (g (f i)) is).1)
        → amax g (f x) u (map f is) ≡ (f (keep less_z (λ i. g (f i)) x u is).0, (keep less_z (λ i. g (f i)) x u is).1)
        → ◌≡◌ {A = T × ℤ} (elim b as (λ _. T × ℤ) [ true ↦ amax g (f i) (g (f i)) (map f is) | false ↦ amax g (f x) u (map f is) ]) (
          f (elim b as (λ _. I × ℤ) [ true ↦ keep less_z (λ i. g (f i)) i (g (f i)) is | false ↦ keep less_z (λ i. g (f i)) x u is ]).0,
          (elim b as (λ _. I × ℤ) [ true ↦ keep less_z (λ i. g (f i)) i (g (f i)) is | false ↦ keep less_z (λ i. g (f i)) x u is ]).1,
        )
    go true h k = h
    go false h k = k

range-map : (Q : List Pt) (f : ℕ → Pt) (i : ℕ) → ((j : ℕ) → j < length Q → f (i + j) ≡ pt_at Q j) → map f (range i (length Q)) ≡ Q
unfolding pt_at
range-map [] f i h = refl
range-map (q ∷ Q) f i h =
    let e : f i ≡ q = ap f (z i) ∙ h 0 (lt0 (length Q)) in
    let ih : map f (range (suc i) (length Q)) ≡ Q = range-map Q f (suc i) (λ j k. ap f (s i j) ∙ h (suc j) (suc-le-suc k)) in
    cc
  where
    z : (i : ℕ) → i ≡ i + 0
    z i = omega arith

    s : (i j : ℕ) → suc i + j ≡ i + suc j
    s i j = omega arith

    lt0 : (n : ℕ) → 0 < suc n
    lt0 n = omega arith

abbrev pt2 : (ℕ → Pt) → ℕ × ℕ → Pt × Pt
pt2 f q = (f q.0, f q.1)

abbrev with-p : Pt → Pt → Pt × Pt
with-p a b = (a, b)

map-map' : (f : ℕ → Pt) (i : ℕ) (js : List ℕ) → map (pt2 f) (map (with-i i) js) ≡ map (with-p (f i)) (map f js)
map-map' f i [] = refl
map-map' f i (j ∷ js) = ap (λ l. pt2 f (with-i i j) ∷ l) (map-map' f i js)

pairs-map : (Q : List Pt) (f : ℕ → Pt) (i : ℕ) → ((j : ℕ) → j < length Q → f (i + j) ≡ pt_at Q j)
    → map (pt2 f) (index_pairs i (length Q)) ≡ pairs Q
unfolding pt_at
pairs-map [] f i h = refl
pairs-map (q ∷ Q) f i h =
    map-append (pt2 f) (map (with-i i) (range (suc i) (length Q))) (index_pairs (suc i) (length Q))
    ∙ ap (λ l. l ++ map (pt2 f) (index_pairs (suc i) (length Q)))
    (map-map' f i (range (suc i) (length Q)) ∙ ap (map (with-p (f i))) (range-map Q f (suc i) h')
    ∙ ap (λ t. map (with-p t) Q) (ap f (z i) ∙ h 0 (lt0 (length Q))))
    ∙ ap (λ l. map (with-p q) Q ++ l) (pairs-map Q f (suc i) h')
  where
    z : (i : ℕ) → i ≡ i + 0
    z i = omega arith

    s : (i j : ℕ) → suc i + j ≡ i + suc j
    s i j = omega arith

    lt0 : (n : ℕ) → 0 < suc n
    lt0 n = omega arith

    h' : (j : ℕ) → j < length Q → f (suc i + j) ≡ pt_at Q j
    h' j k = ap f (s i j) ∙ h (suc j) (suc-le-suc k)

zplus : (P : List Pt) (j : ℕ) → j < length P → pt_at P (0 + j) ≡ pt_at P j
zplus P j h = ap (pt_at P) (z j)
  where
    z : (j : ℕ) → 0 + j ≡ j
    z j = omega arith

pub far-is' : (P : List Pt) → 0 < length P
    → farthest P ≡ (pt_at P (farthest_with (whole_ops P) (length P)).0, pt_at P (farthest_with (whole_ops P) (length P)).1)
unfolding farthest farthest_with whole_ops
far-is' [] h = absurd (no_lt h)
  where
    no_lt : 0 < 0 → ⊥
    no_lt h = omega arith
far-is' (a ∷ l) h =
    ap (λ t. (amax dist (a, a) (neg 𝟙) t).0) (sym (pairs-map (a ∷ l) (pt_at (a ∷ l)) 0 (zplus (a ∷ l))))
    ∙ ap (λ t. (amax dist (t, t) (neg 𝟙) (map (pt2 (pt_at (a ∷ l))) (index_pairs 0 (length (a ∷ l))))).0) (sym hd)
    ∙ ap (λ r. r.0) (keep-map (pt2 (pt_at (a ∷ l))) dist (0, 0) (neg 𝟙) (index_pairs 0 (length (a ∷ l))))
  where
    hd : pt_at (a ∷ l) 0 ≡ a
    hd = unfold pt_at in refl

r0 : (u : ℤ) → 𝟘 ⊕ neg u ≡ neg u
r0 u = 𝟘-⊕ (neg u)

n0 : neg 𝟘 ≡ 𝟘
unfolding neg 𝟘
n0 = refl

r1 : (u : ℤ) → u ⊕ neg 𝟘 ≡ u
r1 u = ap (λ t. u ⊕ t) n0 ∙ ⊕-𝟘 u

r2 : (s u : ℤ) → s ⊕ neg u ≡ neg u ⊕ neg (neg s)
r2 s u = ⊕-comm s (neg u) ∙ ap (λ t. neg u ⊕ t) (sym (neg-neg s))

module _ (P : List Pt) (a b : ℕ) where
  abbrev pub pa : Pt
  pa = pt_at P a

  abbrev pub pb : Pt
  pb = pt_at P b

  abbrev pub sid : ℕ → ℤ
  sid i = cross pa pb (pt_at P i)

  abbrev pub is : List ℕ
  is = range 0 (length P)

  abbrev pub kc : ℕ × ℤ
  kc = keep less_z sid a 𝟘 is

  abbrev pub kd : ℕ × ℤ
  kd = keep less_z (λ i. neg (sid i)) a 𝟘 is

  abbrev ke : ℕ × ℤ
  ke = keep (λ u s. less_z s u) sid a 𝟘 is

  all-P : map (pt_at P) is ≡ P
  all-P = range-map P (pt_at P) 0 (zplus P)

  pub c-is : amax (cross pa pb) pa 𝟘 P ≡ (pt_at P kc.0, kc.1)
  c-is = ap (amax (cross pa pb) pa 𝟘) (sym all-P) ∙ keep-map (pt_at P) (cross pa pb) a 𝟘 is

  pub d-is : amax (λ p. neg (cross pa pb p)) pa 𝟘 P ≡ (pt_at P kd.0, kd.1)
  d-is = ap (amax (λ p. neg (cross pa pb p)) pa 𝟘) (sym all-P) ∙ keep-map (pt_at P) (λ p. neg (cross pa pb p)) a 𝟘 is

  e-is : (ke.0 ≡ kd.0) × (kd.1 ≡ neg ke.1)
  e-is = keep-cong (λ u u'. u' ≡ neg u) (λ u s. less_z s u) less_z sid (λ i. neg (sid i))
      (λ u s u' s' h k. ap is_neg (r2 s u ∙ ap (λ t. t ⊕ neg (neg s)) (sym h) ∙ ap (λ t. u' ⊕ neg t) (sym k))) a 𝟘 𝟘 is (sym n0)
      (λ i m. refl)

  abbrev shape : Pt × ℤ → Pt × ℤ → List Pt
  shape c d = elim (is_neg (neg c.1) && is_neg (neg d.1)) [
    | false ↦ []
    | true ↦ elim
        (is_neg (area pa c.0 pb d.0)) [ false ↦ pa ∷ c.0 ∷ pb ∷ d.0 ∷ [] | true ↦ pa ∷ d.0 ∷ pb ∷ c.0 ∷ [] ]
  ]

  corners-is : map (pt_at P) (ends (whole_ops P) (length P) a b) ≡ corners pa pb P
  unfolding ends whole_ops corners
  corners-is =
      go (less_z 𝟘 kc.1) (is_neg (neg kc.1)) (ap is_neg (r0 kc.1))
      (less_z ke.1 𝟘) (is_neg (neg kd.1)) (ap is_neg (r1 ke.1 ∙ sym (neg-neg ke.1) ∙ ap neg (sym e-is.1)))
      (is_neg (area pa (pt_at P kc.0) pb (pt_at P ke.0))) (is_neg (area pa (pt_at P kc.0) pb (pt_at P kd.0)))
      (ap is_neg (ap (λ t. area pa (pt_at P kc.0) pb (pt_at P t)) e-is.0))
      ∙ sym (ap (λ (t : Pt × ℤ). shape t (amax (λ p. neg (cross pa pb p)) pa 𝟘 P)) c-is ∙ ap (shape (pt_at P kc.0, kc.1)) d-is)
    where
      go : (x x' : Bool) → x ≡ x' → (y y' : Bool) → y ≡ y' → (z z' : Bool) → z ≡ z' →
          ◌≡◌ {A = List Pt} (map (pt_at P)
          (elim (x && y) as (λ _. List ℕ)
          [ false ↦ [] | true ↦ elim z as (λ _. List ℕ) [ false ↦ a ∷ kc.0 ∷ b ∷ ke.0 ∷ [] | true ↦ a ∷ ke.0 ∷ b ∷ kc.0 ∷ [] ] ]))
          (elim (x' && y') as (λ _. List Pt) [
            | false ↦ []
            | true ↦ elim z' as
                (λ _. List Pt) [
                  | false ↦ pa ∷ pt_at P kc.0 ∷ pb ∷ pt_at P kd.0 ∷ []
                  | true ↦ pa ∷ pt_at P kd.0 ∷ pb ∷ pt_at P
                      kc.0 ∷ []
                ]
          ])
      go x x' hx y y' hy z z' hz =
          ap (λ (t : Bool). map (pt_at P)
          (elim (t && y) as (λ _. List ℕ)
          [ false ↦ [] | true ↦ elim z as (λ _. List ℕ) [ false ↦ a ∷ kc.0 ∷ b ∷ ke.0 ∷ [] | true ↦ a ∷ ke.0 ∷ b ∷ kc.0 ∷ [] ] ]))
          hx
          ∙ ap (λ (t : Bool). map (pt_at P)
          (elim (x' && t) as (λ _. List ℕ)
          [ false ↦ [] | true ↦ elim z as (λ _. List ℕ) [ false ↦ a ∷ kc.0 ∷ b ∷ ke.0 ∷ [] | true ↦ a ∷ ke.0 ∷ b ∷ kc.0 ∷ [] ] ]))
          hy
          ∙ ap (λ (t : Bool). map (pt_at P)
          (elim (x' && y') as (λ _. List ℕ)
          [ false ↦ [] | true ↦ elim t as (λ _. List ℕ) [ false ↦ a ∷ kc.0 ∷ b ∷ ke.0 ∷ [] | true ↦ a ∷ ke.0 ∷ b ∷ kc.0 ∷ [] ] ]))
          hz
          ∙ ap (λ (t : ℕ). map (pt_at P)
          (elim (x' && y') as (λ _. List ℕ)
          [ false ↦ [] | true ↦ elim z' as (λ _. List ℕ) [ false ↦ a ∷ kc.0 ∷ b ∷ t ∷ [] | true ↦ a ∷ t ∷ b ∷ kc.0 ∷ [] ] ]))
          e-is.0
          ∙ fin (x' && y') z'
        where
          fin : (w z : Bool) → ◌≡◌ {A = List Pt}
              (map (pt_at P) (elim w as
              (λ _. List ℕ) [
                | false ↦ []
                | true ↦ elim z as
                    (λ _. List ℕ) [ false ↦ a ∷ kc.0 ∷ b ∷ kd.0 ∷ [] | true ↦ a ∷ kd.0 ∷ b ∷ kc.0 ∷ [] ]
              ]))
              (elim w as (λ _. List Pt) [
                | false ↦ []
                | true ↦ elim z as
                    (λ _. List Pt) [
                      | false ↦ pa ∷ pt_at P kc.0 ∷ pb ∷ pt_at P kd.0 ∷ []
                      | true ↦ pa ∷ pt_at P kd.0 ∷ pb ∷ pt_at P
                          kc.0 ∷ []
                    ]
              ])
          fin false z = refl
          fin true false = refl
          fin true true = refl

pub quad_is : (P : List Pt) → map (pt_at P) (quad_with (whole_ops P) (length P)) ≡ quad P
unfolding quad_with quad
quad_is P = go (ltb (length P) 4) refl
  where
    enough : ltb (length P) 4 ≡ false → 0 < length P
    enough h = omega (arith, borrow.Author.Tests.ltb-false (length P) 4 h)

    go : (x : Bool) → ltb (length P) 4 ≡ x
        → ◌≡◌ {A = List Pt} (map (pt_at P)
        (elim x as (λ _. List ℕ)
        [ true ↦ [] | false ↦ ends (whole_ops P) (length P) (farthest_with (whole_ops P) (length P)).0 (farthest_with (whole_ops P) (length P)).1 ]))
        (elim x as (λ _. List Pt) [ true ↦ [] | false ↦ corners (farthest P).0 (farthest P).1 P ])
    go true h = refl
    go false h = corners-is P (farthest_with (whole_ops P) (length P)).0 (farthest_with (whole_ops P) (length P)).1
        ∙ ap (λ (q : Pt × Pt). corners q.0 q.1 P) (sym (far-is' P (enough h)))
