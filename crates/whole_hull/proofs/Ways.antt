-- Ways along edges, and the edges of points by their places.
--     Way, way-append, way-one, way-snoc, run-of-way   lists of vertices, each with an edge to the next
--     EdgeI, full_at, edge_of            every point lies on the right of an edge between two vertices
--     side-down                          the edge between the last vertex above and the first below
--     half, half_of                      the same from the other end
--     mem_index, index-mem               points by their number
--     edge-false, edge-true              edges of the list of points
-- Assumes nothing.
use mathlib.Core.Path.{◌≡◌, refl, sym, ap, ap₂, ◌∙◌, subst}
use mathlib.Core.Logic.{◌⊎◌, inl, inr}
use mathlib.Core.Bool.{Bool, true, false}
use mathlib.Core.List.Memᴰ
use mathlib.Core.List.{List, [], ◌∷◌, ◌++◌}
use Prim.Native.Nat.{ℕ, zero, suc, ◌+◌, ◌-◌, ◌*◌, ◌≤◌, ◌<◌}
use native.Mathlib.Omega.{arith}
use lib.ListN.{get_or}
use lib.IntN.{ℤ, pos}
use Rattle.laws.specs.Lists.{range}
use Rattle.laws.specs.Plane.{value_at}
use Rattle.whole.specs.Numbers.{◌⊕◌, ◌⊗◌, neg, 𝟘, NN, PP}
use Rattle.whole.specs.Points.{Pt, cross, Mem}
use Rattle.whole.proofs.Sums.{sub-nat}
use Rattle.whole.proofs.Ring.{𝕧, ◌:+◌, ◌:-◌, ◌:*◌, :n, solve}
use Rattle.whole.proofs.Ord.{pn, nn+, nn*, nn≡, sum0, div0, p0}
use Rattle.whole.specs.IsHull.{dot}
use Rattle.whole.proofs.Turns.{X, Y, C, env, pt≡}
use Rattle.whole.proofs.Edge.{Side, Edge}
use Rattle.whole.proofs.Run.{Run}
use Rattle.hull.specs.Points.{pt_of, pts_of, many}
use Rattle.doubled.specs.Points.{pairs_of, x_at, y_at, Bounded}
use Rattle.whole_hull.specs.Inner.{Full, pt, Right, seen, Tops}
use Rattle.whole_hull.proofs.Turns.{nn-sub, pp-sub, between}

-- ---- ways
-- the vertices l from a on, up to z which is not among them
abbrev pub Way : List Pt → Pt → List Pt → Pt → Type 0
Way P a [] z = a ≡ z
Way P a (b ∷ l) z = (a ≡ b) × Mem a P × ((c : Pt) × Edge P a c × Way P c l z)

pub way-append : (P : List Pt) (a c z : Pt) (l m : List Pt) → Way P a l c → Way P c m z → Way P a (l ++ m) z
way-append P a c z [] m w v = subst (λ (t : Pt). Way P t m z) (sym w) v
way-append P a c z (b ∷ l) m w v = (w.0, w.1, (w.2.0, w.2.1, way-append P w.2.0 c z l m w.2.2 v))

pub way-one : (P : List Pt) (a z : Pt) → Mem a P → Edge P a z → Way P a (a ∷ []) z
way-one P a z m e = (refl, m, (z, e, refl))

pub way-snoc : (P : List Pt) (a c z : Pt) (l : List Pt) → Way P a l c → Mem c P → Edge P c z → Way P a (l ++ c ∷ []) z
way-snoc P a c z l w m e = way-append P a c z l (c ∷ []) w (way-one P c z m e)

pub run-of-way : (P : List Pt) (a b : Pt) (l : List Pt) (z : Pt) → Way P a (b ∷ l) z → Run P a l z
run-of-way P a b [] z w = subst (Edge P a) w.2.2 w.2.1
run-of-way P a b (d ∷ l) z w =
    let c = w.2.0 in
    let v = w.2.2 in
    let q : c ≡ d = v.0 in (
      subst (λ (t : Pt). Mem t P) q v.1,
      subst (Edge P a) q w.2.1,
      subst (λ (t : Pt). Run P t l z) q (run-of-way P c d l z v),
    )

-- the x of points by their places
px-pp : (x y u v : ℕ) → u < x → PP ((pt_of (x, y)).x ⊕ neg (pt_of (u, v)).x)
unfolding pt_of
px-pp x y u v l = pp-sub x u l

px-nn : (x y u v : ℕ) → u ≤ x → NN ((pt_of (x, y)).x ⊕ neg (pt_of (u, v)).x)
unfolding pt_of
px-nn x y u v l = nn-sub x u l

-- ---- points by their number
module _ (p : List ℕ) where
  -- point i, seen from either end
  abbrev pub Q : Bool → ℕ → Pt
  Q o i = pt_of (seen o (x_at p i), seen o (y_at p i))

  -- every point, seen so, lies on the right of the way from a to b, or on it between them
  abbrev pub EdgeI : Bool → Pt → Pt → Type 0
  EdgeI o a b = (i : ℕ) → i < many p → Side a b (Q o i)

  seen-le : Bounded p → (o : Bool) (i : ℕ) → i < many p → (seen o (x_at p i) ≤ 8192) × (seen o (y_at p i) ≤ 8192)
  seen-le b false i l = (b (2 * i) (omega arith), b (2 * i + 1) (omega arith))
  seen-le b true i l = (omega arith, omega arith)

  pub full_at : Bounded p → (o : Bool) (a : List ℕ) → Tops o p (many p) a → (i : ℕ) → i < many p → Full (value_at a) (seen o (x_at p i))
  full_at b o a t i l = let s = seen-le b o i l in let u = t.above i l in (omega arith, omega arith)

  -- a point below one of the same x
  id-lower : (u c t : Pt) (y : ℤ)
      → cross u c (record { x = t.x; y = y }) ≡ cross u c t ⊕ (c.x ⊕ neg u.x) ⊗ (y ⊕ neg t.y)
  unfolding cross
  id-lower u c t y = solve (u.x ∷ u.y ∷ c.x ∷ c.y ∷ t.x ∷ t.y ∷ y ∷ [])
      ((X 1 :- X 0) :* (𝕧 6 :- Y 0) :- (Y 1 :- Y 0) :* (X 2 :- X 0)) (C 0 1 2 :+ (X 1 :- X 0) :* (𝕧 6 :- Y 2)) refl

  lower_by : (u c : Pt) (w h y : ℕ) (d : ℤ) → c.x ⊕ neg u.x ≡ d
      → cross u c (pt_of (w, y)) ≡ cross u c (pt_of (w, h)) ⊕ d ⊗ (pos y ⊕ neg (pos h))
  unfolding pt_of
  lower_by u c w h y d e = id-lower u c (record { x = pos w; y = pos h }) (pos y)
      ∙ ap (λ (t : ℤ). cross u c (record { x = pos w; y = pos h }) ⊕ t ⊗ (pos y ⊕ neg (pos h))) e

  -- an edge between two vertices
  pub edge_of : Bounded p → (o : Bool) (a : List ℕ) → Tops o p (many p) a → (u x : ℕ) → u < x
      → ((w : ℕ) → w < 8193 → Full (value_at a) w → Right (value_at a) u x w) → EdgeI o (pt (value_at a) u) (pt (value_at a) x)
  unfolding Side
  edge_of b o a t u x ux right i l =
      let w = seen o (x_at p i) in
      let f = full_at b o a t i l in
      let r = right w f.0 f in
      let up = t.above i l in
      let low : NN (pos (seen o (y_at p i)) ⊕ neg (pos (value_at a w))) = nn-sub (seen o (y_at p i)) (value_at a w) up in
      let wide : PP (pos x ⊕ neg (pos u)) = pp-sub x u ux in
      let e : cross (pt (value_at a) u) (pt (value_at a) x) (Q o i)
      ≡ cross (pt (value_at a) u) (pt (value_at a) x) (pt (value_at a) w) ⊕ (pos x ⊕ neg (pos u)) ⊗ (pos (seen o (y_at p i)) ⊕ neg (pos (value_at a w))) =
      lower_by (pt (value_at a) u) (pt (value_at a) x) w (value_at a w) (seen o (y_at p i)) (pos x ⊕ neg (pos u)) (unfold pt_of in refl) in (
        nn≡ (nn+ r.0 (nn* (pn wide) low)) (sym e),
        λ z.
            let s = sum0 r.0 (nn* (pn wide) low) (sym e ∙ z) in
            let k = r.1 s.0 in
            between (pt (value_at a) u) (pt (value_at a) x) (Q o i) (px-pp x (value_at a x) u (value_at a u) ux) (px-nn w (seen o (y_at p i)) u (value_at a u) k.0)
            (px-nn x (value_at a x) w (seen o (y_at p i)) k.1) z,
      )

  -- ---- the edge between the last vertex above and the first below: straight down
  id-down : (x ty uy px py : ℤ)
      → cross (record { x = x; y = ty }) (record { x = x; y = uy }) (record { x = px; y = py }) ≡ (uy ⊕ neg ty) ⊗ (x ⊕ neg px)
  unfolding cross
  id-down x ty uy px py = solve (x ∷ ty ∷ uy ∷ px ∷ py ∷ [])
      ((𝕧 0 :- 𝕧 0) :* (𝕧 4 :- 𝕧 1) :- (𝕧 2 :- 𝕧 1) :* (𝕧 3 :- 𝕧 0)) ((𝕧 2 :- 𝕧 1) :* (𝕧 0 :- 𝕧 3)) refl

  id-dot : (x ty uy py : ℤ)
      → neg (dot (record { x = x; y = py }) (record { x = x; y = ty }) (record { x = x; y = uy })) ≡ (py ⊕ neg ty) ⊗ (uy ⊕ neg py)
  unfolding dot
  id-dot x ty uy py = solve (x ∷ ty ∷ uy ∷ py ∷ [])
      (:n ((𝕧 0 :- 𝕧 0) :* (𝕧 0 :- 𝕧 0) :+ (𝕧 1 :- 𝕧 3) :* (𝕧 2 :- 𝕧 3))) ((𝕧 3 :- 𝕧 1) :* (𝕧 2 :- 𝕧 3)) refl

  -- x is the greatest, and where a point has it, its y is from ty to uy
  pub side-down : (o : Bool) (x ty uy : ℕ) → ty < uy → ((i : ℕ) → i < many p → seen o (x_at p i) ≤ x)
      → ((i : ℕ) → i < many p → seen o (x_at p i) ≡ x → (ty ≤ seen o (y_at p i)) × (seen o (y_at p i) ≤ uy))
      → EdgeI o (pt_of (x, ty)) (pt_of (x, uy))
  unfolding Side pt_of
  side-down o x ty uy less most range i l =
      let px = seen o (x_at p i) in
      let py = seen o (y_at p i) in
      let h : PP (pos uy ⊕ neg (pos ty)) = pp-sub uy ty less in
      let e = id-down (pos x) (pos ty) (pos uy) (pos px) (pos py) in (
        nn≡ (nn* (pn h) (nn-sub x px (most i l))) (sym e),
        λ z. on px py (most i l) (range i l) (div0 h (sym e ∙ z)),
      )
    where
      on : (px py : ℕ) → px ≤ x → (px ≡ x → (ty ≤ py) × (py ≤ uy)) → pos x ⊕ neg (pos px) ≡ 𝟘
          → NN (neg (dot (record { x = pos px; y = pos py }) (record { x = pos x; y = pos ty }) (record { x = pos x; y = pos uy })))
      on px py le r z =
          let q : px ≡ x = same px le z in
          let b = r q in
          subst
          (λ (t : ℕ).
          NN (neg (dot (record { x = pos t; y = pos py }) (record { x = pos x; y = pos ty }) (record { x = pos x; y = pos uy }))))
          (sym q) (nn≡ (nn* (nn-sub py ty b.0) (nn-sub uy py b.1)) (sym (id-dot (pos x) (pos ty) (pos uy) (pos py))))
        where
          same : (px : ℕ) → px ≤ x → pos x ⊕ neg (pos px) ≡ 𝟘 → px ≡ x
          same px le z = go (Rattle.laws.proofs.Bools.le-or-lt x px)
            where
              go : (x ≤ px) ⊎ (px < x) → px ≡ x
              go (inl a) = omega arith
              go (inr a) = absurd (p0 (pp-sub x px a) z)

-- ---- from the other end
unfoldable pub half : Pt → Pt
half q = record { x = pos 8192 ⊕ neg q.x; y = pos 8192 ⊕ neg q.y }

half-turn : (a b c : Pt) → cross (half a) (half b) c ≡ cross a b (half c)
unfolding cross half
half-turn a b c = solve (pos 8192 ∷ pos 8192 ∷ env (a ∷ b ∷ c ∷ []))
    (((𝕧 0 :- X 2) :- (𝕧 0 :- X 1)) :* (Y 3 :- (𝕧 0 :- Y 1)) :- ((𝕧 0 :- Y 2) :- (𝕧 0 :- Y 1)) :* (X 3 :- (𝕧 0 :- X 1)))
    ((X 2 :- X 1) :* ((𝕧 0 :- Y 3) :- Y 1) :- (Y 2 :- Y 1) :* ((𝕧 0 :- X 3) :- X 1)) refl

half-dot : (a b c : Pt) → dot c (half a) (half b) ≡ dot (half c) a b
unfolding dot half
half-dot a b c = solve (pos 8192 ∷ pos 8192 ∷ env (a ∷ b ∷ c ∷ []))
    (((𝕧 0 :- X 1) :- X 3) :* ((𝕧 0 :- X 2) :- X 3) :+ ((𝕧 0 :- Y 1) :- Y 3) :* ((𝕧 0 :- Y 2) :- Y 3))
    ((X 1 :- (𝕧 0 :- X 3)) :* (X 2 :- (𝕧 0 :- X 3)) :+ (Y 1 :- (𝕧 0 :- Y 3)) :* (Y 2 :- (𝕧 0 :- Y 3))) refl

side-half : (a b c : Pt) → Side a b (half c) → Side (half a) (half b) c
unfolding Side
side-half a b c s =
    (nn≡ s.0 (sym (half-turn a b c)), λ z. nn≡ (s.1 (sym (half-turn a b c) ∙ z)) (ap neg (sym (half-dot a b c))))

pub half_of : (x y : ℕ) → x ≤ 8192 → y ≤ 8192 → half (pt_of (x, y)) ≡ pt_of (8192 - x, 8192 - y)
unfolding half pt_of
half_of x y a b = pt≡ _ _ (sym (sub-nat 8192 x a)) (sym (sub-nat 8192 y b))

-- ---- all points of a list
pub mem_index : (p : List ℕ) (q : Pt) → Mem q (pts_of (pairs_of p)) → (i : ℕ) × (i < many p) × (q ≡ pt_of (x_at p i, y_at p i))
unfolding pairs_of
mem_index [] q m = elim m [ ]
mem_index (x ∷ []) q m = elim m [ ]
mem_index (x ∷ y ∷ p) q (Memᴰ.head e) = (0, omega arith, e)
mem_index (x ∷ y ∷ p) q (Memᴰ.tail m) =
    let r = mem_index p q m in (
      suc r.0,
      omega (arith, r.1),
      r.2 ∙ ap₂ (λ (a b : ℕ). pt_of (get_or (x ∷ y ∷ p) a 0, get_or (x ∷ y ∷ p) b 0)) (even r.0) (odd r.0),
    )
  where
    even : (i : ℕ) → suc (suc (2 * i)) ≡ 2 * suc i
    even i = omega arith

    odd : (i : ℕ) → suc (suc (2 * i + 1)) ≡ 2 * suc i + 1
    odd i = omega arith

pub index-mem : (p : List ℕ) (i : ℕ) → i < many p → Mem (pt_of (x_at p i, y_at p i)) (pts_of (pairs_of p))
unfolding pairs_of
index-mem [] i l = absurd (omega arith)
index-mem (x ∷ []) i l = absurd (omega arith)
index-mem (x ∷ y ∷ p) zero l = Memᴰ.head refl
index-mem (x ∷ y ∷ p) (suc i) l =
    Memᴰ.tail (subst (λ (q : Pt). Mem q (pts_of (pairs_of p)))
    (ap₂ (λ (a b : ℕ). pt_of (get_or (x ∷ y ∷ p) a 0, get_or (x ∷ y ∷ p) b 0)) (even i) (odd i)) (index-mem p i (omega arith)))
  where
    even : (i : ℕ) → suc (suc (2 * i)) ≡ 2 * suc i
    even i = omega arith

    odd : (i : ℕ) → suc (suc (2 * i + 1)) ≡ 2 * suc i + 1
    odd i = omega arith

pub edge-false : (p : List ℕ) (a b : Pt) → EdgeI p false a b → Edge (pts_of (pairs_of p)) a b
unfolding Edge
edge-false p a b h q m = let r = mem_index p q m in subst (Side a b) (sym r.2) (h r.0 r.1)

pub edge-true : (p : List ℕ) → Bounded p → (a b : Pt) → EdgeI p true a b → Edge (pts_of (pairs_of p)) (half a) (half b)
unfolding Edge
edge-true p bd a b h q m =
    let r = mem_index p q m in
    let l = r.1 in
    let s : Side a b (half (pt_of (x_at p r.0, y_at p r.0))) =
    subst (Side a b) (sym (half_of (x_at p r.0) (y_at p r.0) (bd (2 * r.0) (omega arith)) (bd (2 * r.0 + 1) (omega arith))))
    (h r.0 l) in
    side-half a b q (subst (λ (t : Pt). Side a b (half t)) (sym r.2) s)
