-- The quad runs clockwise, for every list of points.
--     ahead                        from an end of a pair, what lies no farther from its other end than that pair is long lies ahead
--     four-clockwise               a farthest pair with a point on either side of it
--     far-mem, far-most            what the search for the farthest pair finds
--     quad-clockwise               so every quad
-- Assumes nothing.
use mathlib.Core.Path.{◌≡◌, refl, sym, ◌∙◌, ap, subst}
use mathlib.Core.Logic.{◌⊎◌, inl, inr, ◌≢◌}
use mathlib.Core.Bool.{Bool, true, false}
use mathlib.Core.List.{List, [], ◌∷◌, Memᴰ}
use lib.Dec.{ltb}
use lib.IntN.{ℤ}
use lib.ListN.{length}
use Rattle.whole.specs.Numbers.{◌⊕◌, neg, 𝟘, 𝟙, NN, PP}
use Rattle.whole.specs.Points.{Pt, cross, d2, Mem, Fan, Clockwise}
use Rattle.whole.specs.Quad.{amax, pairs, dist, corners, farthest, quad, Top}
use Rattle.whole.proofs.Sums.{𝟘-⊕, neg-⊕}
use Rattle.whole.proofs.Ring.{Expr, ◌:+◌, ◌:-◌, ◌:*◌, solve}
use Rattle.whole.proofs.Ord.{Sign, above, equal, below, sign, pn, nn+, pn+, nn≡, pp≡, p0, p1, pnn}
use Rattle.whole.proofs.Turns.{lin, X, Y, S, env, cyc, cross-o, cross-l, cross-same, d2_n, d2-self, less0}
use Rattle.whole.proofs.Edge.{d2_p', pt-dec, fan}
use Rattle.whole.proofs.Quads.{Best, amax-ok, Corners, nope, yep, corners-ok, pair-mem, pair-has, d2-sym}

-- ---- four points

-- the way from a to b
abbrev pub way : Pt → Pt → Pt
way a b = record { x = b.x ⊕ neg a.x; y = b.y ⊕ neg a.y }

twice : (a b p : Pt) → d2 a p ⊕ (d2 a b ⊕ neg (d2 b p)) ≡ lin (way a b) a p ⊕ lin (way a b) a p
unfolding d2 lin
twice a b p = solve (env (a ∷ b ∷ p ∷ [])) (S 0 2 :+ (S 0 1 :- S 1 2)) (W :+ W) refl
  where
    W : Expr
    W = (X 1 :- X 0) :* (X 2 :- X 0) :+ (Y 1 :- Y 0) :* (Y 2 :- Y 0)

half : (z : ℤ) → PP (z ⊕ z) → PP z
half z h = go (sign z)
  where
    go : Sign z → PP z
    go (above p) = p
    go (equal e) = absurd (p0 h (ap (λ t. t ⊕ t) e ∙ 𝟘-⊕ 𝟘))
    go (below p) = absurd (pnn h (nn≡ (nn+ (pn p) (pn p)) (sym (neg-⊕ z z))))

pub ahead : (a b p : Pt) → NN (d2 a b ⊕ neg (d2 b p)) → p ≢ a → PP (lin (way a b) a p)
ahead a b p near other = half _ (pp≡ (pn+ (d2_p' a p other) near) (twice a b p))

-- seen from a, d comes before c, where d is on the left of the way to b and c on the right, and all lie ahead
before : (a b c d : Pt) → PP (cross a b c) → PP (cross b a d) → NN (d2 a b ⊕ neg (d2 b c)) → NN (d2 a b ⊕ neg (d2 b d)) → PP (cross a d c)
before a b c d right left near-c near_d =
    fan (way a b) a d b c (ahead a b d near_d not-d) (ahead a b b near-b not-b) (ahead a b c near-c not-c) (pp≡ left (cyc b a d)) right
  where
    not-c : c ≢ a
    not-c e = p0 right (ap (cross a b) e ∙ cross-o a b)

    not-d : d ≢ a
    not-d e = p0 left (ap (cross b a) e ∙ cross-same b a)

    not-b : b ≢ a
    not-b e = p0 right (ap (λ t. cross a t c) e ∙ cross-l a c)

    near-b : NN (d2 a b ⊕ neg (d2 b b))
    near-b = nn≡ (d2_n a b) (sym (ap (λ t. d2 a b ⊕ neg t) (d2-self b) ∙ less0 (d2 a b)))

pub four-clockwise : (a b c d : Pt) → PP (cross a b c) → PP (cross b a d)
    → NN (d2 a b ⊕ neg (d2 a c)) → NN (d2 a b ⊕ neg (d2 a d)) → NN (d2 a b ⊕ neg (d2 b c)) → NN (d2 a b ⊕ neg (d2 b d))
    → Clockwise (a ∷ d ∷ b ∷ c ∷ [])
four-clockwise a b c d right left ac ad bc bd = (at_a, (at-d, (at_b, (tt, tt))))
  where
    none : (e f : Pt) (p : Pt) → Mem p [] → PP (cross e f p)
    none e f p m = elim m [ ]

    one : (e f g : Pt) → PP (cross e f g) → (p : Pt) → Mem p (g ∷ []) → PP (cross e f p)
    one e f g h p (Memᴰ.head q) = subst (λ t. PP (cross e f t)) (sym q) h
    one e f g h p (Memᴰ.tail t) = elim t [ ]

    two : (e f g k : Pt) → PP (cross e f g) → PP (cross e f k) → (p : Pt) → Mem p (g ∷ k ∷ []) → PP (cross e f p)
    two e f g k h j p (Memᴰ.head q) = subst (λ t. PP (cross e f t)) (sym q) h
    two e f g k h j p (Memᴰ.tail t) = one e f k j p t

    to-b : (p q : Pt) → NN (d2 a b ⊕ neg (d2 p q)) → NN (d2 b a ⊕ neg (d2 p q))
    to-b p q h = nn≡ h (ap (λ t. t ⊕ neg (d2 p q)) (d2-sym a b))

    -- seen from a, and from b
    d-c : PP (cross a d c)
    d-c = before a b c d right left bc bd

    c-d : PP (cross b c d)
    c-d = before b a d c left right (to-b a d ad) (to-b a c ac)

    at_a : Fan a (d ∷ b ∷ c ∷ [])
    at_a = (two a d b c (pp≡ left (cyc b a d)) d-c, (one a b c right, (none a c, tt)))

    at-d : Fan d (b ∷ c ∷ [])
    at-d = (one d b c (pp≡ c-d (cyc b c d ∙ cyc c d b)), (none d c, tt))

    at_b : Fan b (c ∷ [])
    at_b = (none b c, tt)

-- ---- the farthest pair

-- Both of the farthest pair are points of a list that has any.
pub far-mem : (h : Pt) (l : List Pt) → Mem (farthest (h ∷ l)).0 (h ∷ l) × Mem (farthest (h ∷ l)).1 (h ∷ l)
unfolding farthest
far-mem h l = go (amax-ok dist (h, h) (neg 𝟙) (pairs (h ∷ l))).from
  where
    q : (Pt × Pt) × ℤ
    q = amax dist (h, h) (neg 𝟙) (pairs (h ∷ l))

    go : (q ≡ ((h, h), neg 𝟙)) ⊎ (Memᴰ q.0 (pairs (h ∷ l)) × (q.1 ≡ dist q.0)) → Mem q.0.0 (h ∷ l) × Mem q.0.1 (h ∷ l)
    go (inl e) = (Memᴰ.head (ap (λ t. t.0.0) e), Memᴰ.head (ap (λ t. t.0.1) e))
    go (inr m) = pair-mem (h ∷ l) q.0 m.0

-- No two points are farther apart.
pub far-most : (H : List Pt) (u w : Pt) → Mem u H → Mem w H → NN (d2 (farthest H).0 (farthest H).1 ⊕ neg (d2 u w))
unfolding farthest
far-most [] u w mu mw = elim mu [ ]
far-most (h ∷ l) u w mu mw = go (pt-dec u w)
  where
    q : (Pt × Pt) × ℤ
    q = amax dist (h, h) (neg 𝟙) (pairs (h ∷ l))

    r : Best dist (h, h) (neg 𝟙) (pairs (h ∷ l)) q
    r = amax-ok dist (h, h) (neg 𝟙) (pairs (h ∷ l))

    most : Memᴰ {A = Pt × Pt} (u, w) (pairs (h ∷ l)) ⊎ Memᴰ {A = Pt × Pt} (w, u) (pairs (h ∷ l)) → NN (q.1 ⊕ neg (d2 u w))
    most (inl m) = r.most (u, w) m
    most (inr m) = nn≡ (r.most (w, u) m) (ap (λ z. q.1 ⊕ neg z) (d2-sym w u))

    minus : (z : ℤ) → NN z → NN (neg 𝟙 ⊕ neg z) → ⊥
    minus z n k = pnn (pn+ p1 n) (nn≡ k (sym (neg-⊕ 𝟙 z)))

    found : NN (q.1 ⊕ neg (d2 u w)) → (q ≡ ((h, h), neg 𝟙)) ⊎ (Memᴰ q.0 (pairs (h ∷ l)) × (q.1 ≡ dist q.0))
        → NN (d2 q.0.0 q.0.1 ⊕ neg (d2 u w))
    found n (inl e) = absurd (minus (d2 u w) (d2_n u w) (nn≡ n (ap (λ z. z.1 ⊕ neg (d2 u w)) e)))
    found n (inr m) = nn≡ n (ap (λ z. z ⊕ neg (d2 u w)) m.1)

    go : Dec (u ≡ w) → NN (d2 q.0.0 q.0.1 ⊕ neg (d2 u w))
    go (yes e) = nn≡ (d2_n q.0.0 q.0.1)
        (sym (ap (λ z. d2 q.0.0 q.0.1 ⊕ neg z) (ap (d2 u) (sym e) ∙ d2-self u) ∙ less0 (d2 q.0.0 q.0.1)))
    go (no n) = found (most (pair-has (h ∷ l) u w mu mw n)) r.from

-- ---- the quad

corners-clockwise : (h : Pt) (l : List Pt) → Clockwise (corners (farthest (h ∷ l)).0 (farthest (h ∷ l)).1 (h ∷ l))
unfolding Top
corners-clockwise h l = go (corners a b H) (corners-ok a b H)
  where
    H : List Pt
    H = h ∷ l

    a : Pt
    a = (farthest (h ∷ l)).0

    b : Pt
    b = (farthest (h ∷ l)).1

    go : (k : List Pt) → Corners a b H k → Clockwise k
    go k (nope e bare) = subst Clockwise (sym e) tt
    go k (yep c d e mc md tc td) =
        let m = far-mem h l in
        subst Clockwise (sym e)
        (four-clockwise a b c d tc.0 td.0 (far-most H a c m.0 mc) (far-most H a d m.0 md) (far-most H b c m.1 mc)
        (far-most H b d m.1 md))

pub quad-clockwise : (H : List Pt) → Clockwise (quad H)
unfolding quad
quad-clockwise [] = tt
quad-clockwise (h ∷ l) = go (ltb (length (h ∷ l)) 4)
  where
    go : (t : Bool) → Clockwise (elim t [ true ↦ [] | false ↦ corners (farthest (h ∷ l)).0 (farthest (h ∷ l)).1 (h ∷ l) ])
    go true = tt
    go false = corners-clockwise h l
