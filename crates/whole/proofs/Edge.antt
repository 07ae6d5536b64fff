-- Edges of the hull: every point lies on the right side of a b or between a and b.
--     d2-dot, d2_p, more, bound       distances by dot products
--     Side, side-first, side-second, side-of, side-unique, not-between, strict, not-inside   what lying on the right side of an edge says
--     ext-of-edge, fan               the ends of an edge are extreme, and turns about an extreme point are transitive
-- Assumes nothing.
use mathlib.Core.Path.{◌≡◌, refl, sym, ◌∙◌, ap, subst}
use mathlib.Core.Logic.{◌⊎◌, inl, inr, ◌≢◌}
use mathlib.Core.List.Memᴰ
use mathlib.Core.List.{List, [], ◌∷◌}
use Prim.Native.Nat.{ℕ}
use lib.IntN.{ℤ, pos}
use Rattle.whole.specs.Numbers.{◌⊕◌, ◌⊗◌, neg, 𝟘, 𝟙, NN, PP}
use Rattle.whole.proofs.Sums.{⊕-𝟘, 𝟘-⊕, ⊗-𝟘, 𝟘-⊗, ⊕-neg}
use Rattle.whole.proofs.Ring.{Expr, 𝕧, 𝕜, ◌:+◌, ◌:-◌, ◌:*◌, :n, solve}
use Rattle.whole.proofs.Ord.{pn, nn+, pn+, np+, nn*, pp*, p0, nn≡, pp≡, z0, p1, above1, pnn, anti, nsplit, cmp, div_n, div_p}
use Rattle.whole.specs.Points.{Pt, cross, d2, Mem}
use Rattle.whole.specs.IsHull.{dot}
use Rattle.whole.proofs.Turns.{lin, X, Y, C, D, S, L, O, env, swap, cross-o, cross-same, plu, tri, d2_n, d2-0, d2-self, Ge, At, ge-top, lin-self}

-- p lies to the right of the way from a to b; or on the line, and then from a to b: not beyond either
unfoldable pub Side : Pt → Pt → Pt → Type 0
Side a b p = NN (cross a b p) × (cross a b p ≡ 𝟘 → NN (neg (dot p a b)))

-- the ends of the way lie so
pub side-first : (a b : Pt) → Side a b a
unfolding Side dot 𝟘
side-first a b = (nn≡ z0 (sym (cross-o a b)), λ e. nn≡ z0 (sym (solve (env (a ∷ b ∷ [])) (:n (D 0 0 1)) O refl)))

pub side-second : (a b : Pt) → Side a b b
unfolding Side dot 𝟘
side-second a b = (nn≡ z0 (sym (cross-same a b)), λ e. nn≡ z0 (sym (solve (env (a ∷ b ∷ [])) (:n (D 1 0 1)) O refl)))

-- every point lies on the right side of a b or between a and b
unfoldable pub Edge : List Pt → Pt → Pt → Type 0
Edge P a b = (p : Pt) → Mem p P → Side a b p

unfoldable pub Ext : List Pt → Pt → Type 0
Ext P c = (f : Pt) × ((p : Pt) → Mem p P → At f c p)

-- ---- identities
-- H (u·w − |u|²) = (K − H) |u|² + X (..), with u = p − c, w = n − c, H = f·u, K = f·w, X = (n−c)×(p−c)
id1 : (f c n p : Pt)
    → lin f c p ⊗ neg (dot p c n)
    ≡ (lin f c n ⊕ neg (lin f c p)) ⊗ d2 c p ⊕ cross c n p ⊗ (f.y ⊗ (p.x ⊕ neg c.x) ⊕ neg (f.x ⊗ (p.y ⊕ neg c.y)))
unfolding lin dot d2 cross
id1 f c n p = solve (env (f ∷ c ∷ n ∷ p ∷ [])) (L 0 1 3 :* :n (D 3 1 2))
    ((L 0 1 2 :- L 0 1 3) :* S 1 3 :+ C 1 2 3 :* (Y 0 :* (X 3 :- X 1) :- X 0 :* (Y 3 :- Y 1))) refl

-- the same with differences as variables: far fewer monomials
abbrev sub : Pt → Pt → Pt
sub p c = record { x = p.x ⊕ neg c.x; y = p.y ⊕ neg c.y }

abbrev V× : ℕ → ℕ → Expr
V× a b = X a :* Y b :- Y a :* X b

abbrev V· : ℕ → ℕ → Expr
V· a b = X a :* X b :+ Y a :* Y b

id2 : (f c n p : Pt)
    → (lin f c p ⊗ lin f c p) ⊗ (dot c n n ⊕ neg (dot c p p))
    ≡ dot c p p ⊗ ((lin f c n ⊕ lin f c p) ⊗ (lin f c n ⊕ neg (lin f c p))) ⊕ cross c n p ⊗
    (f.y ⊗ (lin f c p ⊗ (n.x ⊕ neg c.x) ⊕ lin f c n ⊗ (p.x ⊕ neg c.x)) ⊕ neg
    (f.x ⊗ (lin f c p ⊗ (n.y ⊕ neg c.y) ⊕ lin f c n ⊗ (p.y ⊕ neg c.y))))
unfolding lin dot cross
id2 f c n p = solve (env (f ∷ sub p c ∷ sub n c ∷ [])) ((V· 0 1 :* V· 0 1) :* (V· 2 2 :- V· 1 1))
    (V· 1 1 :* ((V· 0 2 :+ V· 0 1) :* (V· 0 2 :- V· 0 1)) :+ V× 2 1 :*
    (Y 0 :* (V· 0 1 :* X 2 :+ V· 0 2 :* X 1) :- X 0 :* (V· 0 1 :* Y 2 :+ V· 0 2 :* Y 1))) refl

pub d2-dot : (c p : Pt) → d2 c p ≡ dot c p p
unfolding d2 dot
d2-dot c p = solve (env (c ∷ p ∷ [])) (S 0 1) (D 0 1 1) refl

id3 : (f e a b : Pt)
    → lin f e a ⊗ dot e a b ≡ lin f e b ⊗ d2 e a ⊕ cross a b e ⊗ (f.x ⊗ (a.y ⊕ neg e.y) ⊕ neg (f.y ⊗ (a.x ⊕ neg e.x)))
unfolding lin d2 cross dot
id3 f e a b = solve (env (f ∷ e ∷ a ∷ b ∷ [])) (L 0 1 2 :* D 1 2 3)
    (L 0 1 3 :* S 1 2 :+ C 2 3 1 :* (X 0 :* (Y 2 :- Y 1) :- Y 0 :* (X 2 :- X 1))) refl

id4 : (a b p : Pt) → dot b a p ≡ d2 b p ⊕ neg (dot p a b)
unfolding d2 dot
id4 a b p = solve (env (a ∷ b ∷ p ∷ [])) (D 1 0 2) (S 1 2 :- D 2 0 1) refl

id5 : (a b c : Pt) → neg (dot c a b) ⊕ neg (dot b a c) ≡ neg (d2 b c)
unfolding d2 dot
id5 a b c = solve (env (a ∷ b ∷ c ∷ [])) (:n (D 2 0 1) :- D 1 0 2) (:n (S 1 2)) refl

drop0 : (e g h : ℤ) → e ≡ 𝟘 → g ⊕ e ⊗ h ≡ g
drop0 e g h q = ap (λ t. g ⊕ t ⊗ h) q ∙ ap (λ t. g ⊕ t) (𝟘-⊗ h) ∙ ⊕-𝟘 g

dot-c : (c n : Pt) → neg (dot c c n) ≡ 𝟘
unfolding dot 𝟘
dot-c c n = solve (env (c ∷ n ∷ [])) (:n (D 0 0 1)) O refl

-- ---- from the selection to the edge
pub d2_p : (f c p : Pt) → PP (lin f c p) → PP (d2 c p)
d2_p f c p h = go (nsplit (d2_n c p))
  where
    go : (d2 c p ≡ 𝟘) ⊎ PP (d2 c p) → PP (d2 c p)
    go (inl e) = absurd (p0 h (ap (lin f c) (sym (d2-0 c p e)) ∙ lin-self f c))
    go (inr q) = q

pub side-of : (f c n p : Pt) → At f c n → At f c p → Ge c n p → Side c n p
unfolding Side Ge
side-of f c n p hn (inl e) g = subst (Side c n) (sym e) (nn≡ z0 (sym (cross-o c n)), λ _. nn≡ z0 (sym (dot-c c n)))
side-of f c n p (inl e) (inr hp) g = absurd (p0 hp (ap (lin f c) (ge-top c p (subst (λ t. Ge c t p) e g)) ∙ lin-self f c))
side-of f c n p (inr hn) (inr hp) g = (
  g.0,
  λ e.
      let kh : NN (lin f c n ⊕ neg (lin f c p)) =
      div_n (pn+ hn (pn hp))
      (div_n (pp≡ (d2_p f c p hp) (d2-dot c p))
      (nn≡ (nn* (pn (pp* hp hp)) (rw (← d2-dot, ← d2-dot) (g.1 e))) (id2 f c n p ∙ drop0 _ _ _ e))) in
      div_n hp (nn≡ (nn* kh (d2_n c p)) (sym (id1 f c n p ∙ drop0 _ _ _ e))),
)

-- ---- the edge's second end is extreme
pub bound : (g : Pt → ℤ) (P : List Pt) → (m : ℤ) × NN m × ((p : Pt) → Mem p P → PP (m ⊕ g p))
bound g [] = (𝟘, z0, λ p h. elim h [ ])
bound g (q ∷ P) = let r = bound g P in let u = one (g q) (cmp (g q)) in
    (r.0 ⊕ u.0, nn+ r.1 u.1, λ p h. both q P r.0 u.0 r.1 u.1 u.2 r.2 p h)
  where
    one : (z : ℤ) → NN z ⊎ PP (neg z) → (m : ℤ) × NN m × PP (m ⊕ z)
    one z (inl h) = (𝟙, pn p1, pn+ p1 h)
    one z (inr h) = (𝟙 ⊕ neg z, pn (pn+ p1 (pn h)), pp≡ p1 (ring 𝟙 z))
      where
        ring : (a b : ℤ) → a ≡ a ⊕ neg b ⊕ b
        ring a b = solve (a ∷ b ∷ []) (𝕧 0) (𝕧 0 :- 𝕧 1 :+ 𝕧 1) refl

    r1 : (a b c : ℤ) → (b ⊕ c) ⊕ a ≡ a ⊕ b ⊕ c
    r1 a b c = solve (a ∷ b ∷ c ∷ []) (𝕧 1 :+ 𝕧 2 :+ 𝕧 0) (𝕧 0 :+ 𝕧 1 :+ 𝕧 2) refl

    r2 : (a b c : ℤ) → (a ⊕ c) ⊕ b ≡ a ⊕ b ⊕ c
    r2 a b c = solve (a ∷ b ∷ c ∷ []) (𝕧 0 :+ 𝕧 2 :+ 𝕧 1) (𝕧 0 :+ 𝕧 1 :+ 𝕧 2) refl

    both : (q : Pt) (P : List Pt) (m u : ℤ) → NN m → NN u → PP (u ⊕ g q) → ((p : Pt) → Mem p P → PP (m ⊕ g p)) → (p : Pt) → Mem p (q ∷ P)
        → PP (m ⊕ u ⊕ g p)
    both q P m u hm hu k h p (Memᴰ.head e) = subst (λ t. PP (m ⊕ u ⊕ g t)) (sym e) (pp≡ (pn+ k hm) (r1 m u (g q)))
    both q P m u hm hu k h p (Memᴰ.tail t) = pp≡ (pn+ (h p t) hu) (r2 m u (g p))

id6 : (m : ℤ) (a b p : Pt)
    → (m ⊗ neg (b.y ⊕ neg a.y) ⊕ (a.x ⊕ neg b.x)) ⊗ (p.x ⊕ neg b.x) ⊕ (m ⊗ (b.x ⊕ neg a.x) ⊕ (a.y ⊕ neg b.y)) ⊗
    (p.y ⊕ neg b.y) ≡ m ⊗ cross a b p ⊕ dot b a p
unfolding cross dot
id6 m a b p = solve (m ∷ m ∷ env (a ∷ b ∷ p ∷ []))
    ((𝕧 0 :* :n (Y 2 :- Y 1) :+ (X 1 :- X 2)) :* (X 3 :- X 2) :+ (𝕧 0 :* (X 2 :- X 1) :+ (Y 1 :- Y 2)) :* (Y 3 :- Y 2))
    (𝕧 0 :* C 1 2 3 :+ D 2 1 3) refl

ring-more : (m w d : ℤ) → m ⊗ w ⊕ (m ⊕ d) ≡ m ⊗ (𝟙 ⊕ w) ⊕ d
unfolding 𝟙
ring-more m w d = solve (m ∷ w ∷ d ∷ []) (𝕧 0 :* 𝕧 1 :+ (𝕧 0 :+ 𝕧 2)) (𝕧 0 :* (𝕜 (pos 1) :+ 𝕧 1) :+ 𝕧 2) refl

pub more : (m z d : ℤ) → NN m → PP z → PP (m ⊕ d) → PP (m ⊗ z ⊕ d)
more m z d hm hz h = let a = above1 hz in pp≡ (np+ (nn* hm a.1) h) (ring-more m a.0 d ∙ ap (λ t. m ⊗ t ⊕ d) (sym a.2))

pub d2_p' : (b p : Pt) → p ≢ b → PP (d2 b p)
d2_p' b p ne = go (nsplit (d2_n b p))
  where
    go : (d2 b p ≡ 𝟘) ⊎ PP (d2 b p) → PP (d2 b p)
    go (inl e) = absurd (ne (sym (d2-0 b p e)))
    go (inr q) = q

pub pt-dec : (a b : Pt) → Dec (a ≡ b)
pt-dec a b = go (nsplit (d2_n a b))
  where
    go : (d2 a b ≡ 𝟘) ⊎ PP (d2 a b) → Dec (a ≡ b)
    go (inl e) = yes (d2-0 a b e)
    go (inr q) = no (λ e. p0 q (ap (d2 a) (sym e) ∙ d2-self a))

pub ext-of-edge : (P : List Pt) (a b : Pt) → Edge P a b → Ext P b
unfolding Edge Ext Side lin
ext-of-edge P a b h = (f, λ p m. at p m (pt-dec p b))
  where
    bd : (m : ℤ) × NN m × ((p : Pt) → Mem p P → PP (m ⊕ dot b a p))
    bd = bound (λ p. dot b a p) P

    f : Pt
    f = record { x = bd.0 ⊗ neg (b.y ⊕ neg a.y) ⊕ (a.x ⊕ neg b.x); y = bd.0 ⊗ (b.x ⊕ neg a.x) ⊕ (a.y ⊕ neg b.y) }

    val : (p : Pt) → Mem p P → p ≢ b → (cross a b p ≡ 𝟘) ⊎ PP (cross a b p) → PP (bd.0 ⊗ cross a b p ⊕ dot b a p)
    val p m ne (inl e) = np+ (nn≡ z0 (sym (ap (λ t. bd.0 ⊗ t) e ∙ ⊗-𝟘 bd.0))) (pp≡ (pn+ (d2_p' b p ne) ((h p m).1 e)) (sym (id4 a b p)))
    val p m ne (inr q) = more bd.0 (cross a b p) (dot b a p) bd.1 q (bd.2 p m)

    at : (p : Pt) → Mem p P → Dec (p ≡ b) → At f b p
    at p m (yes e) = inl e
    at p m (no ne) = inr (pp≡ (val p m ne (nsplit (h p m).0)) (sym (id6 bd.0 a b p)))

-- ---- the second end is unique
pub side-unique : (a b c : Pt) → Side a b c → Side a c b → b ≡ c
unfolding Side
side-unique a b c s t =
    let e : cross a b c ≡ 𝟘 = anti s.0 (nn≡ t.0 (swap a b c)) in
    let e' : cross a c b ≡ 𝟘 = swap a b c ∙ ap neg e ∙ sym (𝟘-⊕ (neg 𝟘)) ∙ ⊕-neg 𝟘 in
    d2-0 b c (anti (d2_n b c) (nn≡ (nn+ (s.1 e) (t.1 e')) (id5 a b c)))

-- ---- an extreme point is between no two others
pub not-between : (f e a b : Pt) → PP (lin f e a) → PP (lin f e b) → cross a b e ≡ 𝟘 → NN (neg (dot e a b)) → ⊥
not-between f e a b ha hb z n = pnn (div_p ha (pp≡ (pp* hb (d2_p f e a ha)) (sym (id3 f e a b ∙ drop0 _ _ _ z)))) n

pub strict : (f e a b : Pt) → PP (lin f e a) → PP (lin f e b) → Side a b e → PP (cross a b e)
unfolding Side
strict f e a b ha hb s = go (nsplit s.0)
  where
    go : (cross a b e ≡ 𝟘) ⊎ PP (cross a b e) → PP (cross a b e)
    go (inl z) = absurd (not-between f e a b ha hb z (s.1 z))
    go (inr q) = q

-- ---- and in no triangle of three others
pub not-inside : (f e a b c : Pt) → NN (lin f e a) → PP (lin f e b) → NN (lin f e c) → NN (cross b c e) → PP (cross c a e)
    → NN (cross a b e) → ⊥
not-inside f e a b c ha hb hc α β γ = p0 (pn+ (np+ (nn* α ha) (pp* β hb)) (nn* γ hc)) (tri f a b c e)

-- ---- turns about an extreme point are transitive
pub fan : (f s a b c : Pt) → PP (lin f s a) → PP (lin f s b) → PP (lin f s c) → PP (cross s a b) → PP (cross s b c) → PP (cross s a c)
fan f s a b c ha hb hc p q = div_p hb (pp≡ (pn+ (pp* ha q) (pn (pp* hc p))) (sym (plu f s a b c)))
