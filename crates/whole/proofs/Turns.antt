-- Points, the turn of three points, and the laws of turns that the hull needs.
--     pt≡                            points by their coordinates
--     cyc, swap, rot2, cross-..      the turn with its points in another order, or equal
--     plu, tri                       the identities of four and five points
--     d2.., lin-self, ge-..          distances, and the order of points seen from one
-- Assumes nothing.
use mathlib.Core.Path.{◌≡◌, refl, sym, ◌∙◌, ap, subst}
use mathlib.Core.Logic.{◌⊎◌, inl, inr}
use mathlib.Core.List.{List, [], ◌∷◌}
use Prim.Native.Nat.{ℕ, ◌+◌, ◌*◌}
use lib.IntN.{ℤ, pos}
use Rattle.whole.specs.Numbers.{◌⊕◌, ◌⊗◌, neg, 𝟘, NN, PP}
use Rattle.whole.proofs.Sums.{𝟘-⊕, ⊗-𝟘, ⊕-neg}
use Rattle.whole.proofs.Ring.{Expr, 𝕧, 𝕜, ◌:+◌, ◌:-◌, ◌:*◌, :n, solve}
use Rattle.whole.proofs.Ord.{pn, nn+, nn*, p0, nn≡, z0, anti, div_n, div0, sq_n, sq0, sum0, sub0}
use Rattle.whole.specs.Points.{Pt, cross, d2}

pub pt≡ : (a b : Pt) → a.x ≡ b.x → a.y ≡ b.y → a ≡ b
pt≡ a b p q = λ i. record { x = p i; y = q i }

-- f · (p − c)
unfoldable pub lin : Pt → Pt → Pt → ℤ
lin f c p = f.x ⊗ (p.x ⊕ neg c.x) ⊕ f.y ⊗ (p.y ⊕ neg c.y)

-- the same as expressions; point i has the variables 2i and 2i + 1
abbrev pub X : ℕ → Expr
X i = 𝕧 (2 * i)

abbrev pub Y : ℕ → Expr
Y i = 𝕧 (2 * i + 1)

abbrev pub C : ℕ → ℕ → ℕ → Expr
C o a b = (X a :- X o) :* (Y b :- Y o) :- (Y a :- Y o) :* (X b :- X o)

abbrev pub D : ℕ → ℕ → ℕ → Expr
D o a b = (X a :- X o) :* (X b :- X o) :+ (Y a :- Y o) :* (Y b :- Y o)

abbrev pub S : ℕ → ℕ → Expr
S a b = (X a :- X b) :* (X a :- X b) :+ (Y a :- Y b) :* (Y a :- Y b)

abbrev pub L : ℕ → ℕ → ℕ → Expr
L f c p = X f :* (X p :- X c) :+ Y f :* (Y p :- Y c)

abbrev pub O : Expr
O = 𝕜 (pos 0)

abbrev pub env : List Pt → List ℤ
env [] = []
env (p ∷ ps) = p.x ∷ p.y ∷ env ps

-- identities
pub cyc : (a b c : Pt) → cross a b c ≡ cross b c a
unfolding cross
cyc a b c = solve (env (a ∷ b ∷ c ∷ [])) (C 0 1 2) (C 1 2 0) refl

pub swap : (a b c : Pt) → cross a c b ≡ neg (cross a b c)
unfolding cross
swap a b c = solve (env (a ∷ b ∷ c ∷ [])) (C 0 2 1) (:n (C 0 1 2)) refl

pub rot2 : (a b c : Pt) → cross b a c ≡ neg (cross a b c)
unfolding cross
rot2 a b c = solve (env (a ∷ b ∷ c ∷ [])) (C 1 0 2) (:n (C 0 1 2)) refl

pub cross-o : (c u : Pt) → cross c u c ≡ 𝟘
unfolding cross 𝟘
cross-o c u = solve (env (c ∷ u ∷ [])) (C 0 1 0) O refl

pub cross-l : (c u : Pt) → cross c c u ≡ 𝟘
unfolding cross 𝟘
cross-l c u = solve (env (c ∷ u ∷ [])) (C 0 0 1) O refl

pub cross-same : (c u : Pt) → cross c u u ≡ 𝟘
unfolding cross 𝟘
cross-same c u = solve (env (c ∷ u ∷ [])) (C 0 1 1) O refl

pub plu : (f c u a w : Pt) → lin f c a ⊗ cross c u w ≡ lin f c u ⊗ cross c a w ⊕ lin f c w ⊗ cross c u a
unfolding cross lin
plu f c u a w = solve (env (f ∷ c ∷ u ∷ a ∷ w ∷ [])) (L 0 1 3 :* C 1 2 4) (L 0 1 2 :* C 1 3 4 :+ L 0 1 4 :* C 1 2 3) refl

-- the weights of e in the triangle a b c
pub tri : (f a b c e : Pt) → cross b c e ⊗ lin f e a ⊕ cross c a e ⊗ lin f e b ⊕ cross a b e ⊗ lin f e c ≡ 𝟘
unfolding cross lin 𝟘
tri f a b c e = solve (env (f ∷ a ∷ b ∷ c ∷ e ∷ [])) (C 2 3 4 :* L 0 4 1 :+ C 3 1 4 :* L 0 4 2 :+ C 1 2 4 :* L 0 4 3) O refl

pub d2_n : (a b : Pt) → NN (d2 a b)
unfolding d2
d2_n a b = nn+ (sq_n _) (sq_n _)

pub d2-0 : (a b : Pt) → d2 a b ≡ 𝟘 → a ≡ b
unfolding d2
d2-0 a b e = let h =
    sum0 (sq_n (a.x ⊕ neg b.x)) (sq_n (a.y ⊕ neg b.y)) e in pt≡ a b (sub0 _ _ (sq0 _ h.0)) (sub0 _ _ (sq0 _ h.1))

pub d2-self : (a : Pt) → d2 a a ≡ 𝟘
unfolding d2 𝟘
d2-self a = solve (env (a ∷ [])) (S 0 0) O refl

-- ---- at least as far clockwise as seen from c, and among those in line at least as far
unfoldable pub Ge : Pt → Pt → Pt → Type 0
Ge c a b = NN (cross c a b) × (cross c a b ≡ 𝟘 → NN (d2 c a ⊕ neg (d2 c b)))

-- p is c, or f puts it above c
abbrev pub At : Pt → Pt → Pt → Type 0
At f c p = (p ≡ c) ⊎ PP (lin f c p)

pub less0 : (a : ℤ) → a ⊕ neg 𝟘 ≡ a
unfolding 𝟘
less0 a = solve (a ∷ []) (𝕧 0 :- 𝕜 (pos 0)) (𝕧 0) refl

pub lin-self : (f c : Pt) → lin f c c ≡ 𝟘
unfolding lin 𝟘
lin-self f c = solve (env (f ∷ c ∷ [])) (L 0 1 1) O refl

pub ge-bot : (c u : Pt) → Ge c u c
unfolding Ge
ge-bot c u = (nn≡ z0 (sym (cross-o c u)), λ _. nn≡ (d2_n c u) (sym (ap (λ z. d2 c u ⊕ neg z) (d2-self c) ∙ less0 (d2 c u))))

pub ge-refl : (c u : Pt) → Ge c u u
unfolding Ge
ge-refl c u = (nn≡ z0 (sym (cross-same c u)), λ _. nn≡ z0 (sym (⊕-neg (d2 c u))))

pub ge-top : (c w : Pt) → Ge c c w → w ≡ c
unfolding Ge
ge-top c w h = sym (d2-0 c w (anti (d2_n c w) (nn≡ (h.1 (cross-l c w)) (ap (λ z. z ⊕ neg (d2 c w)) (d2-self c) ∙ 𝟘-⊕ _))))

ge-main : (f c u a w : Pt) → PP (lin f c u) → PP (lin f c a) → PP (lin f c w) → Ge c u a → Ge c a w → Ge c u w
unfolding Ge
ge-main f c u a w hu ha hw g h = (
  div_n ha (nn≡ (nn+ (nn* (pn hu) h.0) (nn* (pn hw) g.0)) (sym (plu f c u a w))),
  λ e. let z = sum0 (nn* (pn hu) h.0) (nn* (pn hw) g.0) (sym (plu f c u a w) ∙ ap (λ t. lin f c a ⊗ t) e ∙ ⊗-𝟘 _) in
      nn≡ (nn+ (g.1 (div0 hw z.1)) (h.1 (div0 hu z.0))) (add (d2 c u) (d2 c a) (d2 c w)),
)
  where
    add : (p q r : ℤ) → (p ⊕ neg q) ⊕ (q ⊕ neg r) ≡ p ⊕ neg r
    add p q r = solve (p ∷ q ∷ r ∷ []) ((𝕧 0 :- 𝕧 1) :+ (𝕧 1 :- 𝕧 2)) (𝕧 0 :- 𝕧 2) refl

pub ge_trans : (f c u a w : Pt) → At f c u → At f c a → At f c w → Ge c u a → Ge c a w → Ge c u w
ge_trans f c u a w hu ha (inl e) g h = subst (Ge c u) (sym e) (ge-bot c u)
ge_trans f c u a w hu (inl e) (inr hw) g h = subst (Ge c u) (sym (ge-top c w (subst (λ t. Ge c t w) e h))) (ge-bot c u)
ge_trans f c u a w (inl e) (inr ha) (inr hw) g h = absurd (p0 ha (ap (lin f c) (ge-top c a (subst (λ t. Ge c t a) e g)) ∙ lin-self f c))
ge_trans f c u a w (inr hu) (inr ha) (inr hw) g h = ge-main f c u a w hu ha hw g h
