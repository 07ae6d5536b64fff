-- Turns of points whose x rises. Each is an identity of four points.
--     nn-sub, pp-sub                     differences of natural numbers
--     under-near, under-far              a popped vertex lies below the new edge, and so does what was below it
--     behind, before                     what lies before the new edge, and the new point seen from earlier edges
--     between                            a point on an edge
--     behind-sums                        the test of a turn by two products
-- Assumes nothing.
use mathlib.Core.Path.{◌≡◌, refl, sym, ap, ◌∙◌}
use mathlib.Core.List.{[], ◌∷◌}
use Prim.Native.Nat.{ℕ, suc, ◌+◌, ◌-◌, ◌*◌, ◌≤◌, ◌<◌}
use native.Mathlib.Nat.{add-mul, mul-add}
use native.Mathlib.Omega.{arith}
use lib.IntN.{ℤ, pos}
use Rattle.whole.specs.Numbers.{◌⊕◌, ◌⊗◌, neg, 𝟘, NN, nn, PP, pp}
use Rattle.whole.specs.Points.{Pt, cross, d2}
use Rattle.whole.proofs.Sums.{⊕-𝟘, 𝟘-⊗, sub-nat}
use Rattle.whole.proofs.Ring.{◌:+◌, ◌:-◌, ◌:*◌, :n, solve}
use Rattle.whole.proofs.Ord.{pn, nn+, np+, pn+, nn*, pp*, nn≡, pp≡, div_n, div_p}
use Rattle.whole.specs.IsHull.{dot}
use Rattle.whole.proofs.Turns.{X, Y, C, D, S, env, d2_n}
use Rattle.whole_hull.specs.Inner.{sum_l, sum_r}

pub nn-sub : (a b : ℕ) → b ≤ a → NN (pos a ⊕ neg (pos b))
nn-sub a b l = nn≡ (nn (a - b)) (sub-nat a b l)

pub pp-sub : (a b : ℕ) → b < a → PP (pos a ⊕ neg (pos b))
pp-sub a b l =
    let z : suc (a - suc b) ≡ a - b = omega arith in
    pp≡ (pp (a - suc b)) (ap pos z ∙ sub-nat a b (omega arith))

module _ (u c q w : Pt) where
  -- u, c, q: c is popped, since it is not on the right of u q
  id-near : (c.x ⊕ neg u.x) ⊗ cross u q w
      ≡ (q.x ⊕ neg u.x) ⊗ cross u c w ⊕ (w.x ⊕ neg u.x) ⊗ neg (cross u c q)
  unfolding cross
  id-near = solve (env (u ∷ c ∷ q ∷ w ∷ [])) ((X 1 :- X 0) :* C 0 2 3) ((X 2 :- X 0) :* C 0 1 3 :+ (X 3 :- X 0) :* :n (C 0 1 2)) refl

  pub under-near : PP (c.x ⊕ neg u.x) → NN (q.x ⊕ neg u.x) → NN (w.x ⊕ neg u.x) → NN (cross u c w) → NN (neg (cross u c q))
      → NN (cross u q w)
  under-near p a b h k = div_n p (nn≡ (nn+ (nn* a h) (nn* b k)) (sym id-near))

  id-far : (q.x ⊕ neg c.x) ⊗ cross u q w
      ≡ (q.x ⊕ neg u.x) ⊗ cross c q w ⊕ (q.x ⊕ neg w.x) ⊗ neg (cross u c q)
  unfolding cross
  id-far = solve (env (u ∷ c ∷ q ∷ w ∷ [])) ((X 2 :- X 1) :* C 0 2 3) ((X 2 :- X 0) :* C 1 2 3 :+ (X 2 :- X 3) :* :n (C 0 1 2)) refl

  pub under-far : PP (q.x ⊕ neg c.x) → NN (q.x ⊕ neg u.x) → NN (q.x ⊕ neg w.x) → NN (cross c q w) → NN (neg (cross u c q))
      → NN (cross u q w)
  under-far p a b h k = div_n p (nn≡ (nn+ (nn* a h) (nn* b k)) (sym id-far))

  -- u, c, q: c stays; w is before c
  id-behind : (c.x ⊕ neg u.x) ⊗ cross c q w
      ≡ (q.x ⊕ neg c.x) ⊗ cross u c w ⊕ (c.x ⊕ neg w.x) ⊗ cross u c q
  unfolding cross
  id-behind = solve (env (u ∷ c ∷ q ∷ w ∷ [])) ((X 1 :- X 0) :* C 1 2 3) ((X 2 :- X 1) :* C 0 1 3 :+ (X 1 :- X 3) :* C 0 1 2) refl

  pub behind : PP (c.x ⊕ neg u.x) → NN (q.x ⊕ neg c.x) → PP (c.x ⊕ neg w.x) → NN (cross u c w) → PP (cross u c q)
      → PP (cross c q w)
  behind p a b h k = div_p p (pp≡ (np+ (nn* a h) (pp* b k)) (sym id-behind))

  -- u, c, q, w in this order: turns at c and at q make one at c over w
  id-before : (q.x ⊕ neg c.x) ⊗ cross u c w
      ≡ (w.x ⊕ neg c.x) ⊗ cross u c q ⊕ (c.x ⊕ neg u.x) ⊗ cross c q w
  unfolding cross
  id-before = solve (env (u ∷ c ∷ q ∷ w ∷ [])) ((X 2 :- X 1) :* C 0 1 3) ((X 3 :- X 1) :* C 0 1 2 :+ (X 1 :- X 0) :* C 1 2 3) refl

  pub before : PP (q.x ⊕ neg c.x) → PP (w.x ⊕ neg c.x) → PP (c.x ⊕ neg u.x) → PP (cross u c q) → PP (cross c q w)
      → PP (cross u c w)
  before p a b h k = div_p p (pp≡ (pn+ (pp* a h) (pn (pp* b k))) (sym id-before))

-- a point on the line of u and c, between them by x
id-between : (u c p : Pt)
    → ((c.x ⊕ neg u.x) ⊗ (c.x ⊕ neg u.x)) ⊗ neg (dot p u c)
    ≡ ((p.x ⊕ neg u.x) ⊗ (c.x ⊕ neg p.x)) ⊗ d2 u c
    ⊕ cross u c p ⊗ ((c.y ⊕ neg u.y) ⊗ ((c.x ⊕ neg p.x) ⊕ neg (p.x ⊕ neg u.x)) ⊕ neg (cross u c p))
unfolding cross dot d2
id-between u c p = solve (env (u ∷ c ∷ p ∷ []))
    (((X 1 :- X 0) :* (X 1 :- X 0)) :* :n (D 2 0 1))
    (((X 2 :- X 0) :* (X 1 :- X 2)) :* S 0 1 :+ C 0 1 2 :* ((Y 1 :- Y 0) :* ((X 1 :- X 2) :- (X 2 :- X 0)) :- C 0 1 2)) refl

pub between : (u c p : Pt) → PP (c.x ⊕ neg u.x) → NN (p.x ⊕ neg u.x) → NN (c.x ⊕ neg p.x) → cross u c p ≡ 𝟘
    → NN (neg (dot p u c))
between u c p h a b e =
    div_n (pp* h h) (nn≡ (nn* (nn* a b) (d2_n u c)) (sym (id-between u c p ∙ drop0 _ _ _ e)))
  where
    drop0 : (g e h : ℤ) → e ≡ 𝟘 → g ⊕ e ⊗ h ≡ g
    drop0 g e h q = ap (λ t. g ⊕ t ⊗ h) q ∙ ap (λ t. g ⊕ t) (𝟘-⊗ h) ∙ ⊕-𝟘 g

-- ---- the test of `behind`: products of differences compare as the sums of products do
module _ (u c w yu yc yw l r : ℕ) (huc : u < c) (hcw : c < w) (hu : yu ≤ 8192) (el : l ≡ (yw + 8192 - yu) * (c - u))
    (er : r ≡ (yc + 8192 - yu) * (w - u)) where
  -- a difference counted from 8,192, and a difference of places, multiplied out
  out : (y k : ℕ) → (y + 8192 - yu) * k + yu * k ≡ y * k + 8192 * k
  out y k =
      let e : y + 8192 - yu + yu ≡ y + 8192 = omega arith in
      sym (add-mul (y + 8192 - yu) yu k) ∙ ap (λ (m : ℕ). m * k) e ∙ add-mul y 8192 k

  places : (y v : ℕ) → u ≤ v → y * (v - u) + y * u ≡ y * v
  places y v h = let e : v - u + u ≡ v = omega arith in sym (mul-add y (v - u) u) ∙ ap (λ (m : ℕ). y * m) e

  behind-nat : l + 8192 * (w - c) + (yc * w + yw * u + yu * c) ≡ r + (c * yw + w * yu + u * yc)
  behind-nat =
      let a₁ = out yw (c - u) in
      let a₂ = places yw c (omega arith) in
      let a₃ = places yu c (omega arith) in
      let b₁ = out yc (w - u) in
      let b₂ = places yc w (omega arith) in
      let b₃ = places yu w (omega arith) in
      omega (arith, el, er, a₁, a₂, a₃, b₁, b₂, b₃)

  pub behind-sums : (A : ℕ → ℕ) → yu ≡ A u → yc ≡ A c → yw ≡ A w → l + 8192 * (w - c) + sum_r A u c w ≡ r + sum_l A u c w
  unfolding sum_l sum_r
  behind-sums A eu ec ew = rw (sym eu, sym ec, sym ew) behind-nat
