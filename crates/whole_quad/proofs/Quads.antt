-- The quad by the folds that the code makes.
--     over-is, under-is, pair_is                    the two sides and the farthest pair
--     quad-few, quad-over, quad-under, quad-found   the quad from what the folds found
-- Assumes nothing.
use mathlib.Core.Path.{◌≡◌, refl, sym, ap, ap₂, ◌∙◌}
use mathlib.Core.Bool.{Bool, true, false, ◌&&◌}
use mathlib.Core.List.{List, [], ◌∷◌, map}
use Prim.Native.Nat.{ℕ, zero, suc, ◌+◌, ◌-◌, ◌*◌, ◌≤◌, ◌<◌}
use native.Mathlib.Omega.{arith}
use lib.Dec.{ltb}
use lib.ListN.{length, get_or}
use lib.IntN.{ℤ, pos}
use borrow.Author.Tests.{lt-ltb, le-ltb}
use Rattle.laws.specs.Lists.{range}
use Rattle.whole.specs.Numbers.{◌⊕◌, neg, 𝟘, 𝟙}
use Rattle.whole.specs.Points.{Pt, cross, d2, pt_at}
use Rattle.whole.specs.Hull.{is_neg}
use Rattle.whole.specs.Quad.{lace, area}
use Rattle.whole.specs.Walk.{keep, index_pairs, farthest_with, ends, quad_with, whole_ops, less_z}
use Rattle.whole.proofs.Sums.{𝟘-⊕}
use Rattle.whole.proofs.Ring.{Expr, 𝕧, ◌:+◌, ◌:-◌, ◌:*◌, :n, solve}
use Rattle.whole.proofs.Turns.{X, Y, C, env, rot2}
use Rattle.whole.proofs.Indexed.{keep-cong}
use Rattle.hull.specs.Points.{many, pts_of}
use Rattle.doubled.specs.Points.{pairs_of, x_at, y_at, Bounded}
use Rattle.doubled.specs.Outline.{quad_whole}
use Rattle.doubled.proofs.Points.{length_pairs, pair-any}
use Rattle.whole_quad.specs.Inner.{turn_l, turn_r, side_at, d2_at, apart, most_of}
use Rattle.whole_quad.proofs.Numbers.{less-nat, sub-pos}
use Rattle.whole_quad.proofs.Turns.{side-any, dist-any}
use Rattle.whole_quad.proofs.Pairs.{keep-value}

-- ---- identities
area-is : (a c b d : Pt) → area a c b d ≡ neg (cross a b c ⊕ cross b a d)
unfolding area lace cross
area-is a c b d = solve (env (a ∷ c ∷ b ∷ d ∷ [])) (W 0 1 :+ W 1 2 :+ W 2 3 :+ W 3 0) (:n (C 0 2 1 :+ C 2 0 3)) refl
  where
    W : ℕ → ℕ → Expr
    W p r = X p :* Y r :- X r :* Y p

-- two numbers that are counted from c compare as they do
differ : (c u s : ℤ) → (u ⊕ neg c) ⊕ neg (s ⊕ neg c) ≡ u ⊕ neg s
differ c u s = solve (u ∷ s ∷ c ∷ []) ((𝕧 0 :- 𝕧 2) :- (𝕧 1 :- 𝕧 2)) (𝕧 0 :- 𝕧 1) refl

less-from : (c u s : ℤ) (u' s' : ℕ) → u ≡ pos u' ⊕ neg c → s ≡ pos s' ⊕ neg c → less_z u s ≡ ltb u' s'
less-from c u s u' s' h k = ap is_neg (ap₂ (λ (x y : ℤ). x ⊕ neg y) h k ∙ differ c (pos u') (pos s')) ∙ less-nat u' s'

turned : (u s : ℤ) → s ⊕ neg u ≡ neg u ⊕ neg (neg s)
turned u s = solve (u ∷ s ∷ []) (𝕧 1 :- 𝕧 0) (:n (𝕧 0) :- :n (𝕧 1)) refl

none : neg 𝟘 ≡ 𝟘
unfolding neg 𝟘
none = refl

minus : (x y : ℕ) → 0 < x → is_neg (neg (pos x ⊕ pos y)) ≡ true
unfolding ◌⊕◌ neg
minus zero y h = absurd (omega arith)
minus (suc x) y h = let z : suc x + y ≡ suc (x + y) = omega arith in ap (λ (k : ℕ). is_neg (neg (pos k))) z

-- a point of the way itself
side-self : (p : List ℕ) (a b : ℕ) → 268435456 ≡ side_at p a b a
unfolding side_at turn_l turn_r
side-self p a b = omega arith

side-other : (p : List ℕ) (a b : ℕ) → 268435456 ≡ side_at p b a a
unfolding side_at turn_l turn_r
side-other p a b = omega arith

module _ (p : List ℕ) (even : length p ≡ 2 * many p) (bounded : Bounded p) where
  abbrev P : List Pt
  P = pts_of (pairs_of p)

  abbrev n : ℕ
  n = many p

  -- the right side, and the left one: the right one of the way back
  abbrev side : ℕ → ℕ → ℕ → ℤ
  side a b i = cross (pt_at P a) (pt_at P b) (pt_at P i)

  abbrev From : ℤ → ℕ → Type 0
  From z u = z ≡ pos u ⊕ neg (pos 268435456)

  level : From 𝟘 268435456
  unfolding 𝟘
  level = sym (sub-pos 268435456 268435456 (omega arith))

  over-is : (a b : ℕ)
      → ((keep less_z (side a b) a 𝟘 (range 0 n)).0 ≡ (most_of p a b a).0) × From (keep less_z (side a b) a 𝟘 (range 0 n)).1 (most_of p a b a).1
  unfolding most_of
  over-is a b =
      keep-cong From less_z ltb (side a b) (side_at p a b) (λ u s u' s' h k. less-from (pos 268435456) u s u' s' h k) a 𝟘 268435456 (range 0 n)
      level (λ i m. side-any p even bounded a b i)

  less-back : (u s : ℤ) (u' s' : ℕ) → From (neg u) u' → From (neg s) s' → less_z s u ≡ ltb u' s'
  less-back u s u' s' h k = ap is_neg (turned u s) ∙ less-from (pos 268435456) (neg u) (neg s) u' s' h k

  abbrev most-left : ℕ → ℕ → ℕ × ℤ
  most-left a b = keep (λ u s. less_z s u) (side a b) a 𝟘 (range 0 n)

  under-is : (a b : ℕ) → ((most-left a b).0 ≡ (most_of p b a a).0) × From (neg (most-left a b).1) (most_of p b a a).1
  unfolding most_of
  under-is a b =
      keep-cong (λ u u'. From (neg u) u') (λ u s. less_z s u) ltb (side a b) (side_at p b a) less-back a 𝟘 268435456 (range 0 n) (none ∙ level)
      (λ i m. sym (rot2 (pt_at P a) (pt_at P b) (pt_at P i)) ∙ side-any p even bounded b a i)

  -- the farthest pair
  less-far : (d : ℕ) → pos d ≡ pos (d + 1) ⊕ neg 𝟙
  unfolding 𝟙
  less-far d = let z : d ≡ d + 1 - 1 = omega arith in ap pos z ∙ sym (sub-pos (d + 1) 1 (omega arith))

  pair_is : (keep ltb (apart p) (0, 0) 0 (index_pairs 0 n)).0 ≡ farthest_with (whole_ops P) n
  unfolding farthest_with whole_ops
  pair_is =
      sym (keep-cong (λ (z : ℤ) (u : ℕ). z ≡ pos u ⊕ neg 𝟙) less_z ltb (λ q. d2 (pt_at P q.0) (pt_at P q.1)) (apart p)
      (λ u s u' s' h k. less-from 𝟙 u s u' s' h k) (0, 0) (neg 𝟙) 0
      (index_pairs 0 n) (sym (unfold 𝟘 in 𝟘-⊕ (neg 𝟙)))
      (λ q m. unfold apart in dist-any p even q.0 q.1 ∙ less-far (d2_at p q.0 q.1))).0

  -- ---- the quad
  abbrev point : ℕ → ℕ × ℕ
  point i = (x_at p i, y_at p i)

  map-points : (is : List ℕ) → map (λ i. get_or (pairs_of p) i (0, 0)) is ≡ map point is
  map-points [] = refl
  map-points (i ∷ is) = ap₂ (λ (q : ℕ × ℕ) (l : List (ℕ × ℕ)). q ∷ l) (pair-any p even i) (map-points is)

  quad-by : (is : List ℕ) → quad_with (whole_ops P) n ≡ is → quad_whole (pairs_of p) ≡ map point is
  unfolding quad_whole
  quad-by is e =
      ap (λ (k : ℕ). map (λ i. get_or (pairs_of p) i (0, 0)) (quad_with (whole_ops P) k)) (length_pairs p)
      ∙ ap (map (λ i. get_or (pairs_of p) i (0, 0))) e
      ∙ map-points is

  pub quad-few : n < 4 → quad_whole (pairs_of p) ≡ []
  quad-few h =
      quad-by [] (unfold quad_with in
      ap (λ (b : Bool). elim b as (λ _. List ℕ)
      [ true ↦ [] | false ↦ ends (whole_ops P) n (farthest_with (whole_ops P) n).0 (farthest_with (whole_ops P) n).1 ])
      (lt-ltb n 4 h))

  module _ (some : 4 ≤ n) (a b far : ℕ) (e : ((a, b), far) ≡ keep ltb (apart p) (0, 0) 0 (index_pairs 0 n)) (c u : ℕ)
      (ec : (c, u) ≡ most_of p a b a) (d w : ℕ) (ed : (d, w) ≡ most_of p b a a) where
    -- the answer from its three tests
    abbrev shape : Bool → Bool → Bool → ℕ → ℕ → List ℕ
    shape x y z c d = elim (x && y) [ false ↦ [] | true ↦ elim z [ false ↦ a ∷ c ∷ b ∷ d ∷ [] | true ↦ a ∷ d ∷ b ∷ c ∷ [] ] ]

    abbrev kc : ℕ × ℤ
    kc = keep less_z (side a b) a 𝟘 (range 0 n)

    abbrev ke : ℕ × ℤ
    ke = most-left a b

    kc-at : kc.0 ≡ c
    kc-at = (over-is a b).0 ∙ ap (λ (q : ℕ × ℕ). q.0) (sym ec)

    ke-at : ke.0 ≡ d
    ke-at = (under-is a b).0 ∙ ap (λ (q : ℕ × ℕ). q.0) (sym ed)

    above : less_z 𝟘 kc.1 ≡ ltb 268435456 u
    above =
        less-from (pos 268435456) 𝟘 kc.1 268435456 (most_of p a b a).1 level (over-is a b).1
        ∙ ap (λ (q : ℕ × ℕ). ltb 268435456 q.1) (sym ec)

    below : less_z ke.1 𝟘 ≡ ltb 268435456 w
    below =
        less-back 𝟘 ke.1 268435456 (most_of p b a a).1 (none ∙ level) (under-is a b).1
        ∙ ap (λ (q : ℕ × ℕ). ltb 268435456 q.1) (sym ed)

    ends-are : (x y z : Bool) → ltb 268435456 u ≡ x → ltb 268435456 w ≡ y
        → is_neg (area (pt_at P a) (pt_at P c) (pt_at P b) (pt_at P d)) ≡ z → ends (whole_ops P) n a b ≡ shape x y z c d
    unfolding ends whole_ops
    ends-are x y z ex ey ez =
        ap₂ (λ (s t : Bool). shape s t (is_neg (area (pt_at P a) (pt_at P kc.0) (pt_at P b) (pt_at P ke.0))) kc.0 ke.0)
        (above ∙ ex) (below ∙ ey)
        ∙ ap₂ (λ (s t : ℕ). shape x y (is_neg (area (pt_at P a) (pt_at P s) (pt_at P b) (pt_at P t))) s t) kc-at ke-at
        ∙ ap (λ (t : Bool). shape x y t c d) ez

    quad_is : (x y z : Bool) → ltb 268435456 u ≡ x → ltb 268435456 w ≡ y → is_neg (area (pt_at P a) (pt_at P c) (pt_at P b) (pt_at P d)) ≡ z
        → quad_whole (pairs_of p) ≡ map point (shape x y z c d)
    quad_is x y z ex ey ez =
        quad-by (shape x y z c d) (unfold quad_with in
        ap (λ (t : Bool). elim t as (λ _. List ℕ)
        [ true ↦ [] | false ↦ ends (whole_ops P) n (farthest_with (whole_ops P) n).0 (farthest_with (whole_ops P) n).1 ]) (le-ltb n 4 some)
        ∙ ap (λ (q : ℕ × ℕ). ends (whole_ops P) n q.0 q.1) (sym (ap (λ (q : (ℕ × ℕ) × ℕ). q.0) e ∙ pair_is))
        ∙ ends-are x y z ex ey ez)

    pub quad-over : u ≤ 268435456 → quad_whole (pairs_of p) ≡ []
    quad-over l =
        quad_is false (ltb 268435456 w) (is_neg (area (pt_at P a) (pt_at P c) (pt_at P b) (pt_at P d))) (le-ltb 268435456 u l) refl refl

    pub quad-under : 268435456 < u → w ≤ 268435456 → quad_whole (pairs_of p) ≡ []
    quad-under k l =
        quad_is true false (is_neg (area (pt_at P a) (pt_at P c) (pt_at P b) (pt_at P d))) (lt-ltb 268435456 u k) (le-ltb 268435456 w l) refl

    u-is : u ≡ side_at p a b c
    unfolding most_of
    u-is =
        ap (λ (q : ℕ × ℕ). q.1) ec ∙ keep-value (side_at p a b) a 268435456 (range 0 n) (side-self p a b)
        ∙ ap (λ (q : ℕ × ℕ). side_at p a b q.0) (sym ec)

    w-is : w ≡ side_at p b a d
    unfolding most_of
    w-is =
        ap (λ (q : ℕ × ℕ). q.1) ed ∙ keep-value (side_at p b a) a 268435456 (range 0 n) (side-other p a b)
        ∙ ap (λ (q : ℕ × ℕ). side_at p b a q.0) (sym ed)

    -- how far a point lies out
    out-is : (e f i v : ℕ) → v ≡ side_at p e f i → 268435456 < v → side e f i ≡ pos (v - 268435456)
    out-is e f i v z l =
        side-any p even bounded e f i ∙ ap (λ (k : ℕ). pos k ⊕ neg (pos 268435456)) (sym z) ∙ sub-pos v 268435456 (omega arith)

    -- the area is below 0 wherever there is a point on either side
    area-below : 268435456 < u → 268435456 < w → is_neg (area (pt_at P a) (pt_at P c) (pt_at P b) (pt_at P d)) ≡ true
    area-below k l =
        ap is_neg (area-is (pt_at P a) (pt_at P c) (pt_at P b) (pt_at P d)
        ∙ ap₂ (λ (x y : ℤ). neg (x ⊕ y)) (out-is a b c u u-is k) (out-is b a d w w-is l))
        ∙ minus (u - 268435456) (w - 268435456) (omega arith)

    pub quad-found : 268435456 < u → 268435456 < w → quad_whole (pairs_of p) ≡ point a ∷ point d ∷ point b ∷ point c ∷ []
    quad-found k l = quad_is true true true (lt-ltb 268435456 u k) (lt-ltb 268435456 w l) (area-below k l)
