-- The vertices from the least x on, one place more at a time.
--     chain-skip                         a place without a point
--     chain-begin, chain-end             points from one place to another only
--     ready-begin, ready-pop             the new point sees what the vertices that went were above
--     chain_first, chain-push            the new point as the first vertex, as the last one
--     stack-push                         the list of places after a store
-- Assumes nothing.
use mathlib.Core.Path.{◌≡◌, refl, sym, ap, subst}
use mathlib.Core.Logic.{◌⊎◌, inl, inr}
use mathlib.Core.List.{List, [], ◌∷◌}
use Prim.Native.Nat.{ℕ, suc, ◌+◌, ◌≤◌, ◌<◌}
use native.Mathlib.Omega.{arith}
use lib.ListN.{length}
use Rattle.laws.proofs.Bools.{at-or-below, le-or-lt}
use Rattle.whole.specs.Numbers.{◌⊕◌, neg, 𝟘, NN, PP}
use Rattle.whole.specs.Points.{cross}
use Rattle.whole.proofs.Ord.{pn, nn≡, p0, z0, nsplit}
use Rattle.whole.proofs.Turns.{cross-o, cross-same}
use Rattle.hull.specs.Points.{pt_of}
use Rattle.whole_hull.specs.Inner.{Full, pt, Right, Links, Last, Chain, ChainReady, Steep, PlacesWithin}
use Rattle.whole_hull.proofs.Turns.{nn-sub, pp-sub, under-near, under-far, behind, before}

module _ (A : ℕ → ℕ) where
  -- ---- a place without a point
  chain-none : (e : ℕ) → ((w : ℕ) → w < e → Full A w → ⊥) → Chain A e []
  chain-none e none = record { links = none; last = tt }

  -- no place from e on and below h has a point
  module _ (e h : ℕ) (wide : e ≤ h) (below : (w : ℕ) → w < h → Full A w → w < e) where
    links-on : (l : List ℕ) → Links A e l → Links A h l
    links-on [] k = λ w lw f. k w (below w lw f) f
    links-on (x ∷ []) k = (k.0, omega (arith, k.1), λ w lw f. k.2 w (below w lw f) f)
    links-on (x ∷ u ∷ l) k = (k.0, omega (arith, k.1), k.2, (λ w lw f. k.3 w (below w lw f) f), links-on (u ∷ l) k.4)

    last_on : (l : List ℕ) → Last A e l → Last A h l
    last_on [] k = k
    last_on (x ∷ l) k = λ w lw f. k w (below w lw f) f

    chain-on : (l : List ℕ) → Chain A e l → Chain A h l
    chain-on l c = record { links = links-on l c.links; last = last_on l c.last }

  pub chain-skip : (e : ℕ) (l : List ℕ) → (Full A e → ⊥) → Chain A e l → Chain A (e + 1) l
  chain-skip e l gone = chain-on e (e + 1) (omega arith) (λ w lw f. go w lw f (le-or-lt e w)) l
    where
      go : (w : ℕ) → w < e + 1 → Full A w → (e ≤ w) ⊎ (w < e) → w < e
      go w lw f (inl a) = absurd (gone (let z : w ≡ e = omega arith in subst (Full A) z f))
      go w lw f (inr a) = a

  -- ---- points from left to right only
  module _ (left right : ℕ) (i : PlacesWithin A left right) where
    pub chain-begin : Chain A left []
    chain-begin = chain-none left (λ w lw f. let q = i.places w f in omega arith)

    pub chain-end : (e : ℕ) (l : List ℕ) → right < e → e ≤ 8193 → Chain A e l → Chain A 8193 l
    chain-end e l more most = chain-on e 8193 most (λ w lw f. let q = i.places w f in omega arith) l

  -- ---- a place with a point
  module _ (e : ℕ) (full : Full A e) where
    pub ready-begin : (l : List ℕ) → Chain A e l → ChainReady A e l
    ready-begin [] c = c.links
    ready-begin (x ∷ l) c = (
      c.links,
      λ w lw f h.
          let k : w ≤ x = c.last w lw f in
          let z : x ≡ w = omega arith in
          subst (λ (w : ℕ). NN (cross (pt A x) (pt A e) (pt A w))) z (nn≡ z0 (sym (cross-o (pt A x) (pt A e)))),
    )

    dx : (a b : ℕ) → b ≤ a → NN ((pt A a).x ⊕ neg (pt A b).x)
    dx a b l = unfold pt_of in nn-sub a b l

    dp : (a b : ℕ) → b < a → PP ((pt A a).x ⊕ neg (pt A b).x)
    dp a b l = unfold pt_of in pp-sub a b l

    below : (x : ℕ) (l : List ℕ) → Links A e (x ∷ l) → x < e
    below x [] k = k.1
    below x (u ∷ l) k = k.1

    -- the last vertex goes
    pub ready-pop : (x u : ℕ) (l : List ℕ) → ChainReady A e (x ∷ u ∷ l) → NN (neg (cross (pt A u) (pt A x) (pt A e))) → ChainReady A e (u ∷ l)
    ready-pop x u l r h =
        let k = r.0 in
        (k.4, λ w lw f uw. go w lw f uw (le-or-lt x w))
      where
        go : (w : ℕ) → w < e → Full A w → u ≤ w → (x ≤ w) ⊎ (w < x) → NN (cross (pt A u) (pt A e) (pt A w))
        go w lw f uw (inl b) =
            let ux = r.0.2 in
            let xe = r.0.1 in
            under-far (pt A u) (pt A x) (pt A e) (pt A w) (dp e x xe) (dx e u (omega arith)) (dx e w (omega arith)) (r.1 w lw f b) h
        go w lw f uw (inr b) =
            let ux = r.0.2 in
            let xe = r.0.1 in
            under-near (pt A u) (pt A x) (pt A e) (pt A w) (dp x u ux) (dx e u (omega arith)) (dx w u uw) (r.0.3 w lw f).0 h

    right_of : (u x w : ℕ) → PP (cross (pt A u) (pt A x) (pt A w)) → Right A u x w
    right_of u x w h = (pn h, λ z. absurd (p0 h z))

    -- from the last edge to the one before it
    steep-down : (x u : ℕ) (l : List ℕ) → Links A e (x ∷ u ∷ l) → Steep A e (x ∷ u ∷ l) → Steep A e (u ∷ l)
    steep-down x u [] k h = tt
    steep-down x u (t ∷ l) k h =
        let tu = k.4.2 in
        let ux = k.2 in
        let xe = k.1 in
        let r = k.4.3 x xe k.0 in
        before (pt A t) (pt A u) (pt A x) (pt A e) (dp x u ux) (dp e u (omega arith)) (dp u t tu) (strict r) h
      where
        strict : Right A t u x → PP (cross (pt A t) (pt A u) (pt A x))
        strict r = go (nsplit r.0)
          where
            go : (cross (pt A t) (pt A u) (pt A x) ≡ 𝟘) ⊎ PP (cross (pt A t) (pt A u) (pt A x)) → PP (cross (pt A t) (pt A u) (pt A x))
            go (inl z) = absurd (let a = (r.1 z).1 in let b = k.2 in omega arith)
            go (inr q) = q

    -- the vertices that stay, with the new point among those that they are above
    links-new : (l : List ℕ) → Links A e l → Steep A e l → (l ≡ [] → ⊥) → Links A (e + 1) l
    links-new [] k h some = absurd (some refl)
    links-new (x ∷ []) k h some = (k.0, omega (arith, k.1), λ w lw f. go w f (at-or-below w e (omega arith)))
      where
        go : (w : ℕ) → Full A w → (w ≡ e) ⊎ (w < e) → x ≤ w
        go w f (inl z) = omega (arith, k.1)
        go w f (inr b) = k.2 w b f
    links-new (x ∷ u ∷ l) k h some = (
      k.0,
      omega (arith, k.1),
      k.2,
      (λ w lw f. go w f (at-or-below w e (omega arith))),
      links-new (u ∷ l) k.4 (steep-down x u l k h) (λ z. nope u l z),
    )
      where
        go : (w : ℕ) → Full A w → (w ≡ e) ⊎ (w < e) → Right A u x w
        go w f (inl z) = subst (Right A u x) (sym z) (right_of u x e h)
        go w f (inr b) = k.3 w b f

        nope : (u : ℕ) (l : List ℕ) → u ∷ l ≡ [] → ⊥
        nope u l z = let n : suc (length l) ≡ 0 = ap length z in omega arith

    -- what lies before the last vertex lies on the right of the new edge
    new-right : (x : ℕ) (l : List ℕ) → ChainReady A e (x ∷ l) → Steep A e (x ∷ l) → (w : ℕ) → w < e + 1 → Full A w → Right A x e w
    new-right x l r h w lw f = go (at-or-below w e (omega arith)) (le-or-lt x w)
      where
        first : (l : List ℕ) → Links A e (x ∷ l) → Steep A e (x ∷ l) → w < e → w < x → PP (cross (pt A x) (pt A e) (pt A w))
        first [] k h lw wx = absurd (let a = k.2 w lw f in omega arith)
        first (u ∷ l) k h lw wx =
            let xe = k.1 in
            behind (pt A u) (pt A x) (pt A e) (pt A w) (dp x u k.2) (dx e x (omega arith)) (dp x w wx) (k.3 w lw f).0 h

        go : (w ≡ e) ⊎ (w < e) → (x ≤ w) ⊎ (w < x) → Right A x e w
        go (inl z) b =
            let xe = below x l r.0 in
            subst (Right A x e) (sym z) (nn≡ z0 (sym (cross-same (pt A x) (pt A e))), λ _. (omega arith, omega arith))
        go (inr a) (inl b) = (r.1 w a f b, λ _. (b, omega arith))
        go (inr a) (inr b) = right_of x e w (first l r.0 h a b)

    new-last : (w : ℕ) → w < e + 1 → Full A w → w ≤ e
    new-last w lw f = omega arith

    pub chain_first : ChainReady A e [] → Chain A (e + 1) (e ∷ [])
    chain_first r = record {
      links = (full, omega arith, λ w lw f. go w f (at-or-below w e (omega arith)));
      last = new-last;
    }
      where
        go : (w : ℕ) → Full A w → (w ≡ e) ⊎ (w < e) → e ≤ w
        go w f (inl z) = omega arith
        go w f (inr b) = absurd (r w b f)

    pub chain-push : (x : ℕ) (l : List ℕ) → ChainReady A e (x ∷ l) → Steep A e (x ∷ l) → Chain A (e + 1) (e ∷ x ∷ l)
    chain-push x l r h = record {
      links = (full, omega arith, below x l r.0, new-right x l r h, links-new (x ∷ l) r.0 h (λ z. nope x l z));
      last = new-last;
    }
      where
        nope : (u : ℕ) (l : List ℕ) → u ∷ l ≡ [] → ⊥
        nope u l z = let n : suc (length l) ≡ 0 = ap length z in omega arith
