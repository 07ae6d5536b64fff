-- The quad of a moved hull, where one pair is farthest and one vertex at most on each side of it.
--     quad-turned, quad-mirrored     for a move that keeps the turns of three points, and for one that exchanges them
-- Assumes nothing.
use mathlib.Core.Path.{◌≡◌, refl, sym, ◌∙◌, ap, subst}
use mathlib.Core.Logic.{◌⊎◌, inl, inr}
use mathlib.Core.Bool.{Bool, true, false}
use mathlib.Core.List.{List, [], ◌∷◌, map, reverse}
use lib.Dec.{ltb}
use lib.ListN.{length}
use Rattle.whole.specs.Numbers.{◌⊕◌, neg, NN, PP}
use Rattle.whole.proofs.Ord.{nn≡, pp≡, pnn}
use Rattle.whole.specs.Points.{Pt, cross, d2, Mem, Rot}
use Rattle.whole.specs.IsHull.{dot}
use Rattle.whole.proofs.Turns.{rot2}
use Rattle.whole.proofs.Edge.{d2-dot}
use Rattle.whole.proofs.Moved.{Keeps, Flips, mem-map, of_map, inj}
use Rattle.whole.specs.Moves.{Same}
use Rattle.whole.specs.Quad.{corners, farthest, quad, Top, Far, OneTop}
use Rattle.whole.proofs.Quads.{Bare, Corners, nope, yep, corners-ok, d2-sym, far-found}

-- ---- the moved quad
far-swap : (H : List Pt) (a b : Pt) → Far H a b → Far H b a
unfolding Far
far-swap H a b f = (f.1, f.0, (λ e. f.2 (sym e)), λ u w mu mw. go u w (f.3 u w mu mw))
  where
    go : (u w : Pt) → ((u ≡ a) × (w ≡ b)) ⊎ (((u ≡ b) × (w ≡ a)) ⊎ PP (d2 a b ⊕ neg (d2 u w)))
        → ((u ≡ b) × (w ≡ a)) ⊎ (((u ≡ a) × (w ≡ b)) ⊎ PP (d2 b a ⊕ neg (d2 u w)))
    go u w (inl x) = inr (inl x)
    go u w (inr (inl x)) = inl x
    go u w (inr (inr p)) = inr (inr (pp≡ p (ap (λ z. z ⊕ neg (d2 u w)) (d2-sym a b))))

corners-swap : (a b : Pt) (H : List Pt) (l : List Pt) → Corners b a H l → (l' : List Pt) × Corners a b H l' × Rot l' l
unfolding Bare
corners-swap a b H l (nope e (inl h)) = ([], nope refl (inr h), ([], [], refl, e))
corners-swap a b H l (nope e (inr h)) = ([], nope refl (inl h), ([], [], refl, e))
corners-swap a b H l (yep c d e mc md tc td) = (a ∷ c ∷ b ∷ d ∷ [], yep d c refl md mc td tc, (a ∷ c ∷ [], b ∷ d ∷ [], refl, e))

corners-unique : (a b : Pt) (H : List Pt) → OneTop H a b → OneTop H b a → (l k : List Pt) → Corners a b H l → Corners a b H k → l ≡ k
unfolding Bare Top OneTop
corners-unique a b H o o' l k (nope e h) (nope e' h') = e ∙ sym e'
corners-unique a b H o o' l k (nope e (inl h)) (yep c d e' mc md tc td) = absurd (pnn tc.0 (h c mc))
corners-unique a b H o o' l k (nope e (inr h)) (yep c d e' mc md tc td) = absurd (pnn td.0 (h d md))
corners-unique a b H o o' l k (yep c d e mc md tc td) (nope e' (inl h)) = absurd (pnn tc.0 (h c mc))
corners-unique a b H o o' l k (yep c d e mc md tc td) (nope e' (inr h)) = absurd (pnn td.0 (h d md))
corners-unique a b H o o' l k (yep c d e mc md tc td) (yep c' d' e' mc' md' tc' td') =
    let x : c ≡ c' = o c c' mc mc' tc tc' in
    let y : d ≡ d' = o' d d' md md' td td' in
    cc

-- the top of a moved list is a moved top; `f` is the sign that the move gives to turns
module _ (m : Pt → Pt) (H H' : List Pt) (same : Same (map m H) H') where
  top-pull : (a b c d : Pt) → ((w : Pt) → cross (m c) (m d) (m w) ≡ cross a b w) → (u : Pt) → Top (m c) (m d) H' (m u) → Top a b H u
  unfolding Top
  top-pull a b c d f u h = (
    pp≡ h.0 (f u),
    λ w mw. nn≡ (h.1 (m w) ((same (m w)).0 (mem-map m mw)))
        (ap (λ z. z ⊕ neg (cross (m c) (m d) (m w))) (f u) ∙ ap (λ z. cross a b u ⊕ neg z) (f w)),
  )

  bare-pull : (a b c d : Pt) → ((w : Pt) → cross (m c) (m d) (m w) ≡ cross a b w) → ((w : Pt) → Mem w H' → NN (neg (cross (m c) (m d) w)))
      → (w : Pt) → Mem w H → NN (neg (cross a b w))
  bare-pull a b c d f h w mw = nn≡ (h (m w) ((same (m w)).0 (mem-map m mw))) (ap neg (f w))

  -- the corners of the moved list at (m c, m d), where its turns about them are those about a b
  pull : (a b c d : Pt) → ((w : Pt) → cross (m c) (m d) (m w) ≡ cross a b w) → ((w : Pt) → cross (m d) (m c) (m w) ≡ cross b a w)
      → (l : List Pt) → Corners (m c) (m d) H' l
      → ((l ≡ []) × Bare a b H) ⊎ ((p : Pt) × (q : Pt) × (l ≡ m c ∷ m q ∷ m d ∷ m p ∷ []) × (Mem p H × Mem q H × Top a b H p × Top b a H q))
  unfolding Bare
  pull a b c d f g l (nope e (inl h)) = inl (e, inl (bare-pull a b c d f h))
  pull a b c d f g l (nope e (inr h)) = inl (e, inr (bare-pull b a d c g h))
  pull a b c d f g l (yep p q e mp mq tp tq) =
      let rp = of_map m H ((same p).1 mp) in
      let rq = of_map m H ((same q).1 mq) in
      let ep : p ≡ m rp.0 = rp.2 in
      let eq : q ≡ m rq.0 = rq.2 in
      inr (
        rp.0,
        rq.0,
        cc,
        (
          rp.1,
          rq.1,
          top-pull a b c d f rp.0 (subst (Top (m c) (m d) H') ep tp),
          top-pull b a d c g rq.0 (subst (Top (m d) (m c) H') eq tq),
        ),
      )

  abbrev Out : (List Pt → List Pt) → Pt → Pt → List Pt → Type 0
  Out M a b l = (k : List Pt) × Rot (M k) l × Corners a b H k

  module _ (K : Keeps m) (a b : Pt) where
    keep : (a b : Pt) (w : Pt) → cross (m a) (m b) (m w) ≡ cross a b w
    keep a b w = K.turn a b w

    keeps_same : (l : List Pt) → Corners (m a) (m b) H' l → Out (map m) a b l
    keeps_same l h = go (pull a b a b (keep a b) (keep b a) l h)
      where
        go : ((l ≡ []) × Bare a b H)
            ⊎ ((p : Pt) × (q : Pt) × (l ≡ m a ∷ m q ∷ m b ∷ m p ∷ []) × (Mem p H × Mem q H × Top a b H p × Top b a H q)) → Out (map m) a b l
        go (inl x) = ([], ([], [], refl, x.0), nope refl x.1)
        go (inr x) = (
          a ∷ x.1 ∷ b ∷ x.0 ∷ [],
          ([], m a ∷ m x.1 ∷ m b ∷ m x.0 ∷ [], refl, x.2),
          yep x.0 x.1 refl x.3.0 x.3.1 x.3.2 x.3.3,
        )

    keeps-swap : (l : List Pt) → Corners (m b) (m a) H' l → Out (map m) a b l
    unfolding Bare
    keeps-swap l h = go (pull b a b a (keep b a) (keep a b) l h)
      where
        sw : Bare b a H → Bare a b H
        sw (inl h) = inr h
        sw (inr h) = inl h

        go : ((l ≡ []) × Bare b a H)
            ⊎ ((p : Pt) × (q : Pt) × (l ≡ m b ∷ m q ∷ m a ∷ m p ∷ []) × (Mem p H × Mem q H × Top b a H p × Top a b H q)) → Out (map m) a b l
        go (inl x) = ([], ([], [], refl, x.0), nope refl (sw x.1))
        go (inr x) = (
          a ∷ x.0 ∷ b ∷ x.1 ∷ [],
          (m a ∷ m x.0 ∷ [], m b ∷ m x.1 ∷ [], refl, x.2),
          yep x.1 x.0 refl x.3.1 x.3.0 x.3.3 x.3.2,
        )

  module _ (K : Flips m) (a b : Pt) where
    flip : (a b : Pt) (w : Pt) → cross (m a) (m b) (m w) ≡ cross b a w
    flip a b w = K.turn a b w ∙ sym (rot2 a b w)

    flips-same : (l : List Pt) → Corners (m a) (m b) H' l → Out (λ k. reverse (map m k)) a b l
    unfolding Bare
    flips-same l h = go (pull b a a b (flip a b) (flip b a) l h)
      where
        sw : Bare b a H → Bare a b H
        sw (inl h) = inr h
        sw (inr h) = inl h

        go : ((l ≡ []) × Bare b a H)
            ⊎ ((p : Pt) × (q : Pt) × (l ≡ m a ∷ m q ∷ m b ∷ m p ∷ []) × (Mem p H × Mem q H × Top b a H p × Top a b H q))
            → Out (λ k. reverse (map m k)) a b l
        go (inl x) = ([], ([], [], refl, x.0), nope refl (sw x.1))
        go (inr x) = (
          a ∷ x.0 ∷ b ∷ x.1 ∷ [],
          (m x.1 ∷ m b ∷ m x.0 ∷ [], m a ∷ [], refl, x.2),
          yep x.1 x.0 refl x.3.1 x.3.0 x.3.3 x.3.2,
        )

    flips-swap : (l : List Pt) → Corners (m b) (m a) H' l → Out (λ k. reverse (map m k)) a b l
    flips-swap l h = go (pull a b b a (flip b a) (flip a b) l h)
      where
        go : ((l ≡ []) × Bare a b H)
            ⊎ ((p : Pt) × (q : Pt) × (l ≡ m b ∷ m q ∷ m a ∷ m p ∷ []) × (Mem p H × Mem q H × Top a b H p × Top b a H q))
            → Out (λ k. reverse (map m k)) a b l
        go (inl x) = ([], ([], [], refl, x.0), nope refl x.1)
        go (inr x) = (
          a ∷ x.1 ∷ b ∷ x.0 ∷ [],
          (m x.0 ∷ [], m b ∷ m x.1 ∷ m a ∷ [], refl, x.2),
          yep x.0 x.1 refl x.3.0 x.3.1 x.3.2 x.3.3,
        )

  far-moved : ((a b c : Pt) → dot (m a) (m b) (m c) ≡ dot a b c) → (a b : Pt) → Far H a b → Far H' (m a) (m b)
  unfolding Far
  far-moved far a b f = (
    (same (m a)).0 (mem-map m f.0),
    (same (m b)).0 (mem-map m f.1),
    (λ e. f.2 (inj m far a b e)),
    λ u w mu mw.
        let ru = of_map m H ((same u).1 mu) in
        let rw' = of_map m H ((same w).1 mw) in
        go u w ru.0 rw'.0 ru.2 rw'.2 (f.3 ru.0 rw'.0 ru.1 rw'.1),
  )
    where
      dd : (a b : Pt) → d2 (m a) (m b) ≡ d2 a b
      dd a b = d2-dot (m a) (m b) ∙ far a b b ∙ sym (d2-dot a b)

      go : (u w p q : Pt) → u ≡ m p → w ≡ m q → ((p ≡ a) × (q ≡ b)) ⊎ (((p ≡ b) × (q ≡ a)) ⊎ PP (d2 a b ⊕ neg (d2 p q)))
          → ((u ≡ m a) × (w ≡ m b)) ⊎ (((u ≡ m b) × (w ≡ m a)) ⊎ PP (d2 (m a) (m b) ⊕ neg (d2 u w)))
      go u w p q eu ew (inl x) = inl (eu ∙ ap m x.0, ew ∙ ap m x.1)
      go u w p q eu ew (inr (inl x)) = inr (inl (eu ∙ ap m x.0, ew ∙ ap m x.1))
      go u w p q eu ew (inr (inr h)) =
          inr (inr (pp≡ h (ap (λ z. z ⊕ neg (d2 p q)) (sym (dd a b))
          ∙ ap (λ z. d2 (m a) (m b) ⊕ neg z) (sym (dd p q) ∙ ap (λ z. d2 z (m q)) (sym eu) ∙ ap (d2 u) (sym ew)))))

  -- once the two lists find the pairs, the quads correspond
  module _ (M : List Pt → List Pt) (a b : Pt) (straight : (l : List Pt) → Corners (m a) (m b) H' l → Out M a b l)
      (crossed : (l : List Pt) → Corners (m b) (m a) H' l → Out M a b l)
      (M[] : M [] ≡ []) (len : length H ≡ length H') (fa : farthest H ≡ (a, b)) (f' : Far H' (m a) (m b)) (o : OneTop H a b)
      (o' : OneTop H b a) where
    quads : Rot (M (quad H)) (quad H')
    unfolding quad
    quads = go (ltb (length H) 4) (ltb (length H') 4) (ap (λ n. ltb n 4) len) (far-found H' (m a) (m b) f')
      where
        q : List Pt
        q = corners (farthest H).0 (farthest H).1 H

        q-ok : Corners a b H q
        q-ok = subst (λ t. Corners t.0 t.1 H q) fa (corners-ok (farthest H).0 (farthest H).1 H)

        q' : List Pt
        q' = corners (farthest H').0 (farthest H').1 H'

        q'-ok : Corners (farthest H').0 (farthest H').1 H' q'
        q'-ok = corners-ok (farthest H').0 (farthest H').1 H'

        end : Out M a b q' → Rot (M q) q'
        end x = subst (λ k. Rot (M k) q') (corners-unique a b H o o' x.0 q x.2 q-ok) x.1

        both : (farthest H' ≡ (m a, m b)) ⊎ (farthest H' ≡ (m b, m a)) → Rot (M q) q'
        both (inl e) = end (straight q' (subst (λ t. Corners t.0 t.1 H' q') e q'-ok))
        both (inr e) = end (crossed q' (subst (λ t. Corners t.0 t.1 H' q') e q'-ok))

        go : (x y : Bool) → x ≡ y → (farthest H' ≡ (m a, m b)) ⊎ (farthest H' ≡ (m b, m a))
            → Rot (M (elim x [ true ↦ [] | false ↦ q ])) (elim y [ true ↦ [] | false ↦ q' ])
        go true true e d = subst (λ l. Rot l []) (sym M[]) ([], [], refl, refl)
        go true false e d = absurd (mathlib.Core.Bool.true≢false e)
        go false true e d = absurd (mathlib.Core.Bool.false≢true e)
        go false false e d = both d

pub quad-turned : (m : Pt → Pt) → Keeps m → (H H' : List Pt) → Same (map m H) H' → length H ≡ length H' → (a b : Pt) → Far H a b
    → OneTop H a b → OneTop H b a → Rot (map m (quad H)) (quad H')
quad-turned m K H H' same len a b f o o' = go (far-found H a b f)
  where
    go : (farthest H ≡ (a, b)) ⊎ (farthest H ≡ (b, a)) → Rot (map m (quad H)) (quad H')
    go (inl e) = quads m H H' same (map m) a b (keeps_same m H H' same K a b) (keeps-swap m H H' same K a b) refl len e
        (far-moved m H H' same K.far a b f) o o'
    go (inr e) = quads m H H' same (map m) b a (keeps_same m H H' same K b a) (keeps-swap m H H' same K b a) refl len e
        (far-moved m H H' same K.far b a (far-swap H a b f)) o' o

pub quad-mirrored : (m : Pt → Pt) → Flips m → (H H' : List Pt) → Same (map m H) H' → length H ≡ length H' → (a b : Pt) → Far H a b
    → OneTop H a b → OneTop H b a → Rot (reverse (map m (quad H))) (quad H')
quad-mirrored m K H H' same len a b f o o' = go (far-found H a b f)
  where
    go : (farthest H ≡ (a, b)) ⊎ (farthest H ≡ (b, a)) → Rot (reverse (map m (quad H))) (quad H')
    go (inl e) = quads m H H' same (λ k. reverse (map m k)) a b (flips-same m H H' same K a b) (flips-swap m H H' same K a b) refl len e
        (far-moved m H H' same K.far a b f) o o'
    go (inr e) = quads m H H' same (λ k. reverse (map m k)) b a (flips-same m H H' same K b a) (flips-swap m H H' same K b a) refl len e
        (far-moved m H H' same K.far b a (far-swap H a b f)) o' o
