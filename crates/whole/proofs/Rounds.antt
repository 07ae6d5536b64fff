-- Hull and quad of the moved points: of a list that has each point as often as another has the one that goes there.
--     mem-often, often-mem           a point is there where it is there once or more
--     onto                           every point is one that some point goes to
--     same_of                        as often: the same points
--     hull-round, quad-round         the hull and the quad of the moved points are the moved ones, turned round
-- Assumes nothing.
use mathlib.Core.Path.{◌≡◌, refl, sym, ap, ◌∙◌}
use mathlib.Core.Logic.{◌⊎◌, inl, inr, ⊎_elim}
use mathlib.Core.Bool.{true, false}
use mathlib.Core.List.Memᴰ
use mathlib.Core.List.{List, [], ◌∷◌, map}
use Prim.Native.Nat.{ℕ, ◌*◌, ◌<◌}
use native.Mathlib.Omega.{arith}
use lib.ListN.{length-map, length-reverse}
use lib.IntN.{ℤ, pos}
use Rattle.laws.specs.Move.{Move, still, flipped, turned, high_of, is_flipped}
use Rattle.laws.proofs.Bools.{which}
use Rattle.whole.specs.Numbers.{◌⊕◌, neg}
use Rattle.whole.specs.Points.{Pt, Mem, Rot}
use Rattle.whole.specs.Hull.{same_pt, hull}
use Rattle.whole.specs.Quad.{quad, Far, OneTop}
use Rattle.whole.specs.Moves.{quarter, mirror, moved_point, moved_round, often, Same}
use Rattle.whole.proofs.Ring.{𝕧, ◌:-◌, solve}
use Rattle.whole.proofs.Turns.{pt≡}
use Rattle.whole.proofs.Run.{same_true, same_refl}
use Rattle.whole.proofs.Moved.{Keeps, Flips, keeps-id, keeps-quarter, flips-mirror, keeps-keeps, keeps-flips, mem-map, of_map, hull-turned, hull-mirrored}
use Rattle.whole.proofs.QuadMoves.{quad-turned, quad-mirrored}
use Rattle.whole.proofs.Reordered.{rot-same, rot-length, rev-same}

-- ---- points that are there
pub mem-often : {q : Pt} {l : List Pt} → Mem q l → 0 < often q l
unfolding often
mem-often {q} (Memᴰ.head {x = p} {xs = l} e) = rw (ap (same_pt q) (sym e) ∙ same_refl q) (omega arith)
mem-often {q} (Memᴰ.tail {x = p} {xs = l} t) = omega (arith, mem-often t)

pub often-mem : (q : Pt) (l : List Pt) → 0 < often q l → Mem q l
unfolding often
often-mem q [] h = absurd (omega arith)
often-mem q (p ∷ l) h = go (which (same_pt q p)) (often-mem q l)
  where
    go : (same_pt q p ≡ true) ⊎ (same_pt q p ≡ false) → (0 < often q l → Mem q l) → Mem q (p ∷ l)
    go (inl e) ih = Memᴰ.head (same_true q p e)
    go (inr e) ih = Memᴰ.tail (ih (omega (arith, rw e at h)))

-- every point is one that goes there
twice : (w x : ℤ) → w ⊕ neg (w ⊕ neg x) ≡ x
twice w x = solve (w ∷ x ∷ []) (𝕧 0 :- (𝕧 0 :- 𝕧 1)) (𝕧 1) refl

pub onto : (m : Move) (w h : ℕ) (q : Pt) → (a : Pt) × (moved_point m w h a ≡ q)
unfolding moved_point mirror quarter
onto still w h q = (q, refl)
onto flipped w h q = (mirror (pos (2 * w)) q, pt≡ _ _ (twice (pos (2 * w)) q.x) refl)
onto (turned m) w h q =
    let H : ℤ = pos (2 * high_of m w h) in
    let r = onto m w h (record { x = q.y; y = H ⊕ neg q.x }) in
    (r.0, ap (λ (p : Pt). quarter H p) r.1 ∙ pt≡ _ _ (twice H q.x) refl)

pub same_of : (m : Move) (w h : ℕ) (P Q : List Pt) → ((q : Pt) → often (moved_point m w h q) Q ≡ often q P) → Same (map (moved_point m w h) P) Q
same_of m w h P Q e q = (to, from)
  where
    to : Mem q (map (moved_point m w h) P) → Mem q Q
    to t =
        let r = of_map (moved_point m w h) P t in
        Memᴰ.cast r.2 (often-mem (moved_point m w h r.0) Q (omega (arith, e r.0, mem-often r.1)))

    from : Mem q Q → Mem q (map (moved_point m w h) P)
    from t =
        let r = onto m w h q in
        let s : 0 < often (moved_point m w h r.0) Q = mem-often (Memᴰ.cast r.1 t) in
        Memᴰ.cast (sym r.1) (mem-map (moved_point m w h) (often-mem r.0 P (omega (arith, e r.0, s))))

-- ---- moves keep or exchange the turns
kind : (m : Move) (w h : ℕ) → ((is_flipped m ≡ false) × Keeps (moved_point m w h)) ⊎ ((is_flipped m ≡ true) × Flips (moved_point m w h))
unfolding is_flipped moved_point
kind still w h = inl (refl, keeps-id)
kind flipped w h = inr (refl, flips-mirror (pos (2 * w)))
kind (turned m) w h =
    ⊎_elim (λ k. inl (k.0, keeps-keeps (keeps-quarter (pos (2 * high_of m w h))) k.1))
    (λ k. inr (k.0, keeps-flips (keeps-quarter (pos (2 * high_of m w h))) k.1)) (kind m w h)

-- ---- the hull and the quad
pub hull-round : (m : Move) (w h : ℕ) (P Q : List Pt) → Same (map (moved_point m w h) P) Q → Rot (moved_round m w h (hull P)) (hull Q)
unfolding moved_round
hull-round m w h P Q same =
    ⊎_elim (λ k. rw k.0 (hull-turned (moved_point m w h) k.1 P Q same)) (λ k. rw k.0 (hull-mirrored (moved_point m w h) k.1 P Q same))
    (kind m w h)

pub quad-round : (m : Move) (w h : ℕ) (P Q : List Pt) → Same (map (moved_point m w h) P) Q → (a c : Pt) → Far (hull P) a c
    → OneTop (hull P) a c → OneTop (hull P) c a
    → Rot (moved_round m w h (quad (hull P))) (quad (hull Q))
unfolding moved_round
quad-round m w h P Q same a c f o o' =
    ⊎_elim
    (λ k.
    let r = hull-turned (moved_point m w h) k.1 P Q same in
    rw k.0 (quad-turned (moved_point m w h) k.1 (hull P) (hull Q) (rot-same _ _ r)
    (sym (length-map (hull P) (moved_point m w h)) ∙ rot-length _ _ r) a c f o o'))
    (λ k.
    let r = hull-mirrored (moved_point m w h) k.1 P Q same in
    rw k.0 (quad-mirrored (moved_point m w h) k.1 (hull P) (hull Q) (rev-same _ _ (rot-same _ _ r))
    (sym (length-map (hull P) (moved_point m w h)) ∙ sym (length-reverse (map (moved_point m w h) (hull P))) ∙ rot-length _ _ r) a c f o o'))
    (kind m w h)
