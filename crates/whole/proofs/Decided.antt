-- The words decide the vertices: a list with the three properties in the order of rule 18 is the hull.
--     at_first, at_second, on_line       a point on an edge's line, seen from the edge's ends
--     side-of-three                      on the right of three edges in turn: on the right of the middle one, or between its ends
--     turns-of, run-go                   edge after edge
--     decided                            the list is the hull
-- Assumes nothing.
use mathlib.Core.Path.{◌≡◌, refl, sym, ap, ap₂, ◌∙◌, subst}
use mathlib.Core.List.Memᴰ
use mathlib.Core.List.{List, [], ◌∷◌}
use Prim.Native.Nat.{◌<◌}
use native.Mathlib.Omega.{arith}
use lib.ListN.{length}
use lib.IntN.{ℤ}
use Rattle.whole.proofs.Reordered.{lex-anti}
use Rattle.whole.proofs.Moved.{dot-sym}
use Rattle.whole.specs.Numbers.{◌⊕◌, ◌⊗◌, neg, 𝟘, NN, PP}
use Rattle.whole.specs.Points.{Pt, cross, d2, Mem, pt_at, Fan, Clockwise}
use Rattle.whole.specs.Hull.{hull, walk, start_of}
use Rattle.whole.proofs.Sums.{⊕-𝟘, 𝟘-⊗}
use Rattle.whole.proofs.Ring.{◌:+◌, ◌:-◌, ◌:*◌, :n, solve}
use Rattle.whole.proofs.Ord.{pn, nn*, nn≡, pp≡, p0, z0, div_n}
use Rattle.whole.proofs.Turns.{X, Y, C, D, S, env, cyc, rot2, cross-same}
use Rattle.whole.proofs.Edge.{Side, side-first, Edge, d2_p'}
use Rattle.whole.proofs.Run.{Run}
use Rattle.whole.proofs.Closed.{run-unique}
use Rattle.whole.proofs.Hulls.{hull-run, start-least, start-mem}
use Rattle.whole.specs.IsHull.{dot, OnRight, Between, OnRightOfAll, IsHull}
use Rattle.whole.proofs.IsHull.{none, last_of, last_mem, at-end}

-- ---- a point on the line of u and w
drop0 : (g e h : ℤ) → e ≡ 𝟘 → g ⊕ e ⊗ h ≡ g
drop0 g e h q = ap (λ t. g ⊕ t ⊗ h) q ∙ ap (λ t. g ⊕ t) (𝟘-⊗ h) ∙ ⊕-𝟘 g

at_first : (t u w p : Pt)
    → d2 u w ⊗ cross t u p ≡ cross t u w ⊗ dot u w p ⊕ cross u w p ⊗
    ((u.x ⊕ neg t.x) ⊗ (w.x ⊕ neg u.x) ⊕ (u.y ⊕ neg t.y) ⊗ (w.y ⊕ neg u.y))
unfolding d2 cross dot
at_first t u w p = solve (env (t ∷ u ∷ w ∷ p ∷ [])) (S 1 2 :* C 0 1 3)
    (C 0 1 2 :* D 1 2 3 :+ C 1 2 3 :* ((X 1 :- X 0) :* (X 2 :- X 1) :+ (Y 1 :- Y 0) :* (Y 2 :- Y 1))) refl

at_second : (u w x p : Pt)
    → d2 u w ⊗ cross w x p ≡ cross u w x ⊗ dot w u p ⊕ cross u w p ⊗
    ((x.x ⊕ neg w.x) ⊗ (w.x ⊕ neg u.x) ⊕ (x.y ⊕ neg w.y) ⊗ (w.y ⊕ neg u.y))
unfolding d2 cross dot
at_second u w x p = solve (env (u ∷ w ∷ x ∷ p ∷ [])) (S 0 1 :* C 1 2 3)
    (C 0 1 2 :* D 1 0 3 :+ C 0 1 3 :* ((X 2 :- X 1) :* (X 1 :- X 0) :+ (Y 2 :- Y 1) :* (Y 1 :- Y 0))) refl

on_line : (u w p : Pt) → d2 u w ⊗ neg (dot p u w) ≡ dot u w p ⊗ dot w u p ⊕ cross u w p ⊗ neg (cross u w p)
unfolding d2 cross dot
on_line u w p = solve (env (u ∷ w ∷ p ∷ [])) (S 0 1 :* :n (D 2 0 1)) (D 0 1 2 :* D 1 0 2 :+ C 0 1 2 :* :n (C 0 1 2)) refl

side-of-three : (t u w x p : Pt) → PP (cross t u w) → PP (cross u w x) → OnRight t u p → OnRight u w p → OnRight w x p → Side u w p
unfolding Side
side-of-three t u w x p a b h k l = (
  k,
  λ z.
      let far : PP (d2 u w) = d2_p' u w (λ e. p0 a (ap (cross t u) e ∙ cross-same t u)) in
      let f : NN (dot u w p) = div_n a (nn≡ (nn* (pn far) h) (at_first t u w p ∙ drop0 _ _ _ z)) in
      let g : NN (dot w u p) = div_n b (nn≡ (nn* (pn far) l) (at_second u w x p ∙ drop0 _ _ _ z)) in
      div_n far (nn≡ (nn* f g) (sym (on_line u w p ∙ drop0 _ _ _ z))),
)

-- ---- edge after edge
-- from the edge t u on, over rest, back to a, of which b is the next
abbrev TurnsBy : Pt → Pt → Pt → Pt → List Pt → Type 0
TurnsBy a b t u [] = PP (cross t u a) × PP (cross u a b)
TurnsBy a b t u (w ∷ rest) = PP (cross t u w) × TurnsBy a b u w rest

turns-of : (a b t u : Pt) (rest : List Pt) → Clockwise (t ∷ u ∷ rest) → Fan a (t ∷ u ∷ rest) → ((q : Pt) → Mem q (u ∷ rest) → PP (cross a b q))
    → TurnsBy a b t u rest
turns-of a b t u [] c f h = (
  pp≡ (f.0 u (Memᴰ.head refl)) (cyc a t u),
  pp≡ (h u (Memᴰ.head refl)) (cyc a b u ∙ cyc b u a),
)
turns-of a b t u (w ∷ rest) c f h =
    (c.0.0 w (Memᴰ.head refl), turns-of a b u w rest c.1 f.1 (λ q m. h q (Memᴰ.tail m)))

module _ (P : List Pt) (a b : Pt) (first : (p : Pt) → Mem p P → OnRight a b p) where
  run-go : (t u : Pt) (rest : List Pt) → ((p : Pt) → Mem p P → OnRight t u p) → ((p : Pt) → Mem p P → OnRightOfAll p u rest a)
      → TurnsBy a b t u rest → ((q : Pt) → Mem q rest → Mem q P) → Run P u rest a
  unfolding Edge
  run-go t u [] h k n m = λ p i. side-of-three t u a b p n.0 n.1 (h p i) (k p i) (first p i)
  run-go t u (w ∷ []) h k n m = (
    m w (Memᴰ.head refl),
    (λ p i. side-of-three t u w a p n.0 n.1.0 (h p i) (k p i).0 (k p i).1),
    run-go u w [] (λ p i. (k p i).0) (λ p i. (k p i).1) n.1 (λ q i. m q (Memᴰ.tail i)),
  )
  run-go t u (w ∷ x ∷ rest) h k n m = (
    m w (Memᴰ.head refl),
    (λ p i. side-of-three t u w x p n.0 n.1.0 (h p i) (k p i).0 (k p i).1.0),
    run-go u w (x ∷ rest) (λ p i. (k p i).0) (λ p i. (k p i).1) n.1 (λ q i. m q (Memᴰ.tail i)),
  )

side-between : (a b p : Pt) → Between a b p → Side a b p × Side b a p
unfolding Side dot
side-between a b p h = (
  (nn≡ z0 (sym h.0), λ z. h.1),
  (nn≡ z0 (sym (rot2 a b p ∙ ap neg h.0 ∙ none)), λ z. nn≡ h.1 (ap neg (unfold dot in dot-sym p a b))),
)

run_is : (P : List Pt) (a : Pt) (vs : List Pt) → IsHull P (a ∷ vs) → Run P a vs a
unfolding Edge
run_is P a [] o = λ p m. subst (Side a a) (sym (o.holds p m)) (side-first a a)
run_is P a (b ∷ []) o = (
  o.points b (Memᴰ.tail (Memᴰ.head refl)),
  (λ p m. (side-between a b p (o.holds p m)).0),
  λ p m. (side-between a b p (o.holds p m)).1,
)
run_is P a (b ∷ c ∷ l) o =
    let k = o.clockwise in
    let t : PP (cross a b c) × TurnsBy a b b c l =
    (k.0.0 c (Memᴰ.head refl), turns-of a b b c l k.1 k.0 k.0.0) in
    let z : Pt = last_of c l in
    let end : PP (cross z a b) = pp≡ (k.0.0 z (last_mem c l)) (cyc a b z ∙ cyc b z a) in (
      o.points b (Memᴰ.tail (Memᴰ.head refl)),
      (λ p m. side-of-three z a b c p end t.0 (at-end p a (b ∷ c ∷ l) a (o.holds p m)) (o.holds p m).0 (o.holds p m).1.0),
      run-go P a b (λ p m. (o.holds p m).0) a b (c ∷ l) (λ p m. (o.holds p m).0) (λ p m. (o.holds p m).1) t
          (λ q m. o.points q (Memᴰ.tail (Memᴰ.tail m))),
    )

-- ---- the same start
pub decided : (P vs : List Pt) → IsHull P vs → vs ≡ hull P
decided [] [] o = unfold hull walk in refl
decided (p ∷ P) [] o = absurd (o.holds p (Memᴰ.head refl))
decided [] (a ∷ vs) o = elim (o.points a (Memᴰ.head refl)) [ ]
decided (p ∷ P) (a ∷ vs) o =
    let Q : List Pt = p ∷ P in
    let some : 0 < length Q = omega arith in
    let h = hull-run Q some in
    let ma : Mem a Q = o.points a (Memᴰ.head refl) in
    let e : a ≡ pt_at Q (start_of Q) =
    lex-anti a (pt_at Q (start_of Q)) (o.starts (pt_at Q (start_of Q)) (start-mem Q some)) (start-least Q some a ma) in
    let u : vs ≡ h.0 =
    run-unique Q a ma a vs h.0 (run_is Q a vs o) (subst (λ (q : Pt). Run Q q h.0 q) (sym e) h.2) o.distinct.0
    (λ m. h.3 (subst (λ (q : Pt). Mem q h.0) e m)) in
    ap₂ (λ (q : Pt) (l : List Pt). q ∷ l) e u ∙ sym h.1
