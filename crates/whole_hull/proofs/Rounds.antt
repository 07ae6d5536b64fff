-- The way round, along edges.
--     Around, around                     where it ends, and an edge from each vertex to the next
-- Assumes nothing.
use mathlib.Core.Path.{◌≡◌, refl, sym, ap, ap₂, ◌∙◌, subst}
use mathlib.Core.Bool.{Bool, true, false}
use mathlib.Core.List.{List, ◌++◌}
use Prim.Native.Nat.{ℕ, suc, ◌+◌, ◌-◌, ◌*◌, ◌≤◌, ◌<◌}
use native.Mathlib.Omega.{arith}
use lib.Dec.{ltb}
use lib.ListN.{get_or}
use borrow.Author.Tests.{ltb-true, ltb-false}
use Rattle.laws.specs.Lists.{stack_of}
use Rattle.laws.specs.Plane.{value_at}
use Rattle.laws.proofs.Stores.{map-append}
use Rattle.whole.specs.Points.{Pt, Mem}
use Rattle.whole.proofs.Edge.{Edge}
use Rattle.hull.specs.Points.{pt_of, pts_of, many}
use Rattle.doubled.specs.Points.{pairs_of, x_at, y_at, Bounded}
use Rattle.whole_hull.specs.Inner.{Full, pt, Links, Chain, Tops, list_up_to, over_vertex, under_vertex, corner_if, round_of}
use Rattle.whole_hull.proofs.Ways.{Way, way-append, way-one, edge_of, full_at, side-down, half, half_of, index-mem, edge-false, edge-true}
use Rattle.whole_hull.proofs.Numbered.{links-full, links-at, links-first, up_to-map, way_up}

-- What is known of the way round points p: the least y at each place seen from both ends, the vertices above and below, k + 1 and j + 1 of
-- them, where they end, and that there is an edge from each vertex to the next.
pub record Around (p a b s t : List ℕ) (k j : ℕ) : Type 0 where
  pub some : 0 < many p
  pub small : (i : ℕ) → i < many p → (x_at p i ≤ 8192) × (y_at p i ≤ 8192)
  pub above : (i : ℕ) → i < many p → value_at a (x_at p i) ≤ y_at p i
  pub below : (i : ℕ) → i < many p → value_at b (8192 - x_at p i) ≤ 8192 - y_at p i
  pub links : Links (value_at a) 8193 (stack_of s (suc k))
  pub links' : Links (value_at b) 8193 (stack_of t (suc j))
  pub first : (i : ℕ) → i < many p → get_or s 0 0 ≤ x_at p i
  pub last : (i : ℕ) → i < many p → x_at p i ≤ get_or s k 0
  pub right-x : get_or t 0 0 + get_or s k 0 ≡ 8192
  pub left-x : get_or t j 0 + get_or s 0 0 ≡ 8192
  pub start : Mem (pt_of (over_vertex a s 0)) (pts_of (pairs_of p))
  pub way : Way (pts_of (pairs_of p)) (pt_of (over_vertex a s 0)) (pts_of (round_of a s k b t j)) (pt_of (over_vertex a s 0))

module _ (p : List ℕ) (bd : Bounded p) (some : 0 < many p) (a b s t : List ℕ) (k j : ℕ) (ta : Tops false p (many p) a)
    (tb : Tops true p (many p) b) (cs : Chain (value_at a) 8193 (stack_of s (suc k))) (ct : Chain (value_at b) 8193 (stack_of t (suc j))) where
  abbrev P : List Pt
  P = pts_of (pairs_of p)

  abbrev T : ℕ → ℕ × ℕ
  T i = over_vertex a s i

  abbrev U : ℕ → ℕ × ℕ
  U i = under_vertex b t i

  abbrev Si : ℕ → ℕ
  Si i = get_or s i 0

  abbrev TI : ℕ → ℕ
  TI i = get_or t i 0

  xs : (i : ℕ) → i < many p → (x_at p i ≤ 8192) × (y_at p i ≤ 8192)
  xs i l = (bd (2 * i) (omega arith), bd (2 * i + 1) (omega arith))

  -- a place with a point above, and one below
  got : (i : ℕ) → i ≤ k → (n : ℕ) × (n < many p) × (x_at p n ≡ Si i) × (y_at p n ≡ value_at a (Si i))
  got i l = ta.is (Si i) (links-full (value_at a) 8193 s k cs.links i l)

  got' : (i : ℕ) → i ≤ j → (n : ℕ) × (n < many p) × (8192 - x_at p n ≡ TI i) × (8192 - y_at p n ≡ value_at b (TI i))
  got' i l = tb.is (TI i) (links-full (value_at b) 8193 t j ct.links i l)

  full : (i : ℕ) → i ≤ k → Full (value_at a) (Si i)
  full i l = links-full (value_at a) 8193 s k cs.links i l

  full' : (i : ℕ) → i ≤ j → Full (value_at b) (TI i)
  full' i l = links-full (value_at b) 8193 t j ct.links i l

  first : (n : ℕ) → n < many p → Si 0 ≤ x_at p n
  first n l = let f = full_at p bd false a ta n l in links-first (value_at a) 8193 s k cs.links (x_at p n) f.0 f

  last : (n : ℕ) → n < many p → x_at p n ≤ Si k
  unfolding stack_of
  last n l = let f = full_at p bd false a ta n l in cs.last (x_at p n) f.0 f

  first' : (n : ℕ) → n < many p → TI 0 ≤ 8192 - x_at p n
  first' n l = let f = full_at p bd true b tb n l in links-first (value_at b) 8193 t j ct.links (8192 - x_at p n) f.0 f

  last' : (n : ℕ) → n < many p → 8192 - x_at p n ≤ TI j
  unfolding stack_of
  last' n l = let f = full_at p bd true b tb n l in ct.last (8192 - x_at p n) f.0 f

  -- the same x at both ends
  right-x : TI 0 + Si k ≡ 8192
  right-x =
      let g = got k (omega arith) in
      let h = got' 0 (omega arith) in
      let u = first' g.0 g.1 in
      let w = last h.0 h.1 in
      let x = xs g.0 g.1 in
      let y = xs h.0 h.1 in
      let e = g.2 in
      let f = h.2 in
      omega arith

  left-x : TI j + Si 0 ≡ 8192
  left-x =
      let g = got 0 (omega arith) in
      let h = got' j (omega arith) in
      let u = last' g.0 g.1 in
      let w = first h.0 h.1 in
      let x = xs g.0 g.1 in
      let y = xs h.0 h.1 in
      let e = g.2 in
      let f = h.2 in
      omega arith

  -- ---- members and edges
  mem-T : (i : ℕ) → i ≤ k → Mem (pt_of (T i)) P
  mem-T i l =
      let g = got i l in
      subst (λ (q : ℕ × ℕ). Mem (pt_of q) P) (ap₂ (λ (x y : ℕ). (x, y)) g.2 g.3) (index-mem p g.0 g.1)

  mem-U : (i : ℕ) → i ≤ j → Mem (pt_of (U i)) P
  mem-U i l =
      let g = got' i l in
      let x = xs g.0 g.1 in
      let e = g.2 in
      let f = g.3 in
      let ex : x_at p g.0 ≡ 8192 - TI i = omega arith in
      let ey : y_at p g.0 ≡ 8192 - value_at b (TI i) = omega arith in
      subst (λ (q : ℕ × ℕ). Mem (pt_of q) P) (ap₂ (λ (x y : ℕ). (x, y)) ex ey) (index-mem p g.0 g.1)

  edge-T : (i : ℕ) → i < k → Edge P (pt_of (T i)) (pt_of (T (suc i)))
  edge-T i l =
      let r = links-at (value_at a) 8193 s k cs.links i l in
      edge-false p (pt_of (T i)) (pt_of (T (suc i))) (edge_of p bd false a ta (Si i) (Si (suc i)) r.0 r.1)

  half-U : (i : ℕ) → i ≤ j → half (pt (value_at b) (TI i)) ≡ pt_of (U i)
  half-U i l = let f = full' i l in half_of (TI i) (value_at b (TI i)) (omega arith) f.1

  edge-U : (i : ℕ) → i < j → Edge P (pt_of (U i)) (pt_of (U (suc i)))
  edge-U i l =
      let r = links-at (value_at b) 8193 t j ct.links i l in
      let e = edge-true p bd (pt (value_at b) (TI i)) (pt (value_at b) (TI (suc i)))
      (edge_of p bd true b tb (TI i) (TI (suc i)) r.0 r.1) in
      subst (λ (q : Pt). Edge P (pt_of (U i)) q) (half-U (suc i) (omega arith))
      (subst (λ (q : Pt). Edge P q (half (pt (value_at b) (TI (suc i))))) (half-U i (omega arith)) e)

  edge-right : (T k).1 < (U 0).1 → Edge P (pt_of (T k)) (pt_of (U 0))
  edge-right less =
      let f = full' 0 (omega arith) in
      let ex : Si k ≡ 8192 - TI 0 = let r = right-x in omega arith in
      subst (λ (x : ℕ). Edge P (pt_of (T k)) (pt_of (x, (U 0).1))) ex
      (edge-false p (pt_of (T k)) (pt_of (Si k, (U 0).1))
      (side-down p false (Si k) (T k).1 (U 0).1 less last
      (λ i l e. (
        subst (λ (x : ℕ). value_at a x ≤ y_at p i) e (ta.above i l),
        let z : 8192 - x_at p i ≡ TI 0 = (let r = right-x in omega arith) in
            let u = subst (λ (x : ℕ). value_at b x ≤ 8192 - y_at p i) z (tb.above i l) in
            let y = xs i l in
            omega arith,
      ))))

  edge-left : (T 0).1 < (U j).1 → Edge P (pt_of (U j)) (pt_of (T 0))
  edge-left less =
      let f = full' j (omega arith) in
      let g = full 0 (omega arith) in
      let r = left-x in
      let ex : 8192 - TI j ≡ Si 0 = omega arith in
      let ey : 8192 - (8192 - value_at a (Si 0)) ≡ value_at a (Si 0) = omega arith in
      let e = edge-true p bd (pt_of (TI j, value_at b (TI j))) (pt_of (TI j, 8192 - value_at a (Si 0)))
      (side-down p true (TI j) (value_at b (TI j)) (8192 - value_at a (Si 0)) (omega arith) last'
      (λ i l e. (
        subst (λ (x : ℕ). value_at b x ≤ 8192 - y_at p i) e (tb.above i l),
        let y = xs i l in
            let z : x_at p i ≡ Si 0 = omega arith in
            let u = subst (λ (x : ℕ). value_at a x ≤ y_at p i) z (ta.above i l) in
            omega arith,
      ))) in
      let h : half (pt_of (TI j, 8192 - value_at a (Si 0))) ≡ pt_of (T 0) =
      half_of (TI j) (8192 - value_at a (Si 0)) (omega arith) (omega arith) ∙ ap₂ (λ (x y : ℕ). pt_of (x, y)) ex ey in
      subst (λ (q : Pt). Edge P (pt_of (U j)) q) h
      (subst (λ (q : Pt). Edge P q (half (pt_of (TI j, 8192 - value_at a (Si 0))))) (half-U j (omega arith)) e)

  -- what lies above is not below what lies below
  right_le : (T k).1 ≤ (U 0).1
  right_le =
      let g = got k (omega arith) in
      let x = xs g.0 g.1 in
      let r = right-x in
      let e = g.2 in
      let z : 8192 - x_at p g.0 ≡ TI 0 = omega arith in
      let u = subst (λ (x : ℕ). value_at b x ≤ 8192 - y_at p g.0) z (tb.above g.0 g.1) in
      let f = g.3 in
      omega arith

  left_le : (T 0).1 ≤ (U j).1
  left_le =
      let g = got 0 (omega arith) in
      let x = xs g.0 g.1 in
      let r = left-x in
      let e = g.2 in
      let z : 8192 - x_at p g.0 ≡ TI j = omega arith in
      let u = subst (λ (x : ℕ). value_at b x ≤ 8192 - y_at p g.0) z (tb.above g.0 g.1) in
      let f = g.3 in
      omega arith

  -- ---- the way round
  way-right : (z : Bool) → ltb (T k).1 (U 0).1 ≡ z → Way P (pt_of (T k)) (pts_of (corner_if (T k) z)) (pt_of (U 0))
  way-right true e = way-one P (pt_of (T k)) (pt_of (U 0)) (mem-T k (omega arith)) (edge-right (ltb-true (T k).1 (U 0).1 e))
  way-right false e =
      let l = ltb-false (T k).1 (U 0).1 e in
      let m = right_le in
      let r = right-x in
      let x : Si k ≡ 8192 - TI 0 = omega arith in
      let y : (T k).1 ≡ (U 0).1 = omega arith in
      ap₂ (λ (x y : ℕ). pt_of (x, y)) x y

  way-left : (z : Bool) → ltb (T 0).1 (U j).1 ≡ z → Way P (pt_of (U j)) (pts_of (corner_if (U j) z)) (pt_of (T 0))
  way-left true e = way-one P (pt_of (U j)) (pt_of (T 0)) (mem-U j (omega arith)) (edge-left (ltb-true (T 0).1 (U j).1 e))
  way-left false e =
      let l = ltb-false (T 0).1 (U j).1 e in
      let m = left_le in
      let r = left-x in
      let x : 8192 - TI j ≡ Si 0 = omega arith in
      let y : (U j).1 ≡ (T 0).1 = omega arith in
      ap₂ (λ (x y : ℕ). pt_of (x, y)) x y

  abbrev Rt : List (ℕ × ℕ)
  Rt = corner_if (T k) (ltb (T k).1 (U 0).1)

  abbrev Lf : List (ℕ × ℕ)
  Lf = corner_if (U j) (ltb (T 0).1 (U j).1)

  round-way : Way P (pt_of (T 0)) (pts_of (round_of a s k b t j)) (pt_of (T 0))
  unfolding round_of
  round-way =
      subst (λ (l : List Pt). Way P (pt_of (T 0)) l (pt_of (T 0))) (sym split)
      (way-append P (pt_of (T 0)) (pt_of (T k)) (pt_of (T 0)) (list_up_to (λ i. pt_of (T i)) k) (pts_of Rt ++ (list_up_to (λ i. pt_of (U i)) j ++ pts_of Lf))
      (way_up P (λ i. pt_of (T i)) k mem-T edge-T)
      (way-append P (pt_of (T k)) (pt_of (U 0)) (pt_of (T 0)) (pts_of Rt) (list_up_to (λ i. pt_of (U i)) j ++ pts_of Lf)
      (way-right (ltb (T k).1 (U 0).1) refl)
      (way-append P (pt_of (U 0)) (pt_of (U j)) (pt_of (T 0)) (list_up_to (λ i. pt_of (U i)) j) (pts_of Lf)
      (way_up P (λ i. pt_of (U i)) j mem-U edge-U)
      (way-left (ltb (T 0).1 (U j).1) refl))))
    where
      split : pts_of (list_up_to T k ++ (Rt ++ (list_up_to U j ++ Lf)))
          ≡ list_up_to (λ i. pt_of (T i)) k ++ (pts_of Rt ++ (list_up_to (λ i. pt_of (U i)) j ++ pts_of Lf))
      split =
          map-append pt_of (list_up_to T k) (Rt ++ (list_up_to U j ++ Lf))
          ∙ ap₂ (λ (l m : List Pt). l ++ m) (up_to-map pt_of T k)
          (map-append pt_of Rt (list_up_to U j ++ Lf)
          ∙ ap (λ (m : List Pt). pts_of Rt ++ m)
          (map-append pt_of (list_up_to U j) Lf ∙ ap (λ (l : List Pt). l ++ pts_of Lf) (up_to-map pt_of U j)))

  pub around : Around p a b s t k j
  around = record {
    some = some;
    small = xs;
    above = ta.above;
    below = tb.above;
    links = cs.links;
    links' = ct.links;
    first = first;
    last = last;
    right-x = right-x;
    left-x = left-x;
    start = mem-T 0 (omega arith);
    way = round-way;
  }
