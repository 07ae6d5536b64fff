-- The way round is the hull.
--     closed                             from the first vertex, which comes once, round to it
--     round-hull                         it is the hull
-- Assumes nothing.
use mathlib.Core.Path.{◌≡◌, refl, sym, ap, ap₂, ◌∙◌, subst}
use mathlib.Core.Logic.{◌⊎◌, inl, inr}
use mathlib.Core.Bool.{Bool, true, false}
use mathlib.Core.List.Memᴰ
use mathlib.Core.List.{List, [], ◌∷◌, ◌++◌}
use Prim.Native.Nat.{ℕ, suc, ◌-◌, ◌≤◌, ◌<◌}
use native.Mathlib.Omega.{arith}
use lib.Dec.{ltb}
use lib.ListN.{length, get_or}
use lib.IntN.{nat_abs}
use borrow.Author.Tests.{ltb-true, ltb-false}
use Rattle.laws.specs.Lists.{stack_of}
use Rattle.laws.specs.Plane.{value_at}
use Rattle.whole.proofs.Reordered.{lex-anti}
use Rattle.laws.proofs.Bools.{le-or-lt}
use Rattle.whole.specs.Points.{Pt, Mem, pt_at, LexLe}
use Rattle.whole.specs.Hull.{hull, start_of}
use Rattle.whole.proofs.Edge.{Side, Edge, side-first}
use Rattle.whole.proofs.Run.{Run}
use Rattle.whole.proofs.Closed.{run-unique}
use Rattle.whole.proofs.Hulls.{hull-run, start-least, start-mem}
use Rattle.hull.specs.Points.{pt_of, pts_of, many}
use Rattle.hull.proofs.Exact.{length-pts}
use Rattle.doubled.specs.Points.{pairs_of, x_at, y_at, Bounded}
use Rattle.doubled.proofs.Points.{length_pairs}
use Rattle.whole_hull.specs.Inner.{Chain, Tops, list_up_to, over_vertex, under_vertex, corner_if, round_of, or_one}
use Rattle.whole_hull.proofs.Ways.{Way, run-of-way, mem_index, edge-false}
use Rattle.whole_hull.proofs.Rounds.{Around, around}
use Rattle.whole_hull.proofs.Numbered.{All, links-full, rising, first-less, up_to-cons, all_append, all-up_to, lex-below, lex-left}

module _ (p a b s t : List ℕ) (k j : ℕ) (r : Around p a b s t k j) where
  open r use {some, small, above, below, links, links', first, last, right-x, left-x, start, way}

  abbrev P : List Pt
  P = pts_of (pairs_of p)

  abbrev T : ℕ → ℕ × ℕ
  T i = over_vertex a s i

  abbrev U : ℕ → ℕ × ℕ
  U i = under_vertex b t i

  abbrev Si : ℕ → ℕ
  Si i = get_or s i 0

  abbrev TI : ℕ → ℕ
  TI i = get_or t i 0

  abbrev Rt : List (ℕ × ℕ)
  Rt = corner_if (T k) (ltb (T k).1 (U 0).1)

  abbrev Lf : List (ℕ × ℕ)
  Lf = corner_if (U j) (ltb (T 0).1 (U j).1)

  -- ---- no vertex but the first is the first
  abbrev Off : ℕ × ℕ → Type 0
  Off q = q.0 ≡ Si 0 → q.1 ≡ value_at a (Si 0) → ⊥

  off-U : All Off (list_up_to U j)
  off-U = all-up_to Off U j (λ i l e f.
      let r = rising (value_at b) 8193 t j links' i l in
      let x = left-x in
      let y = links-full (value_at b) 8193 t j links' j (omega arith) in
      omega arith)

  off-left : (z : Bool) → ltb (T 0).1 (U j).1 ≡ z → All Off (corner_if (U j) z)
  off-left true e = ((λ x y. let l = ltb-true (T 0).1 (U j).1 e in omega arith), tt)
  off-left false e = tt

  off-under : All Off (list_up_to U j ++ Lf)
  off-under = all_append Off (list_up_to U j) Lf off-U (off-left (ltb (T 0).1 (U j).1) refl)

  off-T : (i : ℕ) → 0 < i → i ≤ k → Off (T i)
  off-T i h l e f = let r = first-less (value_at a) 8193 s k links i h l in omega arith

  off-right : 0 < k → (z : Bool) → All Off (corner_if (T k) z)
  off-right h true = (off-T k h (omega arith), tt)
  off-right h false = tt

  not-mem : (l : List (ℕ × ℕ)) → All Off l → ¬ Mem (pt_of (T 0)) (pts_of l)
  not-mem [] h m = elim m [ ]
  not-mem (q ∷ l) h (Memᴰ.head e) =
      h.0 (unfold pt_of in ap (λ (r : Pt). nat_abs r.x) (sym e)) (unfold pt_of in ap (λ (r : Pt). nat_abs r.y) (sym e))
  not-mem (q ∷ l) h (Memᴰ.tail m) = not-mem l h.1 m

  -- all points are one
  edge-one : ((i : ℕ) → i < many p → (x_at p i ≡ Si 0) × (y_at p i ≡ value_at a (Si 0))) → Edge P (pt_of (T 0)) (pt_of (T 0))
  edge-one same = edge-false p (pt_of (T 0)) (pt_of (T 0)) (λ i l.
      let e = same i l in
      subst (Side (pt_of (T 0)) (pt_of (T 0))) (sym (ap₂ (λ (x y : ℕ). pt_of (x, y)) e.0 e.1)) (side-first (pt_of (T 0)) (pt_of (T 0))))

  -- ---- closed
  abbrev Ring : List (ℕ × ℕ)
  Ring = round_of a s k b t j

  record Closed : Type 0 where
    rest : List (ℕ × ℕ)
    list : or_one (T 0) Ring ≡ T 0 ∷ rest
    run : Run P (pt_of (T 0)) (pts_of rest) (pt_of (T 0))
    apart : ¬ Mem (pt_of (T 0)) (pts_of rest)

  closed-by : (l : List (ℕ × ℕ)) → Ring ≡ T 0 ∷ l → All Off l → Closed
  closed-by l e h = record {
    rest = l;
    list = ap (or_one (T 0)) e;
    run = run-of-way P (pt_of (T 0)) (pt_of (T 0)) (pts_of l) (pt_of (T 0))
        (subst (λ (m : List (ℕ × ℕ)). Way P (pt_of (T 0)) (pts_of m) (pt_of (T 0))) e way);
    apart = not-mem l h;
  }

  closed_some : (n : ℕ) → k ≡ suc n → Closed
  unfolding round_of
  closed_some n e =
      closed-by (list_up_to (λ i. T (suc i)) n ++ (Rt ++ (list_up_to U j ++ Lf)))
      (ap (λ (l : List (ℕ × ℕ)). l ++ (Rt ++ (list_up_to U j ++ Lf))) (ap (list_up_to T) e ∙ up_to-cons T n))
      (all_append Off (list_up_to (λ i. T (suc i)) n) (Rt ++ (list_up_to U j ++ Lf))
      (all-up_to Off (λ i. T (suc i)) n (λ i l. off-T (suc i) (omega arith) (omega arith)))
      (all_append Off Rt (list_up_to U j ++ Lf) (off-right (omega arith) (ltb (T k).1 (U 0).1)) off-under))

  module _ (e : k ≡ 0) where
    same-x : Si k ≡ Si 0
    same-x = ap Si e

    same-T : T k ≡ T 0
    same-T = ap T e

    none-T : list_up_to T k ≡ []
    unfolding list_up_to
    none-T = ap (list_up_to T) e

    closed-down : ltb (T k).1 (U 0).1 ≡ true → Closed
    unfolding round_of
    closed-down h = closed-by (list_up_to U j ++ Lf)
        (ap₂ (λ (l : List (ℕ × ℕ)) (z : Bool). l ++ (corner_if (T k) z ++ (list_up_to U j ++ Lf))) none-T h
        ∙ ap (λ (q : ℕ × ℕ). q ∷ (list_up_to U j ++ Lf)) same-T) off-under

    no-turn : j ≡ 0
    no-turn = go (le-or-lt j 0)
      where
        go : (j ≤ 0) ⊎ (0 < j) → j ≡ 0
        go (inl l) = omega arith
        go (inr l) =
            absurd (let r = rising (value_at b) 8193 t j links' 0 l in let x = right-x in let y = left-x in let z = same-x in omega arith)

    same-y : (T k).1 ≡ (T 0).1
    same-y = ap (λ (q : ℕ × ℕ). q.1) same-T

    closed-one : ltb (T k).1 (U 0).1 ≡ false → Closed
    unfolding round_of
    closed-one h = record {
      rest = [];
      list = ap (or_one (T 0)) empty;
      run = edge-one same;
      apart = λ m. elim m [ ];
    }
      where
        none-U : list_up_to U j ≡ []
        none-U = unfold list_up_to in ap (list_up_to U) no-turn

        left : ltb (T 0).1 (U j).1 ≡ false
        left = ap₂ (λ (m : ℕ) (i : ℕ). ltb m (U i).1) (sym same-y) no-turn ∙ h

        empty : Ring ≡ []
        empty =
            ap₂ (λ (l : List (ℕ × ℕ)) (z : Bool). l ++ (corner_if (T k) z ++ (list_up_to U j ++ Lf))) none-T h
            ∙ ap₂ (λ (l : List (ℕ × ℕ)) (z : Bool). l ++ corner_if (U j) z) none-U left

        same : (i : ℕ) → i < many p → (x_at p i ≡ Si 0) × (y_at p i ≡ value_at a (Si 0))
        same i l =
            let q = same-x in
            let f = first i l in
            let g = last i l in
            let x : x_at p i ≡ Si 0 = omega arith in
            let y = small i l in
            let r = right-x in
            let z : 8192 - x_at p i ≡ TI 0 = omega arith in
            let u = subst (λ (x : ℕ). value_at a x ≤ y_at p i) x (above i l) in
            let w = subst (λ (x : ℕ). value_at b x ≤ 8192 - y_at p i) z (below i l) in
            let d = ltb-false (T k).1 (U 0).1 h in
            let v = same-y in
            (x, omega arith)

  closed : Closed
  closed = go (le-or-lt k 0)
    where
      test : (z : Bool) → ltb (T k).1 (U 0).1 ≡ z → k ≡ 0 → Closed
      test true h e = closed-down e h
      test false h e = closed-one e h

      go : (k ≤ 0) ⊎ (0 < k) → Closed
      go (inl l) = test (ltb (T k).1 (U 0).1) refl (omega arith)
      go (inr l) = closed_some (k - 1) (omega arith)

  -- ---- the hull
  some-P : 0 < length P
  some-P = let e = length-pts (pairs_of p) in let f = length_pairs p in omega arith

  start_is : pt_of (T 0) ≡ pt_at P (start_of P)
  start_is =
      lex-anti (pt_of (T 0)) (pt_at P (start_of P)) (least (pt_at P (start_of P)) (start-mem P some-P))
      (start-least P some-P (pt_of (T 0)) start)
    where
      by : (i : ℕ) → i < many p → (x_at p i ≤ Si 0) ⊎ (Si 0 < x_at p i) → LexLe (pt_of (T 0)) (pt_of (x_at p i, y_at p i))
      by i l (inl h) =
          let f = first i l in
          let x : x_at p i ≡ Si 0 = omega arith in
          let u = subst (λ (x : ℕ). value_at a x ≤ y_at p i) x (above i l) in
          lex-below (Si 0) (value_at a (Si 0)) (x_at p i) (y_at p i) x u
      by i l (inr h) = lex-left (Si 0) (value_at a (Si 0)) (x_at p i) (y_at p i) h

      least : (q : Pt) → Mem q P → LexLe (pt_of (T 0)) q
      least q m = let r = mem_index p q m in subst (LexLe (pt_of (T 0))) (sym r.2) (by r.0 r.1 (le-or-lt (x_at p r.0) (Si 0)))

  hull-of : pts_of (or_one (T 0) Ring) ≡ hull P
  hull-of =
      let c = closed in
      let h = hull-run P some-P in
      let e = start_is in
      let u : pts_of c.rest ≡ h.0 =
      run-unique P (pt_of (T 0)) start (pt_of (T 0)) (pts_of c.rest) h.0 c.run
      (subst (λ (q : Pt). Run P q h.0 q) (sym e) h.2) c.apart (λ m. h.3 (subst (λ (q : Pt). Mem q h.0) e m)) in
      ap pts_of c.list ∙ ap₂ (λ (q : Pt) (l : List Pt). q ∷ l) e u ∙ sym h.1

pub round-hull : (p : List ℕ) → Bounded p → 0 < many p → (a b s t : List ℕ) (k j : ℕ) → Tops false p (many p) a → Tops true p (many p) b
    → Chain (value_at a) 8193 (stack_of s (suc k)) → Chain (value_at b) 8193 (stack_of t (suc j))
    → pts_of (or_one (over_vertex a s 0) (round_of a s k b t j)) ≡ hull (pts_of (pairs_of p))
round-hull p bd some a b s t k j ta tb cs ct = hull-of p a b s t k j (around p bd some a b s t k j ta tb cs ct)
