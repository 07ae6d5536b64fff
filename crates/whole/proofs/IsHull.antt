-- The walk gives the hull, of every list of points: `hull-is`.
--     on-run, inside              every point lies on or inside a closed run
--     around-of                   where there are two vertices or more, no edge has the point on its left
--     ..-without, apart           a way round without one of its vertices
--     outside, not-inside         no vertex lies on or inside the hull of the others
-- Assumes nothing.
use mathlib.Core.Path.{◌≡◌, refl, sym, ap, ◌∙◌, subst}
use mathlib.Core.Logic.{◌⊎◌, inl, inr}
use mathlib.Core.List.Memᴰ
use mathlib.Core.List.{
  List,
  [],
  ◌∷◌,
  ◌++◌,
  append-nil,
}
use Prim.Native.Nat.{ℕ, suc, ◌<◌}
use native.Mathlib.Omega.{arith}
use lib.ListN.{length}
use Rattle.laws.specs.Lists.{NoDup}
use Rattle.whole.specs.Numbers.{neg, 𝟘, PP}
use Rattle.whole.specs.Points.{Pt, cross, Mem, pt_at, Rot, Fan, Clockwise}
use Rattle.whole.specs.Hull.{walk, hull, start_of}
use Rattle.whole.specs.IsHull.{OnRight, OnRightOfAll, OnOrInside, IsHull}
use Rattle.whole.proofs.Sums.{𝟘-⊕, ⊕-neg}
use Rattle.whole.proofs.Ord.{nn≡, pp≡, pnn, z0, anti}
use Rattle.whole.proofs.Turns.{cyc, swap, rot2}
use Rattle.whole.proofs.Edge.{Side, side-first, side-unique, Edge}
use Rattle.whole.proofs.Run.{Run}
use Rattle.whole.proofs.Closed.{run-mem, run-clockwise}
use Rattle.whole.proofs.Hulls.{hull-run, start-least, start-mem, start-ext}
use Rattle.whole.proofs.Moved.{closed-nodup}
use Rattle.whole.proofs.Reordered.{rot-same, rot-length}
use Rattle.whole.proofs.Rotated.{Around, around-split, around-rot, hull-of-clockwise}

-- ---- on or inside
on-run : (P : List Pt) (p : Pt) → Mem p P → (a : Pt) (vs : List Pt) (z : Pt) → Run P a vs z → OnRightOfAll p a vs z
unfolding Edge Side
on-run P p m a [] z r = (r p m).0
on-run P p m a (b ∷ bs) z r = ((r.1 p m).0, on-run P p m b bs z r.2)

inside : (P : List Pt) (p : Pt) → Mem p P → (a : Pt) (vs : List Pt) → Run P a vs a → OnOrInside p (a ∷ vs)
unfolding Edge
inside P p m a [] r = sym (side-unique a a p (r p m) (side-first a p))
inside P p m a (b ∷ []) r = unfold Side in
    let z : cross a b p ≡ 𝟘 = anti (r.1 p m).0 (nn≡ (r.2 p m).0 (rot2 a b p)) in
    (z, (r.1 p m).1 z)
inside P p m a (b ∷ c ∷ vs) r = on-run P p m a (b ∷ c ∷ vs) a r

pub none : neg 𝟘 ≡ 𝟘
none = sym (𝟘-⊕ (neg 𝟘)) ∙ ⊕-neg 𝟘

around-of : (p a b : Pt) (l : List Pt) → OnOrInside p (a ∷ b ∷ l) → Around p (a ∷ b ∷ l)
around-of p a b [] h = (nn≡ z0 (sym h.0), nn≡ z0 (sym (rot2 a b p ∙ ap neg h.0 ∙ none)))
around-of p a b (c ∷ l) h = h

-- ---- without one vertex
mem-without : (xs : List Pt) (v : Pt) (ys : List Pt) (p : Pt) → Mem p (xs ++ ys) → Mem p (xs ++ v ∷ ys)
mem-without xs v ys p m = go (Memᴰ.append_cases xs m)
  where
    go : Mem p xs ⊎ Mem p ys → Mem p (xs ++ v ∷ ys)
    go (inl t) = Memᴰ.append_left (v ∷ ys) t
    go (inr t) = Memᴰ.append_right xs (Memᴰ.tail t)

once-without : (xs : List Pt) (v : Pt) (ys : List Pt) → NoDup (xs ++ v ∷ ys) → NoDup (xs ++ ys)
once-without [] v ys d = d.1
once-without (x ∷ xs) v ys d = ((λ m. d.0 (mem-without xs v ys x m)), once-without xs v ys d.1)

fan-without : (a : Pt) (xs : List Pt) (v : Pt) (ys : List Pt) → Fan a (xs ++ v ∷ ys) → Fan a (xs ++ ys)
fan-without a [] v ys f = f.1
fan-without a (x ∷ xs) v ys f = ((λ b m. f.0 b (mem-without xs v ys b m)), fan-without a xs v ys f.1)

clock-without : (xs : List Pt) (v : Pt) (ys : List Pt) → Clockwise (xs ++ v ∷ ys) → Clockwise (xs ++ ys)
clock-without [] v ys c = c.1
clock-without (x ∷ xs) v ys c = (fan-without x xs v ys c.0, clock-without xs v ys c.1)

-- the one vertex is not the only other one
apart : (xs : List Pt) (v : Pt) (ys : List Pt) → NoDup (xs ++ v ∷ ys) → ¬ Mem v (xs ++ ys)
apart [] v ys d m = d.0 m
apart (x ∷ xs) v ys d (Memᴰ.head e) = d.0 (Memᴰ.append_right xs (Memᴰ.head (sym e)))
apart (x ∷ xs) v ys d (Memᴰ.tail m) = apart xs v ys d.1 m

-- ---- the edge that the vertex lies on the left of
-- the last of a ∷ vs
abbrev pub last_of : Pt → List Pt → Pt
last_of a [] = a
last_of a (b ∷ bs) = last_of b bs

pub last_mem : (a : Pt) (vs : List Pt) → Mem (last_of a vs) (a ∷ vs)
last_mem a [] = Memᴰ.head refl
last_mem a (b ∷ bs) = Memᴰ.tail (last_mem b bs)

pub at-end : (p a : Pt) (vs : List Pt) (z : Pt) → OnRightOfAll p a vs z → OnRight (last_of a vs) z p
at-end p a [] z h = h
at-end p a (b ∷ bs) z h = at-end p b bs z h.1

-- three in order turn clockwise
clock-mid : (a : Pt) (xs : List Pt) (v w : Pt) (ys : List Pt) → Clockwise (a ∷ xs ++ v ∷ w ∷ ys) → PP (cross (last_of a xs) v w)
clock-mid a [] v w ys c = c.0.0 w (Memᴰ.head refl)
clock-mid a (b ∷ bs) v w ys c = clock-mid b bs v w ys c.1

fan-at : (a : Pt) (xs : List Pt) (u v : Pt) → Fan a (xs ++ v ∷ []) → Mem u xs → PP (cross a u v)
fan-at a [] u v f m = elim m [ ]
fan-at a (b ∷ bs) u v f (Memᴰ.head e) = subst (λ t. PP (cross a t v)) (sym e) (f.0 v (Memᴰ.append_right bs (Memᴰ.head refl)))
fan-at a (b ∷ bs) u v f (Memᴰ.tail t) = fan-at a bs u v f.1 t

wrong : (u v w : Pt) → PP (cross u v w) → OnRight u w v → ⊥
wrong u v w p s = pnn p (nn≡ s (swap u v w))

-- with two others or more, the edge between the vertex's neighbours has it on its left
outside : (xs : List Pt) (v : Pt) (ys : List Pt) → Clockwise (xs ++ v ∷ ys) → 1 < length (xs ++ ys) → Around v (xs ++ ys) → ⊥
outside [] v [] c many i = omega arith
outside [] v (b ∷ []) c many i = omega arith
outside [] v (b ∷ b' ∷ bs) c many i =
    wrong (last_of b' bs) v b (pp≡ (c.0.0 (last_of b' bs) (last_mem b' bs)) (sym (cyc (last_of b' bs) v b))) (at-end v b (b' ∷ bs) b i)
outside (a ∷ []) v [] c many i = omega arith
outside (a ∷ a' ∷ xs) v [] c many i =
    wrong (last_of a' xs) v a (pp≡ (fan-at a (a' ∷ xs) (last_of a' xs) v c.0 (last_mem a' xs)) (cyc a (last_of a' xs) v))
    (at-end v a (a' ∷ xs) a (subst (λ l. OnRightOfAll v a l a) (append-nil (a' ∷ xs)) i))
outside (a ∷ xs) v (b ∷ bs) c many i =
    wrong (last_of a xs) v b (clock-mid a xs v b bs c) (at-end v a xs b (around-split v a xs b bs a i).0)

-- ---- no vertex lies on or inside the hull of the others
not-inside : (xs : List Pt) (v : Pt) (ys : List Pt) → NoDup (xs ++ v ∷ ys) → Clockwise (xs ++ v ∷ ys) → ¬ OnOrInside v (hull (xs ++ ys))
not-inside xs v ys d c h =
    let r = hull-of-clockwise (xs ++ ys) (once-without xs v ys d) (clock-without xs v ys c) in
    go (hull (xs ++ ys)) r h
  where
    -- the last two of three facts that clash
    turned : (l : List Pt) → Rot (xs ++ ys) l → Around v l → Around v (xs ++ ys)
    turned l r k =
        subst (Around v) (sym r.2) (around-rot v r.1 r.0 (subst (Around v) r.3 k))

    go : (l : List Pt) → Rot (xs ++ ys) l → OnOrInside v l → ⊥
    go [] r k = k
    go (x ∷ []) r k = apart xs v ys d ((rot-same (xs ++ ys) (x ∷ []) r v).1 (Memᴰ.head k))
    go (x ∷ y ∷ l) r k =
        outside xs v ys c (two (length l) (rot-length (xs ++ ys) (x ∷ y ∷ l) r)) (turned (x ∷ y ∷ l) r (around-of v x y l k))
      where
        two : (k : ℕ) → length (xs ++ ys) ≡ suc (suc k) → 1 < length (xs ++ ys)
        two k e = omega arith

-- ---- the hull
some-hull : (P : List Pt) → 0 < length P → IsHull P (hull P)
some-hull P some =
    let h = hull-run P some in
    let s : Pt = pt_at P (start_of P) in
    let d : NoDup (s ∷ h.0) = closed-nodup P s h.0 (start-mem P some) h.2 h.3 in
    let c : Clockwise (s ∷ h.0) = run-clockwise P s h.0 s (start-mem P some) (start-ext P some) h.2 d in
    subst (IsHull P) (sym h.1) record {
      holds = λ p m. inside P p m s h.0 h.2;
      points = λ v m. mem s h.0 (start-mem P some) (λ q t. run-mem P s h.0 s h.2 q t) v m;
      needed = λ xs v ys e. not-inside xs v ys (subst NoDup e d) (subst Clockwise e c);
      distinct = d;
      clockwise = c;
      starts = start-least P some;
    }
  where
    mem : (s : Pt) (vs : List Pt) → Mem s P → ((q : Pt) → Mem q vs → Mem q P) → (v : Pt) → Mem v (s ∷ vs) → Mem v P
    mem s vs ms h v (Memᴰ.head e) = Memᴰ.cast e ms
    mem s vs ms h v (Memᴰ.tail t) = h v t

no-hull : IsHull [] []
no-hull = record {
  holds = λ p m. elim m [ ];
  points = λ v m. m;
  needed = λ xs v ys e. absurd (never xs v ys e);
  distinct = tt;
  clockwise = tt;
  starts = tt;
}
  where
    never : (xs : List Pt) (v : Pt) (ys : List Pt) → [] ≡ xs ++ v ∷ ys → ⊥
    never xs v ys e = let z : Mem v [] = subst (Mem v) (sym e) (Memᴰ.append_right xs (Memᴰ.head refl)) in elim z [ ]

pub hull-is : (P : List Pt) → IsHull P (hull P)
hull-is [] = unfold hull walk in no-hull
hull-is (p ∷ P) = some-hull (p ∷ P) (omega arith)
