-- Outlines whose vertices are listed from another start, and outlines without one of their vertices.
--     around-split, around-join          edges of one part of the way round, and of the other
--     clock-.., run_of                   vertices that turn clockwise lie along edges of their own hull
--     hull-of-clockwise                  so that they are that hull, from another start
-- Assumes nothing.
use mathlib.Core.Path.{◌≡◌, refl, sym, ap, ◌∙◌, subst}
use mathlib.Core.Logic.{◌⊎◌, inl, inr}
use mathlib.Core.List.Memᴰ
use mathlib.Core.List.{List, [], ◌∷◌, ◌++◌, append_assoc, append-nil}
use Rattle.laws.specs.Lists.{NoDup}
use Rattle.whole.specs.Numbers.{PP}
use Rattle.whole.specs.Points.{Pt, cross, Mem, Rot, Fan, Clockwise}
use Rattle.whole.specs.Hull.{hull, walk}
use Rattle.whole.proofs.Ord.{pn, pp≡, p0}
use Rattle.whole.proofs.Turns.{cyc}
use Rattle.whole.proofs.Edge.{Side, side-first, side-second, Edge}
use Rattle.whole.proofs.Run.{Run}
use Rattle.whole.proofs.Moved.{hull-of-closed}
use Rattle.whole.specs.IsHull.{OnRightOfAll}

-- ---- the way round in two parts
pub around-split : (p a : Pt) (xs : List Pt) (b : Pt) (ys : List Pt) (z : Pt) → OnRightOfAll p a (xs ++ b ∷ ys) z
    → OnRightOfAll p a xs b × OnRightOfAll p b ys z
around-split p a [] b ys z h = (h.0, h.1)
around-split p a (c ∷ xs) b ys z h = let r = around-split p c xs b ys z h.1 in ((h.0, r.0), r.1)

pub around-join : (p a : Pt) (xs : List Pt) (b : Pt) (ys : List Pt) (z : Pt) → OnRightOfAll p a xs b → OnRightOfAll p b ys z
    → OnRightOfAll p a (xs ++ b ∷ ys) z
around-join p a [] b ys z h k = (h, k)
around-join p a (c ∷ xs) b ys z h k = (h.0, around-join p c xs b ys z h.1 k)

-- all the way round, from the first
abbrev pub Around : Pt → List Pt → Type 0
Around p [] = Unit {0}
Around p (a ∷ vs) = OnRightOfAll p a vs a

-- from another start
pub around-rot : (p : Pt) (us ws : List Pt) → Around p (us ++ ws) → Around p (ws ++ us)
around-rot p [] [] h = h
around-rot p [] (w ∷ ws) h = subst (λ (l : List Pt). Around p l) (sym (append-nil (w ∷ ws))) h
around-rot p (u ∷ us) [] h = subst (λ (l : List Pt). Around p l) (append-nil (u ∷ us)) h
around-rot p (u ∷ us) (w ∷ ws) h = let r = around-split p u us w ws u h in around-join p w ws u us w r.1 r.0

-- ---- vertices that turn clockwise
-- one of them before two
clock-pre : (xs : List Pt) (a b : Pt) (ys : List Pt) → Clockwise (xs ++ a ∷ b ∷ ys) → (p : Pt) → Mem p xs → PP (cross p a b)
clock-pre [] a b ys c p m = elim m [ ]
clock-pre (x ∷ xs) a b ys c p (Memᴰ.head e) = subst (λ (q : Pt). PP (cross q a b)) (sym e) (fan-two xs c.0)
  where
    fan-two : (xs : List Pt) → Fan x (xs ++ a ∷ b ∷ ys) → PP (cross x a b)
    fan-two [] f = f.0 b (Memᴰ.head refl)
    fan-two (y ∷ l) f = fan-two l f.1
clock-pre (x ∷ xs) a b ys c p (Memᴰ.tail m) = clock-pre xs a b ys c.1 p m

-- one of them after two
clock-post : (xs : List Pt) (a b : Pt) (ys : List Pt) → Clockwise (xs ++ a ∷ b ∷ ys) → (p : Pt) → Mem p ys → PP (cross a b p)
clock-post [] a b ys c p m = c.0.0 p m
clock-post (x ∷ xs) a b ys c p m = clock-post xs a b ys c.1 p m

-- one of them between the first and the last
clock-in : (a : Pt) (xs : List Pt) (z : Pt) → Fan a (xs ++ z ∷ []) → (p : Pt) → Mem p xs → PP (cross a p z)
clock-in a [] z f p m = elim m [ ]
clock-in a (x ∷ xs) z f p (Memᴰ.head e) =
    subst (λ (q : Pt). PP (cross a q z)) (sym e) (f.0 z (Memᴰ.append_right xs (Memᴰ.head refl)))
clock-in a (x ∷ xs) z f p (Memᴰ.tail m) = clock-in a xs z f.1 p m

-- ---- sides
side-pos : (a b p : Pt) → PP (cross a b p) → Side a b p
unfolding Side
side-pos a b p h = (pn h, λ e. absurd (p0 h e))

-- an edge between two that follow each other
edge-mid : (xs : List Pt) (a b : Pt) (ys : List Pt) → Clockwise (xs ++ a ∷ b ∷ ys) → Edge (xs ++ a ∷ b ∷ ys) a b
unfolding Edge
edge-mid xs a b ys c p m = go (Memᴰ.append_cases xs m)
  where
    go : Mem p xs ⊎ Mem p (a ∷ b ∷ ys) → Side a b p
    go (inl t) = side-pos a b p (pp≡ (clock-pre xs a b ys c p t) (cyc p a b))
    go (inr (Memᴰ.head e)) = subst (Side a b) (sym e) (side-first a b)
    go (inr (Memᴰ.tail (Memᴰ.head e))) = subst (Side a b) (sym e) (side-second a b)
    go (inr (Memᴰ.tail (Memᴰ.tail t))) = side-pos a b p (clock-post xs a b ys c p t)

-- and from the last to the first
edge-last : (a : Pt) (xs : List Pt) (z : Pt) → Clockwise (a ∷ (xs ++ z ∷ [])) → Edge (a ∷ (xs ++ z ∷ [])) z a
unfolding Edge
edge-last a xs z c p (Memᴰ.head e) = subst (Side z a) (sym e) (side-second z a)
edge-last a xs z c p (Memᴰ.tail m) = go (Memᴰ.append_cases xs m)
  where
    go : Mem p xs ⊎ Mem p (z ∷ []) → Side z a p
    go (inl t) = side-pos z a p (pp≡ (clock-in a xs z c.0 p t) (cyc a p z ∙ cyc p z a))
    go (inr (Memᴰ.head e)) = subst (Side z a) (sym e) (side-first z a)
    go (inr (Memᴰ.tail t)) = elim t [ ]

-- a point alone
edge-self : (a : Pt) → Edge (a ∷ []) a a
unfolding Edge
edge-self a p (Memᴰ.head e) = subst (Side a a) (sym e) (side-first a a)
edge-self a p (Memᴰ.tail t) = elim t [ ]

-- the closed run: xs are the vertices before b, and vs those after it
run_on : (a : Pt) (l xs : List Pt) (b : Pt) (vs : List Pt) → l ≡ a ∷ (xs ++ b ∷ vs) → Clockwise l → Run l b vs a
run_on a l xs b [] e c = subst (λ (l : List Pt). Edge l b a) (sym e) (edge-last a xs b (subst Clockwise e c))
run_on a l xs b (d ∷ vs) e c = (
  subst (Mem d) (sym e) (Memᴰ.tail (Memᴰ.append_right xs (Memᴰ.tail (Memᴰ.head refl)))),
  subst (λ (l : List Pt). Edge l b d) (sym e) (edge-mid (a ∷ xs) b d vs (subst Clockwise e c)),
  run_on a l (xs ++ b ∷ []) d vs (e ∙ ap (λ (l : List Pt). a ∷ l) (sym (append_assoc xs (b ∷ []) (d ∷ vs)))) c,
)

run_of : (a : Pt) (vs : List Pt) → Clockwise (a ∷ vs) → Run (a ∷ vs) a vs a
run_of a [] c = edge-self a
run_of a (b ∷ vs) c = (
  Memᴰ.tail (Memᴰ.head refl),
  edge-mid [] a b vs c,
  run_on a (a ∷ b ∷ vs) [] b vs refl c,
)

pub hull-of-clockwise : (l : List Pt) → NoDup l → Clockwise l → Rot l (hull l)
hull-of-clockwise [] d c = unfold hull walk in ([], [], refl, refl)
hull-of-clockwise (a ∷ vs) d c = hull-of-closed (a ∷ vs) a vs (Memᴰ.head refl) (run_of a vs c) d.0
