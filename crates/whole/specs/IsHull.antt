-- What a convex hull is, and where its list starts, by rules 18 to 20 and rule 39, in the words of the request on
-- outlines in whole numbers. x is right and y is down, so that clockwise is as on the screen. Definitions only. Assumes nothing.
use Rattle.std.specs.Prelude.{◌≡◌, List, [], ◌∷◌, ◌++◌, ℤ}
use Rattle.laws.specs.Lists.{NoDup}
use Rattle.whole.specs.Numbers.{◌⊕◌, ◌⊗◌, neg, 𝟘, NN}
use Rattle.whole.specs.Points.{Pt, cross, Mem, Clockwise, Starts}
use Rattle.whole.specs.Hull.{hull}

-- The dot product of the ways from o to a and from o to b.
unfoldable pub dot : Pt → Pt → Pt → ℤ
dot o a b = (a.x ⊕ neg o.x) ⊗ (b.x ⊕ neg o.x) ⊕ (a.y ⊕ neg o.y) ⊗ (b.y ⊕ neg o.y)

-- p lies to the right of the way from a to b, or on the line through them.
abbrev pub OnRight : Pt → Pt → Pt → Type 0
OnRight a b p = NN (cross a b p)

-- p lies between a and b on the line through them, or is one of them: seen from p they do not lie in one direction.
abbrev pub Between : Pt → Pt → Pt → Type 0
Between a b p = (cross a b p ≡ 𝟘) × NN (neg (dot p a b))

-- No edge of the way from a over the vertices vs to z has p on its left.
abbrev pub OnRightOfAll : Pt → Pt → List Pt → Pt → Type 0
OnRightOfAll p a [] z = OnRight a z p
OnRightOfAll p a (b ∷ vs) z = OnRight a b p × OnRightOfAll p b vs z

-- p lies on or inside the outline with these vertices, clockwise: nothing does where there is no vertex; one vertex is a point, two are the
-- line between them, and from three on no edge, the one from the last vertex to the first included, has p on its left.
abbrev pub OnOrInside : Pt → List Pt → Type 0
OnOrInside p [] = ⊥
OnOrInside p (a ∷ []) = p ≡ a
OnOrInside p (a ∷ b ∷ []) = Between a b p
OnOrInside p (a ∷ b ∷ c ∷ vs) = OnRightOfAll p a (b ∷ c ∷ vs) a

-- The vertices vs are the hull of the points P.
pub record IsHull (P vs : List Pt) : Type 0 where
  -- "All points lie on or inside the hull"
  pub holds : (p : Pt) → Mem p P → OnOrInside p vs
  -- "its vertices are points"
  pub points : (v : Pt) → Mem v vs → Mem v P
  -- "and no vertex lies on or inside the hull of the others"
  pub needed : (xs : List Pt) (v : Pt) (ys : List Pt) → vs ≡ xs ++ v ∷ ys → ¬ OnOrInside v (hull (xs ++ ys))
  -- Their order: each once, clockwise, from the one with least x, then least y
  pub distinct : NoDup vs
  pub clockwise : Clockwise vs
  pub starts : Starts vs P
