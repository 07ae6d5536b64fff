-- The labelling of a grid gives every cell its label (labels-are, labels-many); what it leaves in a longer list (cells-laid).
-- Assumes nothing.
use mathlib.Core.Bool.{Bool}
use mathlib.Core.List.{List, ◌++◌}
use mathlib.Core.Path.{◌∙◌, ◌≡◌, ap, ap₂, sym}
use Prim.Native.Nat.{◌≤◌, ◌*◌, ℕ}
use native.Mathlib.Omega.{arith}
use lib.ListN.{drop, get_or, length, take}
use lib.Seq.{length-take-le}
use Rattle.labels.proofs.FillLaws.{Outer, outer-begin, outer-groups, outer-end}
use Rattle.labels.proofs.States.{marked-in}
use Rattle.labels.proofs.Window.{window-around}
use Rattle.labels.specs.Labelling.{labelling, window}
use Rattle.labels.specs.Inner.{CellGrid, Inked}
use Rattle.laws.specs.Count.{count}
use Rattle.laws.specs.Lent.{laid}
use Rattle.labels.proofs.Near.{grid}
use Rattle.labels.specs.Labels.{NearGrid, first?, label, near}

module _ (w h : ℕ) (l : List ℕ) (q : CellGrid l w h) (ink : ℕ → Bool) (marked : Inked ink l) where
  here : NearGrid ink (near w) (h * w)
  unfolding Inked
  here = grid ink w (h * w) (λ c i. omega (arith, q.size, marked-in l c (marked c ∙ rw i)))

  ended : Outer ink (near w) (h * w) (h * w) (labelling w h l)
  unfolding labelling Inked
  ended =
      let a = window-around w h q.some in
      outer-groups ink (near w) (h * w) here (window w h) a (h * w) (h * w) l (omega arith) (omega (arith, q.few)) (omega arith)
      (outer-begin ink (near w) (h * w) here (window w h) a l q.size marked)

  pub labels-are : (c : ℕ) → get_or (labelling w h l).held c 0 ≡ label ink (near w) (h * w) c
  labels-are c = outer-end ink (near w) (h * w) here (window w h) (window-around w h q.some) (labelling w h l) ended c

  pub labels-many : (labelling w h l).given ≡ count (first? ink (near w) (h * w)) (h * w)
  labels-many = ended.counted

-- the lists after the labelling of their first n places
pub cells-laid : (n : ℕ) (l l₁ held : List ℕ) → n ≤ length l → held ≡ l₁ → length l₁ ≡ length (take n l) → l₁ ++ drop n l ≡ laid held l
cells-laid n l l₁ held room e same =
    let z : n ≡ length held = sym (ap length e ∙ same ∙ length-take-le n l room) in
    ap₂ (λ (x : List ℕ) (m : ℕ). x ++ drop m l) (sym e) z
