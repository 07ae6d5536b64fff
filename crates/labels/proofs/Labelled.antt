-- What labels are: `labelling`, of every picture; no label is above the number of groups: cell-most.
--     label-some, label-zero     which labels there are
--     first-lead                 the first cell of a label leads its group
-- Assumes nothing.
use mathlib.Core.Path.{◌≡◌}
use mathlib.Core.Logic.{⊎_elim}
use mathlib.Core.Bool.{Bool, true, false}
use Prim.Native.Nat.{ℕ, ◌<◌, ◌≤◌}
use native.Mathlib.Omega.{arith}
use Rattle.laws.specs.Plane.{Plane}
use Rattle.laws.proofs.Bools.{falsely, which}
use Rattle.labels.specs.Labels.{near, leader, label, NearGrid}
use Rattle.labels.specs.Cells.{cells8, cells_of, ink_cell, cell_label, groups_of}
use Rattle.labels.specs.Claims.{Labelling}
use Rattle.labels.proofs.Graph.{leader-self, label-none, label-ink, label_same, label-less, label-linked, label-most}
use Rattle.labels.proofs.Order.{cell_of, cell-of}
use Rattle.labels.proofs.Pictures.{grid-of, ink-inside}

-- ---- any grid
module _ (ink : ℕ → Bool) (near : ℕ → ℕ → Bool) (n : ℕ) (g : NearGrid ink near n) where
  label-some : (c : ℕ) → ink c ≡ true → 1 ≤ label ink near n c
  label-some c i = omega (arith, label-ink ink near n g c i)

  label-zero : (c : ℕ) → label ink near n c ≡ 0 → ink c ≡ false
  label-zero c e = falsely (ink c) (λ i. omega (arith, e, label-some c i))

  -- the first cell of a label leads its group
  first-lead : (c : ℕ) → ink c ≡ true → ((d : ℕ) → d < c → ¬ (label ink near n d ≡ label ink near n c)) → leader ink near n c ≡ c
  first-lead c i before = leader-self ink near n g c i (λ d b r. before d b (label_same ink near n g r))

-- ---- a picture
pub labelling : (p : Plane) (w h : ℕ) → Labelling p w h
unfolding cell_label groups_of
labelling p w h = record {
  shared = λ a b i j. (label-linked ink n k g a b i j, λ r. label_same ink n k g r);
  most = λ c i. (label-some ink n k g c i, label-most ink n k g c i);
  each =
      λ i l. (cell_of ink n k i, ink-inside p w h (cell_of ink n k i) (cell-of ink n k g i l).0, (cell-of ink n k g i l).1);
  ordered = λ a b f s l. label-less ink n k g a b f.ink s.ink
      (omega (arith, l, first-lead ink n k g a f.ink f.before, first-lead ink n k g b s.ink s.before));
  none = λ c. (label-zero ink n k g c, label-none ink n k g c);
}
  where
    ink : ℕ → Bool
    ink = ink_cell p w h

    n : ℕ → ℕ → Bool
    n = near (cells8 w)

    k : ℕ
    k = cells_of w h

    g : NearGrid ink n k
    g = grid-of p w h

pub cell-most : (p : Plane) (w h c : ℕ) → cell_label p w h c ≤ groups_of p w h
cell-most p w h c =
    ⊎_elim (λ i. ((labelling p w h).most c i).1) (λ i. omega (arith, ((labelling p w h).none c).1 i)) (which (ink_cell p w h c))
