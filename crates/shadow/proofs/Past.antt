-- The change of one level cell reaches no farther than 11 cells, so none that are more than r away, for every r from 11 on: levels-by,
-- levels-past, ink-past, doors-past. Assumes nothing.
use mathlib.Core.Logic.{inl, inr}
use mathlib.Core.Path.{◌∙◌, ◌≡◌, ap₂, sym}
use Prim.Native.Nat.{◌/◌, ◌<◌, ◌≤◌, ℕ}
use native.Mathlib.Omega.{arith}
use lib.Dec.{ltb}
use Rattle.laws.specs.Plane.{plane}
use Rattle.levels.proofs.Same.{level-local}
use Rattle.levels.specs.Level.{cells, ink_at, ink_of}
use Rattle.levels.specs.Reach.{WithinCells}
use Rattle.turned.proofs.Calls.{grid-at}
use Rattle.shadow.specs.Claims.{GridsPast, InkPast, LevelsBy, LevelsPast}
use Rattle.shadow.specs.Shadow.{Away}

away-near : {r cx cy x y : ℕ} → Away r cx cy x y → WithinCells r x y cx cy → ⊥
away-near (inl a) n = omega arith
away-near (inr a) n = omega arith

near-more : {k r x y i j : ℕ} → k ≤ r → WithinCells k x y i j → WithinCells r x y i j
near-more more n = record { right = omega arith; left = omega arith; below = omega arith; above = omega arith }

-- a pixel of a cell so far away is not in the cell that differs
other-cell : (r cx cy x y : ℕ) → Away r cx cy (x / 16) (y / 16) → (x / 16 ≡ cx) × (y / 16 ≡ cy) → ⊥
other-cell r cx cy x y away e =
    away-near away
    record { right = omega (arith, e.0); left = omega (arith, e.0); below = omega (arith, e.1); above = omega (arith, e.1) }

module _ {r : ℕ} (far : 11 ≤ r) where
  pub levels-by : LevelsBy r
  unfolding LevelsBy
  levels-by w h s t x y lx ly same =
      level-local w h (plane w s) (plane w t) x y lx ly (λ u v lu lv n. same u v lu lv (near-more far n))

  pub levels-past : LevelsPast r
  unfolding LevelsPast
  levels-past w h s t cx cy one x y lx ly away =
      level-local w h (plane w s) (plane w t) x y lx ly
      (λ u v lu lv n. one u v lu lv (λ e. away-near away (near-more far (rw (e.0, e.1) at n))))

  pub ink-past : InkPast r
  unfolding InkPast ink_at ink_of LevelsPast
  ink-past w h s t cx cy one x y lx ly away =
      ap₂ ltb (one x y lx ly (other-cell r cx cy x y away)) (levels-past w h s t cx cy one (x / 16) (y / 16) (omega arith) (omega arith) away)

  pub doors-past : GridsPast r
  unfolding GridsPast ink_of LevelsPast
  doors-past w h s t cx cy one c d =
      (grid, λ x y lx ly away. ap₂ ltb (one x y lx ly (other-cell r cx cy x y away)) (grid (x / 16) (y / 16) (omega arith) (omega arith) away))
    where
      grid : (x y : ℕ) → x < cells w → y < cells h → Away r cx cy x y → plane (cells w) c.grid x y ≡ plane (cells w) d.grid x y
      grid x y lx ly away =
          grid-at s w h c x y lx ly ∙ levels-past w h s t cx cy one x y lx ly away ∙ sym (grid-at t w h d x y lx ly)
