-- 15 cells are dropped and 16 kept, a line of rule 49, for any sizes of groups. Assumes nothing.
use mathlib.Core.Bool.{false, true}
use mathlib.Core.Path.{◌≡◌, refl}
use Prim.Native.Nat.{◌<◌, ℕ}
use native.Mathlib.Omega.{arith}
use Rattle.laws.proofs.Bools.{clash}
use Rattle.regions.proofs.Kept.{kept-at, order}
use Rattle.regions.proofs.Select.{nth-is, place-under}
use Rattle.regions.specs.Kept.{ahead, kept_at, kept_of, place, want}

-- A group of 15 cells is at no place of the kept; one of 16 is at a place if fewer than four are ahead of it.
pub fifteen-dropped : (s : ℕ → ℕ) (m a i : ℕ) → s a ≡ 15 → i < kept_of s m → kept_at s m i ≡ a → ⊥
unfolding kept_of
fifteen-dropped s m a i e l is =
    let k = kept-at s m i (omega arith) in
    clash (rw is at k.wanted) (too_few s a e)
  where
    too_few : (s : ℕ → ℕ) (a : ℕ) → s a ≡ 15 → want s a ≡ false
    too_few s a e = unfold want in rw e

pub sixteen-kept : (s : ℕ → ℕ) (m a : ℕ) → a < m → s a ≡ 16 → place (want s) (ahead s) m a < 4
    → (place (want s) (ahead s) m a < kept_of s m) × (kept_at s m (place (want s) (ahead s) m a) ≡ a)
unfolding kept_of kept_at want
sixteen-kept s m a l e few =
    let w : want s a ≡ true = unfold want in rw e in (
      omega (arith, place-under (want s) (ahead s) m (order s) a l w),
      nth-is (want s) (ahead s) m (order s) a (place (want s) (ahead s) m a) l w refl,
    )
