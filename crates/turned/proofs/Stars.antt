-- The lines of rule 49: those on levels, labels and runs by their laws, the others computed from the definitions.
--     low-contrast                 contrast 79, whatever the levels
--     stars                        the table
-- Assumes nothing.
use mathlib.Core.Path.{◌≡◌, refl}
use Prim.Native.Nat.{ℕ, ◌-◌}
use native.Mathlib.Omega.{arith}
use borrow.Author.Tests.{lt-ltb}
use lib.Ieee
use lib.Ieee.{of_bits, round, add, sub, mul, lt, le, eq, is_nan}
use Rattle.threshold.specs.Threshold.{threshold, share, margin}
use Rattle.levels.proofs.Spots.{spot-dark-few, spot-dark-many}
use Rattle.levels.proofs.Rows.{row-to-11, row-12}
use Rattle.boundary.proofs.OneRun.{one-short, one-long}
use Rattle.ieee.specs.Ops.{sign, before}
use Rattle.whole.specs.Walk.{best_with, lowest_with, next_with, walk_with, hull_with, keep, farthest_with, ends, quad_with}
use Rattle.hull.specs.Points.{half_of, numbers_of, floats_of}
use Rattle.hull.specs.Hull.{cross_at, d2_at, better_at, lower_at, same_at, hull_of, hull_points}
use Rattle.hull.specs.Quad.{lace_at, area_at, quad_of, quad_points}
use Rattle.lcr_core.proofs.Controls.{position-26, position-27, position-103, first_marks}
use Rattle.turned.specs.Stars.{Stars}
use Rattle.turned.proofs.Columns.{columns-3, columns-4, fifteen-sixteen}

low-contrast : (d l : ℕ) → l - d ≡ 79 → threshold d l ≡ 0
unfolding threshold
low-contrast d l e = simp (lt-ltb (l - d) 80 (omega arith))

at-87 : threshold 0 87 ≡ 69
unfolding threshold share margin Ieee.to_unsigned Ieee.sub Ieee.mul Ieee.of_int Ieee.of_bits
at-87 = refl

at-255 : threshold 0 255 ≡ 204
unfolding threshold share margin Ieee.to_unsigned Ieee.sub Ieee.mul Ieee.of_int Ieee.of_bits
at-255 = refl

-- ---- hulls

pub stars : Stars
unfolding hull_points hull_of hull_with walk_with next_with best_with lowest_with better_at lower_at same_at cross_at d2_at floats_of numbers_of half_of before sign is_nan lt le eq
    round
    of_bits add sub mul quad_points quad_of quad_with farthest_with ends keep lace_at area_at
stars =
    record {
      contrast-79 = low-contrast;
      light-87 = at-87;
      light-255 = at-255;
      pixels-12 = λ p w h cx cy s. spot-dark-few p w h cx cy 12 s (omega arith);
      pixels-13 = λ p w h cx cy s. spot-dark-many p w h cx cy 13 s (omega arith);
      cells-to-11 = row-to-11;
      cell-12 = row-12;
      columns-0-3 = columns-3;
      columns-0-4 = columns-4;
      cells-15-16 = fifteen-sixteen;
      run-3 = λ n a s t one. one-short 4 n a 3 t one (omega arith) s (omega arith);
      run-4 = λ n a s t one. one-long 4 n a 4 t one (omega arith) (omega arith) s;
      hull-five = refl;
      quad-five = refl;
      hull-none = refl;
      hull-twice = refl;
      hull-line = refl;
      position-26 = position-26;
      position-27 = position-27;
      position-103 = position-103;
      marks-0-7 = first_marks;
    }
