-- Closed cases of the definitions, by computation: medians as the Rust answers them. Assumes nothing.
use mathlib.Core.Path.{◌≡◌, refl}
use mathlib.Core.List.{[], ◌∷◌}
use Prim.Native.Nat.{ℕ}
use lib.Ieee.{Float, nan, binary32, of_bits, lt, mul, add}
use Rattle.ieee.specs.Ops.{finite}
use Rattle.laws.specs.Said.{refuse}
use Rattle.medians.specs.Median.{count_in, is_kth, first_with, kth, median, usable, all_usable, checked, median_answer}

-- ---- medians: of none 0; of 3, 1, 2 it is 2; of 4, 1, 2, 3 it is 2.5; of -1e-45 and 0 it is -0
abbrev f32 : ℕ → Float
f32 b = of_bits binary32 b

pub none : median [] ≡ f32 0
unfolding median
none = refl

pub three : median (f32 0x4040_0000 ∷ f32 0x3f80_0000 ∷ f32 0x4000_0000 ∷ []) ≡ f32 0x4000_0000
unfolding median kth first_with is_kth count_in lt mul add of_bits
three = refl

pub four : median (f32 0x4080_0000 ∷ f32 0x3f80_0000 ∷ f32 0x4000_0000 ∷ f32 0x4040_0000 ∷ []) ≡ f32 0x4020_0000
unfolding median kth first_with is_kth count_in lt mul add of_bits
four = refl

pub minus-zero : median (f32 0x8000_0001 ∷ f32 0 ∷ []) ≡ f32 0x8000_0000
unfolding median kth first_with is_kth count_in lt mul add of_bits
minus-zero = refl

-- ---- refusal 10: -0, an infinity, a NaN among the values
pub minus-zero-refused : median_answer (f32 0 ∷ f32 0x8000_0000 ∷ []) ≡ refuse 10
unfolding median_answer checked all_usable usable finite of_bits
minus-zero-refused = refl

pub infinity-refused : median_answer (f32 0x7f80_0000 ∷ []) ≡ refuse 10
unfolding median_answer checked all_usable usable finite of_bits
infinity-refused = refl

pub nan-refused : median_answer (f32 0 ∷ nan ∷ []) ≡ refuse 10
unfolding median_answer checked all_usable usable finite of_bits
nan-refused = refl
