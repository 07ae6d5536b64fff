-- Closed cases of the definitions, by computation: size 1. Assumes nothing.
use mathlib.Core.Path.{◌≡◌, refl}
use mathlib.Core.List.{[], ◌∷◌}
use mathlib.Core.Bool.{Bool, true, false}
use Prim.Native.Nat.{◌^◌}
use lib.Ieee.{nan, binary64, round, of_bits, lt}
use Rattle.ieee.specs.Ops.{abs}
use Rattle.ieee.specs.Constants.{1e-9, 1e-12}
use Rattle.math.specs.Elimination.{forward_on, pivot_on}
use Rattle.math.specs.Equations.{finished, solution, solve_answer}
use Rattle.laws.specs.Said.{refuse}
use Rattle.std.proofs.Common.{Option, Some, None}

-- whether there is one
abbrev found : {A : Type 0} → Option A → Bool
found (Some a) = true
found None = false

-- ---- size 1: a pivot of 1e-12 is solved, one of 9e-13 is none, a NaN is solved and gives a NaN
pub pivot-least : found (solution 1 (1e-12 ∷ []) (1e-9 ∷ [])) ≡ true
unfolding solution finished forward_on pivot_on lt abs of_bits
pivot-least = refl

pub pivot-less : solution 1 (round binary64 false 9 (10 ^ 13) ∷ []) (1e-9 ∷ []) ≡ None
unfolding solution finished forward_on pivot_on lt abs of_bits round
pivot-less = refl

pub pivot-nan : found (solution 1 (nan ∷ []) (1e-9 ∷ [])) ≡ true
unfolding solution finished forward_on pivot_on lt abs of_bits
pivot-nan = refl

-- ---- refusal 9: size 0, size 9, a list too short
pub size-0 : solve_answer 0 [] [] ≡ refuse 9
unfolding solve_answer
size-0 = refl

pub size-9 : solve_answer 9 [] [] ≡ refuse 9
unfolding solve_answer
size-9 = refl

pub too_short : solve_answer 1 (1e-12 ∷ []) [] ≡ refuse 9
unfolding solve_answer
too_short = refl
