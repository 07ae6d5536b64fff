-- Laws of the numbers of refusals. Assumes nothing.
use Rattle.std.proofs.Common.{◌≡◌, ◌<◌, Result, Ok, Err, arith}
use Rattle.laws.specs.Said.{give}
use Rattle.refusal.specs.declared.Refusal.{Refusal}
use Rattle.refusal.specs.declared.Refusal.TheVariants as refusal
use Rattle.refusal.specs.Numbers.{number_of, said}

-- No refusal has the number 0, which stands for none.
pub number-some : (r : Refusal) → 0 < number_of r
number-some refusal.Side = omega arith
number-some refusal.Bytes = omega arith
number-some refusal.Lent = omega arith
number-some refusal.Box = omega arith
number-some refusal.Points = omega arith
number-some refusal.Coordinate = omega arith
number-some refusal.Version = omega arith
number-some refusal.Size = omega arith
number-some refusal.Value = omega arith
number-some refusal.Marks = omega arith
number-some refusal.Cell = omega arith
number-some refusal.Record = omega arith
number-some refusal.Header = omega arith
number-some refusal.Maximum = omega arith
number-some refusal.Plate = omega arith
number-some refusal.Run = omega arith
number-some refusal.Boxes = omega arith
number-some refusal.Doubled = omega arith
number-some refusal.Row = omega arith

-- What a call says tells the call's answer: a value is the value, and a refusal has its number.
pub said-give : {A : Type 0} (r : Result A Refusal) (a : A) → said r ≡ give a → r ≡ Ok a
said-give (Ok b) a e = cc
said-give (Err r) a e = cc

-- A check whose number is 0 passed.
pub number-none : (r : Refusal) → number_of r ≡ 0 → ⊥
number-none r e = let h : 0 < number_of r = number-some r in omega arith
