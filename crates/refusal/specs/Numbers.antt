-- The numbers of refusals, in docs/RULES.md's table, and what the answer of a door says in its terms. Definitions only. Assumes
-- nothing.
use Rattle.std.specs.Prelude.{ℕ, zero, suc, Result, Ok, Err, Option, Some, None}
use Rattle.laws.specs.Said.{Said, refuse, none, give}
use Rattle.refusal.specs.declared.Refusal.{Refusal}
use Rattle.refusal.specs.declared.Refusal.TheVariants as refusal

-- The number of a refusal. 4, 19 and 20 are not in use.
abbrev pub number_of : Refusal → ℕ
number_of refusal.Side = 1
number_of refusal.Bytes = 2
number_of refusal.Lent = 3
number_of refusal.Box = 5
number_of refusal.Points = 6
number_of refusal.Coordinate = 7
number_of refusal.Version = 8
number_of refusal.Size = 9
number_of refusal.Value = 10
number_of refusal.Marks = 11
number_of refusal.Cell = 12
number_of refusal.Record = 13
number_of refusal.Header = 14
number_of refusal.Maximum = 15
number_of refusal.Plate = 16
number_of refusal.Run = 17
number_of refusal.Boxes = 18
number_of refusal.Doubled = 21
number_of refusal.Row = 22

-- The number of the refusal that a check answers, 0 where it passes.
abbrev pub number_in : {A : Type 0} → Result A Refusal → ℕ
number_in (Ok a) = 0
number_in (Err r) = number_of r

-- What a door says by the number of the first check that fails, 0 where none does: the refusal, or the value.
unfoldable pub answered : {A : Type 0} → ℕ → A → Said A
answered zero a = give a
answered (suc n) a = refuse (suc n)

-- What a door's answer says, with f of its value; a value that may be missing is none there.
abbrev pub said_as : {A B : Type 0} → (A → B) → Result A Refusal → Said B
said_as f (Ok a) = give (f a)
said_as f (Err r) = refuse (number_of r)

abbrev pub said_some_as : {A B : Type 0} → (A → B) → Result (Option A) Refusal → Said B
said_some_as f (Ok (Some a)) = give (f a)
said_some_as f (Ok None) = none
said_some_as f (Err r) = refuse (number_of r)

-- The same with the value as it is.
abbrev pub said : {A : Type 0} → Result A Refusal → Said A
said r = said_as (λ a. a) r

abbrev pub said_some : {A : Type 0} → Result (Option A) Refusal → Said A
said_some r = said_some_as (λ a. a) r
