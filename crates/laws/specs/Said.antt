-- What a call of a door says, in the terms of docs/RULES.md's table of refusals: the number of a refusal, none, or a value. A door
-- is a public entry: it checks what it is given. `said` and `said_some` of crate `refusal` read these cases off a door's answer.
-- Definitions only. Assumes nothing.
use Rattle.std.specs.Prelude.{ℕ}

-- A refusal is its number only; none is no refusal.
pub data Said (A : Type 0) : Type 0 where
  refuse : ℕ → Said A
  none : Said A
  give : A → Said A

-- ---- C functions
-- The result: the refusal's number, 255 where there is none, else 0.
abbrev pub result_of : {A : Type 0} → Said A → ℕ
result_of (refuse n) = n
result_of none = 255
result_of (give a) = 0

-- An out-parameter after the call: what it takes of the value, or as before where no value is given.
abbrev pub left_by : {A B : Type 0} → (A → B) → Said A → B → B
left_by of (refuse n) old = old
left_by of none old = old
left_by of (give a) old = of a

abbrev pub left_of : {A : Type 0} → Said A → A → A
left_of s old = left_by (λ a. a) s old
