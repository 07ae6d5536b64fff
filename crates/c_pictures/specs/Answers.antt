-- What C functions answer and leave in their out-parameters, by what a door or an entry gives: 0 and the value; 255 and the old one where
-- there is none; a refusal's number and the old one. Definitions only. Assumes nothing.
use Rattle.std.specs.Prelude.{ℕ, zero, suc}

-- By the result: the value, or the old one.
abbrev pub after_by : {A : Type 0} → ℕ → A → A → A
after_by zero new old = new
after_by (suc n) new old = old
