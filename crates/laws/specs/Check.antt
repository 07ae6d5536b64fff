-- Checks of a door, a public entry, in the order in which it makes them. Definitions only. Assumes nothing.
use Rattle.std.specs.Prelude.{Bool, true, false}

-- What follows where a check passes, else the refusal.
abbrev pub or_refuse : {A : Type 0} → Bool → A → A → A
or_refuse true refusal rest = rest
or_refuse false refusal rest = refusal
