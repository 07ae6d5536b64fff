-- What is read of an input: no more bytes than it asks for.
--   record-few                               than those of a record
--   two-few, letters-few, others-few         than those of an input
-- Assumes nothing.
use mathlib.Core.Path.{◌≡◌, sym, ap, ◌∙◌}
use mathlib.Core.Bool.{true, false}
use mathlib.Core.Logic.{◌⊎◌, inl, inr}
use mathlib.Core.List.{List}
use Prim.Native.Nat.{ℕ, ◌+◌, ◌≤◌, ◌<◌}
use native.Mathlib.Omega.{arith}
use lib.ListN.{length, take, length-take}
use Rattle.laws.proofs.Bools.{le-or-lt, which}
use Rattle.pgm.specs.Form.{has_letters}
use Rattle.tray.specs.Record.{asked}
use Rattle.tray.specs.Input.{head_read, asked_by, reads}
use Rattle.tray.proofs.Records.{none-short}
use Rattle.tray.proofs.Readings.{at-two, reads-file, reads-record}
use Rattle.input.proofs.Reading.{letters-same}

-- a record: a head of n bytes and so many pixels
pub record-few : (l l' : List ℕ) (n more got : ℕ) → n ≤ 10 → more ≡ asked (take n l) → got ≤ more → take 10 l' ≡ take 10 l
    → n + got ≤ 10 + asked (take 10 l')
record-few l l' n more got few e within same = go (le-or-lt 10 n)
  where
    go : (10 ≤ n) ⊎ (n < 10) → n + got ≤ 10 + asked (take 10 l')
    go (inl long) =
        let ten : n ≡ 10 = omega arith in
        let z : more ≡ asked (take 10 l') = e ∙ ap (λ (k : ℕ). asked (take k l)) ten ∙ ap (λ (s : List ℕ). asked s) (sym same) in
        omega (arith, z)
    go (inr short) =
        let s : length (take n l) < 10 = simp length-take (omega arith) in
        let z : more ≡ 0 = e ∙ sym (none-short (take n l) s) in
        omega (arith, z)

-- ---- an input
pub two-few : (l : List ℕ) (n : ℕ) → n < 2 → n ≤ reads l
two-few l n few = go (which (has_letters l))
  where
    go : (has_letters l ≡ true) ⊎ (has_letters l ≡ false) → n ≤ reads l
    go (inl e) = omega (arith, reads-file l e, at-two l)
    go (inr e) = omega (arith, reads-record l e)

module _ (l l' : List ℕ) (n : ℕ) (same : take 2 l' ≡ take 2 l) where
  pub letters-few : has_letters l ≡ true → n ≤ (head_read l').at + asked_by (head_read l') → n ≤ reads l'
  letters-few e few = omega (arith, reads-file l' (letters-same l l' same ∙ e), few)

  pub others-few : has_letters l ≡ false → n ≤ 10 + asked (take 10 l') → n ≤ reads l'
  others-few e few = omega (arith, reads-record l' (letters-same l l' same ∙ e), few)
