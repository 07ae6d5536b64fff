-- What is read of an input has the text of all of it: read-enough, from what is kept of the input. Assumes nothing.
use mathlib.Core.Path.{◌≡◌, refl, ap, ◌∙◌}
use mathlib.Core.List.{List}
use Prim.Native.Nat.{ℕ, zero, suc}
use lib.ListN.{take}
use Rattle.tray.specs.Input.{check_input, reads}
use Rattle.tray.proofs.Readings.{Kept, input-kept}
use Rattle.traylist_text.specs.Listing.{text_by, text_of}
use Rattle.traylist_text.specs.Claims.{ReadEnough}

text-kept : (s t : List ℕ) → Kept s t → text_of t ≡ text_of s
unfolding text_of
text-kept s t k = ap (λ (n : ℕ). text_by n t) k.check ∙ go (check_input s) refl
  where
    go : (n : ℕ) → check_input s ≡ n → text_by n t ≡ text_by n s
    go zero e = unfold text_by in rw (k.width e, k.height e, k.pixels e)
    go (suc n) e = unfold text_by in refl

pub read-enough : ReadEnough
unfolding ReadEnough
read-enough s = text-kept s (take (reads s) s) (input-kept s)
