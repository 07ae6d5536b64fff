-- Statements of theorems. Assumes nothing.
use Rattle.std.specs.Prelude.{List, ◌≡◌, ℕ, take}
use Rattle.tray.specs.Input.{reads}
use Rattle.traylist_text.specs.Listing.{text_of}

-- What the tray list reads of an input has the text of the whole input, whatever follows.
unfoldable pub ReadEnough : Type 0
ReadEnough = (input : List ℕ) → text_of (take (reads input) input) ≡ text_of input
