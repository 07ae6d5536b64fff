-- `traylist::print` meets its contract. Assumes nothing.
use Rattle.traylist_text.specs.Listing.{filled, text_of}
use lib.Seq.{length-take-le}
use lib.ListN.{length, take, drop, replicate, length-append}
use native.Mathlib.Omega.{arith}
use Prim.Native.Nat.{ℕ, ◌≤◌}
use mathlib.Core.List.{List}
use mathlib.Core.Path.{◌≡◌, sym, ap}
use Rattle.traylist.proofs.print.Goals as goal

-- a text lies within its bytes
fits : (t bytes : List ℕ) (n : ℕ) → bytes ≡ filled t → n ≡ length t → n ≤ length bytes
fits t bytes n e f = omega (arith, f, ap length e, length-append t (drop (length t) (replicate 512 0)))

pub slice_bounds-listing-end : goal.slice_bounds-listing-end
slice_bounds-listing-end c =
    let a = c.args in
    sym (length-take-le a.n a.bytes.now (omega arith))

pub slice_bounds-text-end : goal.slice_bounds-text-end
slice_bounds-text-end c =
    let a = c.args in
    fits (text_of (take a.n a.bytes.now)) _ _ c.listing-l.ensures.bytes c.listing-l.ensures.len

pub slice_bounds-write_all-end : goal.slice_bounds-write_all-end
slice_bounds-write_all-end c =
    let a = c.args in
    let l = c.listing-l in
    sym (length-take-le l.result.len l.result.bytes (fits (text_of (take a.n a.bytes.now)) _ _ l.ensures.bytes l.ensures.len))
