-- `calls_outline::listings::listing_call` meets its contract. Assumes nothing.
use lib.Seq.{length-take-le}
use lib.ListN.{length}
use native.Mathlib.Omega.{arith}
use mathlib.Core.Path.{◌≡◌, sym}
use Rattle.calls_outline.proofs.listings.listing_call.Goals as goal

pub slice_bounds-listed_record-end : goal.slice_bounds-listed_record-end
slice_bounds-listed_record-end c =
    let l : length c.unpack.new.bytes ≡ length c.record_room-bytes.result =
    c.unpack.auto.bytes in
    let r = c.record_room-bytes.ensures in
    sym (length-take-le c.many-n.result c.unpack.new.bytes
    (omega arith))
