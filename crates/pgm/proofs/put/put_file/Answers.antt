-- `pgm::put::put_file` meets its contract. Assumes nothing.
use Rattle.pgm.proofs.Writes.{text-length}
use Rattle.pgm.specs.Doors.{file_text}
use Rattle.laws.proofs.Stores.{stored-length, stored-append}
use mathlib.Core.Path.{◌∙◌}
use native.Mathlib.Omega.{arith}
use Rattle.pgm.proofs.put.put_file.Goals as goal

pub put_header-at-requires : goal.put_header-at-requires
put_header-at-requires c =
    let a = c.args in
    omega (arith, text-length a.w a.h a.pixels.now, c.requires)

pub put_word-requires : goal.put_word-requires
put_word-requires c =
    let a = c.args in
    let e = c.put_header-at.ensures in
    omega (
      arith,
      text-length a.w a.h a.pixels.now,
      c.requires,
      e.next,
      stored-length e,
    )

pub shape_of-out : goal.shape_of-out
shape_of-out c = stored-length c.put_word.ensures ∙ stored-length c.put_header-at.ensures

pub returns : goal.returns
unfolding file_text
returns c = stored-append c.put_header-at.ensures c.put_word.ensures
