-- `pgm::put::put_header` meets its contract. Assumes nothing.
use Rattle.pgm.proofs.Writes.{header-length, header-stored}
use Rattle.laws.proofs.Stores.{stored-length}
use mathlib.Core.Path.{◌∙◌}
use native.Mathlib.Omega.{arith}
use Rattle.pgm.proofs.put.put_header.Goals as goal

pub put_word-a-requires : goal.put_word-a-requires
put_word-a-requires c = omega (arith, header-length c.args.w c.args.h, c.requires)

pub put_number-b-requires : goal.put_number-b-requires
put_number-b-requires c =
    let a = c.put_word-a.ensures in
    omega (arith, header-length c.args.w c.args.h, c.requires, a.next, stored-length a)

pub put_byte-c-requires : goal.put_byte-c-requires
put_byte-c-requires c =
    let a = c.put_word-a.ensures in
    let b = c.put_number-b.ensures in
    omega (arith, header-length c.args.w c.args.h, c.requires, a.next, b.next, stored-length b ∙ stored-length a)

pub put_number-d-requires : goal.put_number-d-requires
put_number-d-requires c =
    let a = c.put_word-a.ensures in
    let b = c.put_number-b.ensures in
    let e = c.put_byte-c.ensures in
    let same = stored-length e ∙ stored-length b ∙ stored-length a in
    omega (arith, header-length c.args.w c.args.h, c.requires, a.next, b.next, e.next, same)

pub put_word-requires : goal.put_word-requires
put_word-requires c =
    let a = c.put_word-a.ensures in
    let b = c.put_number-b.ensures in
    let e = c.put_byte-c.ensures in
    let f = c.put_number-d.ensures in
    let same = stored-length f ∙ stored-length e ∙ stored-length b ∙ stored-length a in
    omega (arith, header-length c.args.w c.args.h, c.requires, a.next, b.next, e.next, f.next, same)

pub shape_of-out : goal.shape_of-out
shape_of-out c =
    stored-length c.put_word.ensures
    ∙ stored-length c.put_number-d.ensures
    ∙ stored-length c.put_byte-c.ensures
    ∙ stored-length c.put_number-b.ensures
    ∙ stored-length c.put_word-a.ensures

pub returns : goal.returns
returns c =
    let s = c.args in
    header-stored s.w s.h c.put_word-a.ensures c.put_number-b.ensures c.put_byte-c.ensures
    c.put_number-d.ensures c.put_word.ensures
