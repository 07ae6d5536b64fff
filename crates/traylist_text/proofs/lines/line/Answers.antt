-- `traylist_text::lines::line` meets its contract. Assumes nothing.
use Rattle.traylist_text.proofs.Pieces.{line-room, line-is}
use Rattle.traylist_text.proofs.lines.line.Goals as goal

pub put_byte-requires : goal.put_byte-requires
put_byte-requires c =
    let a = c.args in
    line-room a.word.now a.ns.now c.requires.short c.requires.ns_in_bounds c.put_word-a.ensures c.put_numbers-b.ensures

pub returns : goal.returns
returns c =
    let a = c.args in
    line-is a.word.now a.ns.now c.put_word-a.ensures c.put_numbers-b.ensures c.put_byte.ensures
