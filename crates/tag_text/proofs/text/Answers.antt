-- `tag_text::text` meets its contract. Assumes nothing.
use Rattle.tag_text.proofs.Texts.{filled_is}
use Rattle.tag_text.proofs.text.Goals as goal

pub returns : goal.returns
returns c =
    let t = c.put_text-end.ensures in
    let k = filled_is _ c.room-bytes.ensures t.most t.out in
    record { bytes = k.0; len = k.1.0; most = k.1.1 }
