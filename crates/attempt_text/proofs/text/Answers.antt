-- `attempt_text::text` meets its contract. Assumes nothing.
use Rattle.attempt_text.proofs.Wholes.{text-refused, filled_is}
use mathlib.Core.Path.{refl}
use Rattle.refusal.proofs.Numbers.{number-none}
use Rattle.attempt_text.proofs.text.Goals as goal

pub returns-in-Err : goal.returns-in-Err
returns-in-Err c =
    let s = c.args.input.now in
    let r = c.in-Err in
    let t = c.refused-end.ensures in
    let k = filled_is _ _ (text-refused s _ r.ensures (number-none r.r)) c.room-bytes.ensures t.most t.out in
    record { bytes = k.0; len = k.1.0; most = k.1.1 }

pub returns : goal.returns
returns c =
    let t = c.accepted-end.ensures in
    let k = filled_is _ _ refl c.room-bytes.ensures t.most t.out in
    record { bytes = k.0; len = k.1.0; most = k.1.1 }
