-- `attempt_text::record::read` meets its contract. The loop's invariant: the first k numbers are stored.
-- Assumes nothing.
use Rattle.attempt_text.proofs.Records.{read-begin, read-turn, read-end}
use Rattle.laws.proofs.Stores.{stored-length}
use native.Mathlib.Omega.{arith}
use Rattle.attempt_text.proofs.record.read.Goals as goal

pub loop-k-init : goal.loop-k-init
loop-k-init c =
    let a = c.args in
    read-begin a.s.now a.from a.list.now

pub loop-k-preserved : goal.loop-k-preserved
loop-k-preserved c =
    let a = c.args in
    let q = c.loop-k in
    let w = c.word_at in
    let x = c.f32_of in
    read-turn a.s.now a.from q.k w.result x.result w.ensures x.ensures q.invariant

pub shape_of-list : goal.shape_of-list
shape_of-list c = stored-length c.loop-k.invariant

pub returns : goal.returns
returns c =
    let a = c.args in
    let q = c.loop-k in
    read-end a.s.now a.from q.k (omega arith) (omega arith) q.invariant
