-- `split_of` makes four rounds from the mean, or fewer where no number changes sides after one. Assumes nothing.
use Rattle.marks.proofs.Splits.{split-from-mean, stays}
use Rattle.marks.proofs.split.split_of.Goals as goal

pub returns-then-moved-eq0 : goal.returns-then-moved-eq0
returns-then-moved-eq0 c =
    let w = c.args.w.now in
    let a = c.split_round-a.ensures in
    let s = stays w _ c.split_round-a.result a (c.moved.ensures c.if-moved-eq0.true) in
    split-from-mean w c.mean_of-m.ensures a s s s

pub returns-then-moved-eq0-2 : goal.returns-then-moved-eq0-2
returns-then-moved-eq0-2 c =
    let w = c.args.w.now in
    let b = c.split_round-b.ensures in
    let s = stays w _ c.split_round-b.result b (c.moved-2.ensures c.if-moved-eq0-2.true) in
    split-from-mean w c.mean_of-m.ensures c.split_round-a.ensures b s s

pub returns-then-moved-eq0-3 : goal.returns-then-moved-eq0-3
returns-then-moved-eq0-3 c =
    let w = c.args.w.now in
    let d = c.split_round-c.ensures in
    let s = stays w _ c.split_round-c.result d (c.moved-3.ensures c.if-moved-eq0-3.true) in
    split-from-mean w c.mean_of-m.ensures c.split_round-a.ensures
    c.split_round-b.ensures d s

pub returns : goal.returns
returns c =
    let w = c.args.w.now in
    split-from-mean w c.mean_of-m.ensures c.split_round-a.ensures
    c.split_round-b.ensures c.split_round-c.ensures c.split_round.ensures
