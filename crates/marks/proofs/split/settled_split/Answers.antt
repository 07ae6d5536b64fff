-- `settled_split` makes rounds from the mean until one has the bits of the one before. Assumes nothing.
use mathlib.Core.Bool.{Bool}
use mathlib.Core.List.{List}
use mathlib.Core.Path.{◌≡◌, ◌∙◌, sym}
use lib.Ieee.{Float}
use Rattle.marks.specs.Split.{split_after, split_round, settled_after, same_bits}
use Rattle.marks.proofs.Splits.{round-next}
use Rattle.marks.proofs.Settling.{settled-by, end-two, end-three, end-four}
use Rattle.marks.proofs.split.settled_split.Goals as goal

module _ (w : List Float) {m a b : Float} (em : m ≡ split_after w 0) (ea : a ≡ split_round w m) (eb : b ≡ split_round w a) where
  -- the splits after two and three rounds
  two : b ≡ split_after w 2
  two = round-next w 1 (round-next w 0 em ea) eb

  three : {x : Float} → x ≡ split_round w b → x ≡ split_after w 3
  three ex = round-next w 2 two ex

  -- whether round 2 has settled, and round 3
  at_two : {s t : Bool} → s ≡ same_bits b a → s ≡ t → settled_after w 1 ≡ t
  at_two es et = sym (settled-by w 1 (round-next w 0 em ea) two es) ∙ et

  at_three : {x : Float} {s t : Bool} → x ≡ split_round w b → s ≡ same_bits x b → s ≡ t → settled_after w 2 ≡ t
  at_three ex es et = sym (settled-by w 2 two (three ex) es) ∙ et

pub returns-then-same_bits : goal.returns-then-same_bits
returns-then-same_bits c =
    let w = c.args.w.now in
    let em = c.mean_of-m.ensures in
    let ea = c.split_round-a.ensures in
    let eb = c.split_round-b.ensures in
    end-two w (at_two w em ea eb c.same_bits.ensures c.if-same_bits.true) (two w em ea eb)

pub returns-then-same_bits-2 : goal.returns-then-same_bits-2
returns-then-same_bits-2 c =
    let w = c.args.w.now in
    let em = c.mean_of-m.ensures in
    let ea = c.split_round-a.ensures in
    let eb = c.split_round-b.ensures in
    let ec = c.split_round-c.ensures in
    end-three w (at_two w em ea eb c.same_bits.ensures c.if-same_bits.false)
    (at_three w em ea eb ec c.same_bits-2.ensures c.if-same_bits-2.true)
    (three w em ea eb ec)

pub returns : goal.returns
returns c =
    let w = c.args.w.now in
    let em = c.mean_of-m.ensures in
    let ea = c.split_round-a.ensures in
    let eb = c.split_round-b.ensures in
    let ec = c.split_round-c.ensures in
    end-four w (at_two w em ea eb c.same_bits.ensures c.if-same_bits.false)
    (at_three w em ea eb ec c.same_bits-2.ensures c.if-same_bits-2.false)
    (round-next w 3 (three w em ea eb ec) c.split_round.ensures)
