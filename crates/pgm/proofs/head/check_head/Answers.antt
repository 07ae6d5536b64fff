-- `pgm::head::check_head` meets its contract. Assumes nothing.
use Rattle.pgm.proofs.Refusals.{head-not-whole, head-maximum, head-width, head-height, head-on}
use mathlib.Core.Path.{◌∙◌, sym}
use Rattle.pgm.proofs.head.check_head.Goals as goal

pub returns-then-not-whole : goal.returns-then-not-whole
returns-then-not-whole c =
    let w = c.whole in
    head-not-whole c.args.h (sym w.ensures ∙ c.if-not-whole.true)

pub returns-then-h-ne255 : goal.returns-then-h-ne255
returns-then-h-ne255 c =
    let w = c.whole in
    head-maximum c.args.h (sym w.ensures ∙ c.if-not-whole.false) c.if-h-ne255.true

pub returns-then-not-is_side : goal.returns-then-not-is_side
returns-then-not-is_side c =
    let w = c.whole in
    let x = c.is_side in
    head-width c.args.h (sym w.ensures ∙ c.if-not-whole.false) c.if-h-ne255.false
    (sym x.ensures ∙ c.if-not-is_side.true)

pub returns-then-not-is_side-2 : goal.returns-then-not-is_side-2
returns-then-not-is_side-2 c =
    let w = c.whole in
    let x = c.is_side in
    let y = c.is_side-2 in
    head-height c.args.h (sym w.ensures ∙ c.if-not-whole.false) c.if-h-ne255.false
    (sym x.ensures ∙ c.if-not-is_side.false) (sym y.ensures ∙ c.if-not-is_side-2.true)

pub returns : goal.returns
returns c =
    let w = c.whole in
    let x = c.is_side in
    let y = c.is_side-2 in
    head-on c.args.h (sym w.ensures ∙ c.if-not-whole.false) c.if-h-ne255.false
    (sym x.ensures ∙ c.if-not-is_side.false) (sym y.ensures ∙ c.if-not-is_side-2.false)
