-- `gather` walks the places. Invariant: the first r numbers are the finite lumas at the places below j, and the list is as long as before.
-- Assumes nothing.
use mathlib.Core.Path.{◌≡◌, ◌∙◌}
use native.Mathlib.Omega.{arith}
use lib.ListN.{length}
use Rattle.marks.proofs.Windows.{gathered-room, gathered-turn, luma-at}
use Rattle.marks.proofs.classify.gather.Goals as goal

pub keep-r-requires : goal.keep-r-requires
keep-r-requires c =
    let at = c.loop-j in
    let g = gathered-room c.args.lumas.now at.around at.j at.r
    at.invariant.1 in
    let f = c.requires.from_le_to.2 in
    omega arith

pub loop-j-preserved : goal.loop-j-preserved
loop-j-preserved c =
    let a = c.args in
    let at = c.loop-j in
    let l : length c.keep-r.new.around ≡ length at.around = c.keep-r.auto.around in (
      l ∙ at.invariant.0,
      gathered-turn a.lumas.now at.around c.keep-r.new.around at.j at.r c.keep-r.result _
          (luma-at a.lumas.now at.j _ c.place_around.ensures.answer)
          c.keep-r.ensures.around l (omega arith)
          c.keep-r.ensures.at_most at.invariant.1,
    )
