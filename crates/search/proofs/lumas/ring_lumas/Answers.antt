-- `search::lumas::ring_lumas` writes one luma after the other. Invariant: the lumas of the positions below p stand at the beginning.
-- Assumes nothing.
use Rattle.std.proofs.Common.{◌∙◌, sym, arith, length-set, rules}
use Rattle.search.proofs.LumaLists.{listed-none, listed-turn, listed-done}
use Rattle.search.specs.Lumas.{luma_at, lumas_of}
use Rattle.lcr_core.specs.Version.{positions_of}
use Rattle.search.proofs.lumas.ring_lumas.Goals as goal

pub loop-p-init : goal.loop-p-init
loop-p-init c =
    let a = c.args in
    (omega arith, c.requires.out_len ∙ sym c.positions-n.ensures.answer, listed-none (luma_at a.gray.now a.w a.h a.t a.v) a.out.now)

pub offset_bounds-out-p : goal.offset_bounds-out-p
offset_bounds-out-p c =
    let i = c.loop-p.invariant in
    let l = c.loop-p-test.true in
    let q = c.requires.out_len in
    let g = c.positions-n.ensures.version.greatest in
    let n = c.positions-n.ensures.answer in
    omega arith

pub bounds-out-p : goal.bounds-out-p
bounds-out-p c =
    let i = c.loop-p.invariant in
    let l = c.loop-p-test.true in
    let n = c.positions-n.ensures.answer in
    omega arith

pub loop-p-preserved : goal.loop-p-preserved
loop-p-preserved c =
    let i = c.loop-p.invariant in
    let l = c.loop-p-test.true in
    (omega arith, simp length-set i.1, listed-turn _ _ _ _ (omega arith) c.luma_at.ensures i.2)

pub shape_of-out : goal.shape_of-out
shape_of-out c =
    let i = c.loop-p.invariant in
    search rules

pub returns : goal.returns
unfolding lumas_of
returns c =
    let i = c.loop-p.invariant in
    let l = c.loop-p-test.false in
    let q = c.requires.out_len in
    let n = c.positions-n.ensures.answer in
    listed-done _ _ _ (positions_of c.args.v) (omega arith) (omega arith) i.2
