-- `read_marks` goes through the positions. Invariant: the first p marks are read. Assumes nothing.
use mathlib.Core.Path.{refl}
use native.Mathlib.Omega.{arith}
use lib.ListN.{length-set}
use Rattle.lcr_core.specs.Version.{positions_of}
use Rattle.marks.proofs.MarkLists.{marks-none, marks-turn, marks-done}
use Rattle.proof_ring.specs.Reading.{light_read, marks_read}
use Rattle.proof_ring.proofs.read.read_marks.Goals as goal

pub loop-p-init : goal.loop-p-init
loop-p-init c =
    let a = c.args in (
      refl,
      marks-none (light_read a.version a.pitch a.pixels.now a.w)
          a.marks.now,
    )

pub light_at-requires : goal.light_at-requires
light_at-requires c =
    let n = c.positions-n.ensures.answer in
    record {
      le_pitch = c.requires.le_pitch;
      pitch_bound = c.requires.pitch_bound;
      w_in_bounds = c.requires.w_in_bounds;
      p_bound = omega arith;
    }

pub bounds-marks-p : goal.bounds-marks-p
bounds-marks-p c =
    let n = c.positions-n.ensures.answer in
    let l = c.requires.marks_len in
    omega arith

pub loop-p-preserved : goal.loop-p-preserved
loop-p-preserved c =
    let at = c.loop-p in
    let n = c.positions-n.ensures.answer in
    let l = c.requires.marks_len in (
      simp length-set at.invariant.0,
      marks-turn (light_read c.args.version c.args.pitch c.args.pixels.now c.args.w) at.marks at.p
          c.light_at.result (omega arith) c.light_at.ensures at.invariant.1,
    )

pub returns : goal.returns
unfolding marks_read
returns c =
    let at = c.loop-p in
    let n = c.positions-n.ensures.answer in
    let l = c.requires.marks_len in
    marks-done (light_read c.args.version c.args.pitch c.args.pixels.now c.args.w) at.marks at.p
    (positions_of c.args.version) (omega arith) (omega arith) at.invariant.1
