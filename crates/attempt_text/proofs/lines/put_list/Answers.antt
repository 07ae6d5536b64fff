-- `attempt_text::lines::put_list` meets its contract. The loop's invariant: the lines of the first k scores are stored, with 44 bytes for
-- each at most. Assumes nothing.
use Rattle.attempt_text.proofs.Texts.{list-begin, list-turn}
use Rattle.attempt_text.specs.Traced.{score_lines}
use Rattle.laws.proofs.Stores.{stored-length, stored-ext}
use Prim.Native.Nat.{ℕ}
use mathlib.Core.Path.{◌≡◌, ap}
use native.Mathlib.Omega.{arith}
use Rattle.attempt_text.proofs.lines.put_list.Goals as goal

pub loop-k-init : goal.loop-k-init
loop-k-init c =
    let a = c.args in
    (list-begin a.list a.at a.out.now, omega arith)

pub put_score-to-requires : goal.put_score-to-requires
put_score-to-requires c =
    let q = c.loop-k in
    omega (arith, q.invariant.1, stored-length q.invariant.0, c.requires)

pub loop-k-preserved : goal.loop-k-preserved
loop-k-preserved c =
    let a = c.args in
    let q = c.loop-k in
    let p = c.put_score-to in
    (list-turn a.list q.k q.invariant.0 p.ensures.out, omega (arith, p.ensures.most, q.invariant.1))

pub shape_of-out : goal.shape_of-out
shape_of-out c = stored-length c.loop-k.invariant.0

pub returns : goal.returns
returns c =
    let a = c.args in
    let q = c.loop-k in
    let z : q.k ≡ a.n = omega arith in
    record {
      out = stored-ext (score_lines a.list q.k) (score_lines a.list a.n) (ap (λ (n : ℕ). score_lines a.list n) z) q.invariant.0;
      most = omega (arith, q.invariant.1);
    }
