-- `input::read_header` meets its contract. The loop's invariant: the bytes up to the header's place, which is the loop's, lead to it. Assumes
-- nothing.
use mathlib.Core.Path.{◌≡◌, sym, ap, ◌∙◌}
use mathlib.Core.List.{List}
use lib.ListN.{take, get_or}
use Prim.Native.Nat.{ℕ, ◌+◌, ◌<◌}
use native.Mathlib.Omega.{arith}
use Rattle.pgm.specs.Steps.{stepped}
use Rattle.pgm.specs.declared.steps.Reading.{Reading}
use Rattle.pgm.proofs.Counted.{step_counts}
use Rattle.input.proofs.Reading.{header-begin, header-same, header-more}
use Rattle.input.proofs.read_header.Goals as goal

-- what stays before a place, by the header's place
before : (n k : ℕ) (l l' : List ℕ) → n ≡ k → take k l' ≡ take k l → take n l' ≡ take n l
before n k l l' e same = rw e same

pub loop-at-init : goal.loop-at-init
loop-at-init c =
    (header-begin c.args.bytes.now c.begin-h.result c.begin-h.ensures, ap (λ (h : Reading). h.at) c.begin-h.ensures)

pub returns-then-ended : goal.returns-then-ended
returns-then-ended c =
    let r = c.loop-at.invariant.0 in
    record {
      bounds = (r.from, r.upto);
      bytes = r.is;
      letters = r.letters;
    }

pub shape_of-bytes-then-read_part-lt1 : goal.shape_of-bytes-then-read_part-lt1
shape_of-bytes-then-read_part-lt1 c = c.read_part.auto.bytes ∙ c.loop-at.auto.bytes

pub returns-then-read_part-lt1 : goal.returns-then-read_part-lt1
returns-then-read_part-lt1 c =
    let p = c.read_part in
    let q = c.loop-at in
    let r = header-same q.invariant.0 p.new.bytes (before _ _ _ _ q.invariant.1 p.ensures.bytes) p.auto.bytes in
    record {
      bounds = (r.from, r.upto);
      bytes = r.is;
      letters = r.letters;
    }

pub loop-at-preserved : goal.loop-at-preserved
loop-at-preserved c =
    let q = c.loop-at in
    let near : q.h.at < 4096 = omega arith in
    let goes = sym c.ended.ensures ∙ c.if-ended.false in
    let p = c.read_part in
    let e = c.step-h.ensures ∙ ap (λ (n : ℕ). stepped q.h (get_or p.new.bytes n 0)) (sym q.invariant.1) in (
      header-more q.invariant.0 p.new.bytes (before _ _ _ _ q.invariant.1 p.ensures.bytes) p.auto.bytes goes near c.requires
          c.step-h.result e,
      ap (λ (h : Reading). h.at) c.step-h.ensures ∙ step_counts q.h _ goes near ∙ ap (λ (n : ℕ). n + 1) q.invariant.1,
    )

pub returns : goal.returns
returns c =
    let r = c.loop-at.invariant.0 in
    record {
      bounds = (r.from, r.upto);
      bytes = r.is;
      letters = r.letters;
    }
