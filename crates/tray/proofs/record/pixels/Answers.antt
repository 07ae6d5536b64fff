-- `tray::record::pixels` meets its contract. Each way out is one check of the head. Assumes nothing.
use Prim.Native.Nat.{ℕ, ◌+◌, ◌*◌, ◌≤◌}
use native.Mathlib.Omega.{arith}
use lib.ListN.{length}
use mathlib.Core.Path.{◌≡◌, sym, ap₂, ◌∙◌}
use Rattle.tray.specs.Record.{pair_at}
use Rattle.tray.proofs.Records.{side-of, area_small, none-short, none-kind, none-wide, none-high, none-long, asked-all}
use Rattle.tray.proofs.record.pixels.Goals as goal

pub returns-then-head-lt10 : goal.returns-then-head-lt10
returns-then-head-lt10 c =
    record {
      answer = none-short c.args.head.now (omega arith);
      most = omega arith;
    }

pub returns-then-pair_at-ne1 : goal.returns-then-pair_at-ne1
returns-then-pair_at-ne1 c =
    let s = c.args.head.now in
    let long : 10 ≤ length s = omega arith in
    record {
      answer = none-kind s long (λ q. c.if-pair_at-ne1.true (c.pair_at.ensures.0 ∙ q));
      most = omega arith;
    }

pub returns-then-not-is_side : goal.returns-then-not-is_side
returns-then-not-is_side c =
    let s = c.args.head.now in
    let long : 10 ≤ length s = omega arith in
    let kind : pair_at s 4 ≡ 1 = sym c.pair_at.ensures.0 ∙ c.if-pair_at-ne1.false in
    let u = c.is_side in
    record {
      answer = none-wide s long kind (side-of c.pair_at-w.ensures.0 u.ensures ∙ c.if-not-is_side.true);
      most = omega arith;
    }

pub returns-then-not-is_side-2 : goal.returns-then-not-is_side-2
returns-then-not-is_side-2 c =
    let s = c.args.head.now in
    let long : 10 ≤ length s = omega arith in
    let kind : pair_at s 4 ≡ 1 = sym c.pair_at.ensures.0 ∙ c.if-pair_at-ne1.false in
    let u = c.is_side in
    let v = c.is_side-2 in
    let wide = side-of c.pair_at-w.ensures.0 u.ensures ∙ c.if-not-is_side.false in
    record {
      answer = none-high s long kind wide (side-of c.pair_at-h.ensures.0 v.ensures ∙ c.if-not-is_side-2.true);
      most = omega arith;
    }

pub overflow_mul-w : goal.overflow_mul-w
overflow_mul-w c =
    let u = c.is_side in
    let v = c.is_side-2 in
    let wide = c.if-not-is_side.false in
    let high = c.if-not-is_side-2.false in
    record {
      fits = omega (
        arith,
        area_small c.pair_at-w.result c.pair_at-h.result u.ensures wide v.ensures high,
      );
    }

pub overflow_add-w : goal.overflow_add-w
overflow_add-w c =
    let u = c.is_side in
    let v = c.is_side-2 in
    let wide = c.if-not-is_side.false in
    let high = c.if-not-is_side-2.false in
    record {
      fits = omega (
        arith,
        area_small c.pair_at-w.result c.pair_at-h.result u.ensures wide v.ensures high,
      );
    }

pub returns-then-four_at-w : goal.returns-then-four_at-w
returns-then-four_at-w c =
    let s = c.args.head.now in
    let long : 10 ≤ length s = omega arith in
    let kind : pair_at s 4 ≡ 1 = sym c.pair_at.ensures.0
    ∙ c.if-pair_at-ne1.false in
    let u = c.is_side in
    let v = c.is_side-2 in
    let x = c.pair_at-w.ensures.0 in
    let y = c.pair_at-h.ensures.0 in
    let wide = side-of x u.ensures ∙ c.if-not-is_side.false in
    let high = side-of y v.ensures ∙ c.if-not-is_side-2.false in
    record {
      answer = none-long s long kind wide high
          (λ q. c.if-four_at-w.true (c.four_at.ensures ∙ q ∙ sym (ap₂ (λ (m n : ℕ). 6 + m * n) x y)));
      most = omega arith;
    }

pub returns : goal.returns
returns c =
    let s = c.args.head.now in
    let long : 10 ≤ length s = omega arith in
    let kind : pair_at s 4 ≡ 1 = sym c.pair_at.ensures.0
    ∙ c.if-pair_at-ne1.false in
    let u = c.is_side in
    let v = c.is_side-2 in
    let x = c.pair_at-w.ensures.0 in
    let y = c.pair_at-h.ensures.0 in
    let wide = c.if-not-is_side.false in
    let high = c.if-not-is_side-2.false in
    let said = sym c.four_at.ensures ∙ c.if-four_at-w.false ∙ ap₂ (λ (m n : ℕ). 6 + m * n) x y in
    record {
      answer = ap₂ (λ (m n : ℕ). m * n) x y ∙ asked-all s long kind (side-of x u.ensures ∙ wide) (side-of y v.ensures ∙ high) said;
      most = area_small c.pair_at-w.result c.pair_at-h.result u.ensures wide v.ensures high;
    }
