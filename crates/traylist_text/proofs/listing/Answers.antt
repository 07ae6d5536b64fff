-- `traylist_text::listing` meets its contract: by what `tray::find` answers. Assumes nothing.
use Rattle.traylist_text.proofs.Texts.{text-refused, refused-short, input-tray, text-accepted, text-short, filled_is}
use Rattle.traylist_text.proofs.Pieces.{one-short}
use Rattle.tray.proofs.Records.{small-area}
use Rattle.tray.proofs.Inputs.{input-picture}
use native.Mathlib.Omega.{arith}
use mathlib.Core.Path.{sym, ap, ◌∙◌}
use Prim.Native.Nat.{ℕ}
use Rattle.laws.specs.Said.{refuse}
use Rattle.traylist_text.proofs.listing.Goals as goal

pub line-len-requires : goal.line-len-requires
line-len-requires c =
    let e = sym c.in-Err.ensures ∙ ap (λ (n : ℕ). refuse n) (sym c.number.ensures) in
    record {
      short = one-short _ (refused-short c.args.input.now _ e).0;
      ns_in_bounds = omega arith;
    }

pub overflow_mul-end : goal.overflow_mul-end
overflow_mul-end c =
    let e = sym c.in-Ok.ensures in
    let a = input-picture c.args.input.now _ _ _ e in
    omega (arith, small-area _ _ a.wide a.high)

pub overflow_add-end : goal.overflow_add-end
overflow_add-end c =
    let e = sym c.in-Ok.ensures in
    let a = input-picture c.args.input.now _ _ _ e in
    omega (arith, a.near, small-area _ _ a.wide a.high)

pub slice_bounds-picture_text-end : goal.slice_bounds-picture_text-end
slice_bounds-picture_text-end c =
    let e = sym c.in-Ok.ensures in
    (input-picture c.args.input.now _ _ _ e).within

pub picture_text-len-requires : goal.picture_text-len-requires
picture_text-len-requires c =
    let e = sym c.in-Ok.ensures in
    record {
      tray_picture = input-tray c.args.input.now _ _ _ e;
      in_bounds = omega arith;
    }

pub returns-in-Err : goal.returns-in-Err
returns-in-Err c =
    let s = c.args.input.now in
    let e = sym c.in-Err.ensures ∙ ap (λ (n : ℕ). refuse n) (sym c.number.ensures) in
    let k = filled_is _ _ (text-refused s _ e) (refused-short s _ e).1 c.line-len.ensures in
    record { bytes = k.0; len = k.1.0; most = k.1.1 }

pub returns-in-Ok : goal.returns-in-Ok
returns-in-Ok c =
    let s = c.args.input.now in
    let e = sym c.in-Ok.ensures in
    let k = filled_is _ _ (text-accepted s _ _ _ e) (omega (arith, text-short _ _ _ (input-tray s _ _ _ e))) c.picture_text-len.ensures in
    record { bytes = k.0; len = k.1.0; most = k.1.1 }
