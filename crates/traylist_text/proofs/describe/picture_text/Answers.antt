-- `traylist_text::describe::picture_text` meets its contract. Assumes nothing.
use Rattle.std.proofs.Common.{Result}
use Rattle.refusal.specs.Numbers.{number_in}
use Rattle.refusal.specs.declared.Refusal.{Refusal}
use Rattle.regions.specs.declared.answer.Kept.{Kept}
use Rattle.traylist_text.proofs.Texts.{picture-taken, picture-kept, kept-few, text-stored}
use Rattle.traylist_text.proofs.Pictures.{mapped}
use Rattle.traylist_text.proofs.Pieces.{two-short, line-next}
use Rattle.traylist_text.specs.Listing.{regions_word}
use lib.ListN.{length}
use native.Mathlib.Omega.{arith}
use mathlib.Core.Path.{◌≡◌, refl, ap}
use Rattle.traylist_text.proofs.describe.picture_text.Goals as goal

pub unwrap-k-requires : goal.unwrap-k-requires
unwrap-k-requires c =
    let o = c.picture-found in
    rw (picture-taken c.args.s.now c.args.w c.args.h c.requires.tray_picture o.result o.ensures.answer) refl

pub overflow_cast-k : goal.overflow_cast-k
overflow_cast-k c =
    let a = c.args in
    let t = c.requires.tray_picture in
    let o = c.picture-found in
    let k = c.unwrap-k in
    let f = kept-few a.s.now a.w a.h t k.result (picture-kept a.s.now a.w a.h t o.result o.ensures.answer k.result k.ensures) in
    omega (arith, f.0, f.1)

pub overflow_cast-k-2 : goal.overflow_cast-k-2
overflow_cast-k-2 c =
    let a = c.args in
    let t = c.requires.tray_picture in
    let o = c.picture-found in
    let k = c.unwrap-k in
    let f = kept-few a.s.now a.w a.h t k.result (picture-kept a.s.now a.w a.h t o.result o.ensures.answer k.result k.ensures) in
    omega (arith, f.0, f.1)

pub line-next-requires : goal.line-next-requires
line-next-requires c =
    let a = c.args in
    let t = c.requires.tray_picture in
    let o = c.picture-found in
    let k = c.unwrap-k in
    let f = kept-few a.s.now a.w a.h t k.result (picture-kept a.s.now a.w a.h t o.result o.ensures.answer k.result k.ensures) in
    record {
      short = two-short _ _ (omega (arith, f.0, f.1)) (omega (arith, f.0, f.1));
      ns_in_bounds = omega (arith, c.requires.in_bounds);
    }

pub all_regions-requires : goal.all_regions-requires
all_regions-requires c =
    let a = c.args in
    let t = c.requires.tray_picture in
    let o = c.picture-found in
    let k = c.unwrap-k in
    let is = picture-kept a.s.now a.w a.h t o.result o.ensures.answer k.result k.ensures in
    let f = kept-few a.s.now a.w a.h t k.result is in
    let x : length o.new.grid ≡ 100 = o.auto.grid in
    let y : length o.new.labels ≡ 400 = o.auto.labels in
    record {
      tray_picture = t;
      gridded = mapped a.s.now a.w a.h t (number_in o.result) _ _ o.new.grid o.new.labels
          (ap (λ (r : Result Kept Refusal). number_in r) k.ensures) (omega arith) (omega arith) o.ensures.levels o.ensures.labels;
      k_value = is;
      at_in_bounds = line-next regions_word _ 464 (two-short _ _ (omega (arith, f.0, f.1)) (omega (arith, f.0, f.1))) (omega (
        arith,
        c.requires.in_bounds,
      )) c.line-next.ensures;
    }

pub returns : goal.returns
returns c =
    let a = c.args in
    let t = c.requires.tray_picture in
    let o = c.picture-found in
    let k = c.unwrap-k in
    text-stored a.s.now a.w a.h t k.result (picture-kept a.s.now a.w a.h t o.result o.ensures.answer k.result k.ensures)
    c.line-next.ensures c.all_regions.ensures
