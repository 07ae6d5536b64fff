-- `traylist::read_input` meets its contract. Assumes nothing.
use Rattle.traylist.proofs.Reading.{two-few, letters-few, others-few}
use mathlib.Core.Path.{◌∙◌, sym}
use native.Mathlib.Omega.{arith}
use Rattle.traylist.proofs.read_input.Goals as goal

pub returns-then-n-lt2 : goal.returns-then-n-lt2
returns-then-n-lt2 c =
    let p = c.read_part-n in
    record {
      most = omega (arith, p.ensures.most);
      bounds = two-few p.new.bytes p.result c.if-n-lt2.true;
    }

pub returns-then-has_letters : goal.returns-then-has_letters
returns-then-has_letters c =
    let p = c.read_part-n in
    let f = c.read_rest in
    let letters = sym c.has_letters.ensures ∙ c.if-has_letters.true in
    record {
      most = omega (arith, f.ensures.bounds.1);
      bounds = letters-few p.new.bytes f.new.bytes f.result f.ensures.letters letters f.ensures.most;
    }

pub returns : goal.returns
returns c =
    let p = c.read_part-n in
    let f = c.read_record in
    let others = sym c.has_letters.ensures ∙ c.if-has_letters.false in
    record {
      most = f.ensures.most;
      bounds = others-few p.new.bytes f.new.bytes f.result f.ensures.letters others f.ensures.bounds;
    }
