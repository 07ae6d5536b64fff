-- `input::read_file` meets its contract: by the letters, then by what `find` says of the bytes that were read. Assumes nothing.
use Rattle.refusal.specs.Numbers.{said}
use lib.ListN.{length}
use Prim.Native.Nat.{◌≤◌}
use native.Mathlib.Omega.{arith}
use mathlib.Core.Path.{◌∙◌, sym}
use Rattle.tray.proofs.Readings.{letters-kept}
use Rattle.input.proofs.Reading.{letters-same, few-read, others-read, all_read, pictured}
use Rattle.input.proofs.read_file.Goals as goal

pub returns-then-n-lt2 : goal.returns-then-n-lt2
returns-then-n-lt2 c =
    let most = c.args.most in
    let p = c.read_part-n in
    let f = few-read most p.new.bytes p.result c.if-n-lt2.true (omega (arith, p.auto.bytes, c.requires.most_in_bounds)) in
    record {
      bytes = f;
      pictured = pictured most _ _ f;
    }

pub returns-then-not-has_letters : goal.returns-then-not-has_letters
returns-then-not-has_letters c =
    let most = c.args.most in
    let p = c.read_part-n in
    let others = sym c.has_letters.ensures ∙ c.if-not-has_letters.true in
    let f = others-read most p.new.bytes others (omega (arith, p.auto.bytes, c.requires.most_in_bounds)) in
    record {
      bytes = f;
      pictured = pictured most _ _ f;
    }

pub find-requires : goal.find-requires
find-requires c =
    let p = c.read_part-n in
    let r = c.read_rest-all in
    let letters =
    letters-same p.new.bytes r.new.bytes r.ensures.letters
    ∙ sym c.has_letters.ensures
    ∙ c.if-not-has_letters.false in
    record {
      n_in_bounds = omega (arith, r.ensures.bounds.1, r.auto.bytes, p.auto.bytes, c.requires.most_in_bounds);
      bytes_value = letters-kept r.new.bytes r.result r.ensures.bounds.0 ∙ letters;
      most_bound = c.requires.most_bound;
    }

pub returns : goal.returns
returns c =
    let most = c.args.most in
    let p = c.read_part-n in
    let r = c.read_rest-all in
    let letters =
    letters-same p.new.bytes r.new.bytes r.ensures.letters
    ∙ sym c.has_letters.ensures
    ∙ c.if-not-has_letters.false in
    let long : r.result ≤ length r.new.bytes = omega (arith, r.ensures.bounds.1, r.auto.bytes, p.auto.bytes, c.requires.most_in_bounds) in
    let f = all_read most r.new.bytes r.result (said c.find.result) letters long r.ensures.most c.find.ensures in
    record {
      bytes = f;
      pictured = pictured most _ _ f;
    }
