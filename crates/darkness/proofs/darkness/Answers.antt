-- By the number of the check. Where none refuses, the table is drawn, and four reads of it give each box's count. Assumes nothing.
use mathlib.Core.Path.{◌∙◌, refl}
use Rattle.std.proofs.lemmas.Result.{err_from_is_err_and}
use Rattle.refusal.proofs.Numbers.{number-none}
use Rattle.refusal.specs.Numbers.{number_of}
use Rattle.darkness.proofs.Checks.{counts-refused, table-refused}
use Rattle.darkness.proofs.Filled.{ink-small}
use Rattle.darkness.proofs.Readings.{all-readable, all-reads}
use Rattle.darkness.specs.Darkness.{ink_bit}
use Rattle.darkness.specs.Door.{counts_after, table_after}
use Rattle.darkness.proofs.darkness.Goals as goal

pub returns-in_err-check : goal.returns-in_err-check
returns-in_err-check c =
    let a = c.args in
    let q = c.in_err-check in
    let p = err_from_is_err_and c.from_residual.result c.from_residual.ensures.1 in
    let some = number-none q.field-0.0 in
    rw (p.1, p.2) (
    record {
      number = q.ensures.answer;
      table = table-refused (number_of q.field-0.0) a.s.now a.levels.now a.w a.h a.table.now some;
      counts = counts-refused (number_of q.field-0.0) a.s.now a.levels.now a.w a.boxes.now a.counts.now some;
    }
    )

pub count_all-requires : goal.count_all-requires
count_all-requires c =
    let a = c.args in
    let p = c.in_ok-check.ensures.passed refl in
    record {
      boxes_in_bounds = p.1.places;
      by_index = all-readable (ink_bit a.w a.s.now a.levels.now) (ink-small a.w a.s.now a.levels.now) a.w a.h
          p.0.w-high p.0.h-high a.table.now _ c.fill_table.ensures p.1.room a.boxes.now p.1.good;
    }

pub returns : goal.returns
unfolding table_after counts_after
returns c =
    let k = c.in_ok-check in
    let a = c.args in
    let p = k.ensures.passed refl in
    record {
      number = k.ensures.answer;
      table = c.fill_table.ensures;
      counts = c.count_all.ensures
          ∙ all-reads (ink_bit a.w a.s.now a.levels.now) (ink-small a.w a.s.now a.levels.now) a.w a.h
          p.0.w-high p.0.h-high a.table.now _ c.fill_table.ensures p.1.room a.boxes.now p.1.good
          a.counts.now;
    }
