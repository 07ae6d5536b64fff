-- `search::samples::add_sample` meets its contract. Assumes nothing.
use Rattle.std.proofs.Common.{sym, ◌∙◌}
use Rattle.search.proofs.Sampled.{sample_out, sample_in}
use Rattle.search.proofs.samples.add_sample.Goals as goal

pub returns-then-is_outside : goal.returns-then-is_outside
returns-then-is_outside c =
    let a = c.args in
    sample_out a.gray.now a.w a.h a.s a.p _ c.is_outside.ensures c.if-is_outside.true

pub byte_at-b-requires : goal.byte_at-b-requires
byte_at-b-requires c =
    record {
      photo = c.requires;
      p_value = sym c.is_outside.ensures ∙ c.if-is_outside.false;
    }

pub returns : goal.returns
returns c =
    let a = c.args in
    sample_in a.gray.now a.w a.h a.s a.p _ c.is_outside.ensures _
    c.if-is_outside.false c.byte_at-b.ensures
