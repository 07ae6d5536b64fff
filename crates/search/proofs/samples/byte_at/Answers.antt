-- `search::samples::byte_at` meets its contract: a place that is not outside is along both sides. Assumes nothing.
use Rattle.std.proofs.Common.{arith}
use Rattle.search.proofs.Pixels.{along-asks, along-x, along-y}
use Rattle.search.proofs.Sampled.{byte-asks, byte-is}
use Rattle.search.proofs.samples.byte_at.Goals as goal

pub truncating_f32_to_u64-x-requires : goal.truncating_f32_to_u64-x-requires
truncating_f32_to_u64-x-requires c =
    let a = c.args in
    let k = along-asks a.w a.p.x c.requires.photo.wide.1 (along-x a.w a.h a.p c.requires.p_value) in
    record { lower_bound = k.0; upper_bound = k.1 }

pub truncating_f32_to_u64-y-requires : goal.truncating_f32_to_u64-y-requires
truncating_f32_to_u64-y-requires c =
    let a = c.args in
    let k = along-asks a.h a.p.y c.requires.photo.high.1 (along-y a.w a.h a.p c.requires.p_value) in
    record { lower_bound = k.0; upper_bound = k.1 }

pub overflow_mul-result : goal.overflow_mul-result
overflow_mul-result c =
    let a = c.args in
    let z = byte-asks a.gray.now a.w a.h a.p c.requires.photo c.requires.p_value _ _ c.truncating_f32_to_u64-x.ensures
    c.truncating_f32_to_u64-y.ensures in
    omega arith

pub overflow_add-result : goal.overflow_add-result
overflow_add-result c =
    let a = c.args in
    let z = byte-asks a.gray.now a.w a.h a.p c.requires.photo c.requires.p_value _ _ c.truncating_f32_to_u64-x.ensures
    c.truncating_f32_to_u64-y.ensures in
    omega arith

pub bounds-gray-y : goal.bounds-gray-y
bounds-gray-y c =
    let a = c.args in
    (byte-asks a.gray.now a.w a.h a.p c.requires.photo c.requires.p_value _ _ c.truncating_f32_to_u64-x.ensures
    c.truncating_f32_to_u64-y.ensures).0

pub returns : goal.returns
returns c =
    let a = c.args in
    byte-is a.gray.now a.w a.h a.p c.requires.photo c.requires.p_value _ _ c.truncating_f32_to_u64-x.ensures
    c.truncating_f32_to_u64-y.ensures
