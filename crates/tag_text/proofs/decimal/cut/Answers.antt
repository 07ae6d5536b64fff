-- `tag_text::decimal::cut` meets its contract: below 0, within, and from 2 ^ 32 on. Assumes nothing.
use Rattle.ieee.proofs.Helpers.{trunc-in, trunc-over, trunc-none, above_minus_one, below_64, trunc-fits}
use lib.Ieee.{of_bits, to_unsigned}
use Rattle.std.proofs.Common.{◌≡◌, ℕ, ◌^◌, ◌<◌, sym, ◌∙◌, subst, lit≤}
use Rattle.tag_text.proofs.decimal.cut.Goals as goal

pub truncating_f64_to_u64-requires : goal.truncating_f64_to_u64-requires
unfolding of_bits
truncating_f64_to_u64-requires c =
    record {
      lower_bound = above_minus_one _ c.if-x.true;
      upper_bound = below_64 32 _ (lit≤ tt) c.if-x-2.true;
    }

pub overflow_cast-result : goal.overflow_cast-result
unfolding of_bits
overflow_cast-result c =
    let e : c.truncating_f64_to_u64.result ≡ to_unsigned 32 c.args.x = c.truncating_f64_to_u64.ensures ∙ trunc-in 32 _ (lit≤ tt) c.if-x-2.true in
    record { fits = subst (λ (z : ℕ). z < 2 ^ 32) (sym e) (trunc-fits 32 _) }

pub returns-then-x-2 : goal.returns-then-x-2
unfolding of_bits
returns-then-x-2 c = c.truncating_f64_to_u64.ensures ∙ trunc-in 32 _ (lit≤ tt) c.if-x-2.true

pub returns-else-x-2 : goal.returns-else-x-2
unfolding of_bits
returns-else-x-2 c = trunc-over 32 _ c.if-x.true c.if-x-2.false

pub returns-else-x : goal.returns-else-x
unfolding of_bits
returns-else-x c = trunc-none 32 _ c.if-x.false
