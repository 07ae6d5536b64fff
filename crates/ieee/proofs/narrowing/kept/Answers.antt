-- `ieee::narrowing::kept` meets its contract: a shift is a power of two; past 60 places nothing is left. Assumes nothing.
use Rattle.std.proofs.Common.{ℕ, ◌<◌, sym, ap, ◌∙◌, subst, pow_pos}
use lib.Ieee.Nearest.{closest}
use Rattle.ieee.proofs.NarrowSteps.{closest-none, shl_is}
use Rattle.ieee.proofs.narrowing.kept.Goals as goal

pub nearest_div-requires : goal.nearest_div-requires
nearest_div-requires c =
    record {
      d_nonzero = subst (λ (z : ℕ). 0 < z) (sym (shl_is _ c.if-t-lt60.true)) (pow_pos c.args.t);
      m_bound = c.requires;
    }

pub returns-then-t-lt60 : goal.returns-then-t-lt60
returns-then-t-lt60 c = c.nearest_div.ensures ∙ ap (λ (z : ℕ). closest c.args.m z) (shl_is _ c.if-t-lt60.true)

pub returns-else-t-lt60 : goal.returns-else-t-lt60
returns-else-t-lt60 c = closest-none _ _ c.requires c.if-t-lt60.false
