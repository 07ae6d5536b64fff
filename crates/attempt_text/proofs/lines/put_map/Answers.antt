-- `attempt_text::lines::put_map` meets its contract. Assumes nothing.
use mathlib.Core.List.{List}
use mathlib.Core.Path.{ap}
use native.Mathlib.Omega.{arith}
use lib.Ieee.{Float}
use Rattle.laws.proofs.Stores.{stored-ext}
use Rattle.attempt_text.specs.Traced.{each, double}
use Rattle.attempt_text.proofs.lines.put_map.Goals as goal

pub returns : goal.returns
returns c =
    let e = c.put_doubles.ensures in
    record {
      out = stored-ext _ _ (ap (λ (s : List Float). each double s) c.from-xs.ensures) e.out;
      most = omega (arith, e.most);
    }
