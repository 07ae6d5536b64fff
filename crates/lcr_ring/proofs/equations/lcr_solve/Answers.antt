-- `lcr_ring::equations::lcr_solve` meets its contract. Assumes nothing.
use mathlib.Core.Path.{ap, ◌∙◌}
use mathlib.Core.List.{List}
use lib.Ieee.{Float}
use Rattle.laws.specs.Said.{Said, result_of, left_of}
use Rattle.lcr_ring.proofs.equations.lcr_solve.Goals as goal

pub returns : goal.returns
returns c =
    let a = c.args in
    let e = c.solve.ensures in
    record {
      answer = c.put_solution.ensures.answer ∙ ap result_of e;
      x = c.put_solution.ensures.x ∙ ap (λ (s : Said (List Float)). left_of s a.x.now) e;
    }
