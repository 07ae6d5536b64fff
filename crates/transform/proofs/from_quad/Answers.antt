-- `transform::from_quad` meets its contract: the equations, and their solution where there is one. Assumes nothing.
use Rattle.transform.proofs.Parts.{quad_is}
use Rattle.transform.specs.Mapping.{from_solution}
use Rattle.std.proofs.Common.{sym, ap, ◌∙◌, Some}
use Rattle.transform.proofs.from_quad.Goals as goal

pub returns-in_err-x : goal.returns-in_err-x
returns-in_err-x c =
    c.from_residual.ensures ∙ ap from_solution (sym c.in_err-x.was)
    ∙ quad_is _ _ _ _ _ _ c.wide8-s.ensures c.wide8-b.ensures c.equations_of-a.ensures c.run.ensures

pub returns : goal.returns
returns c =
    ap Some c.coefficients.ensures ∙ ap from_solution (sym c.in_ok-x.was)
    ∙ quad_is _ _ _ _ _ _ c.wide8-s.ensures c.wide8-b.ensures c.equations_of-a.ensures c.run.ensures
