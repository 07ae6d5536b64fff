-- `transform::corners::equations_of` meets its contract: the equations of one corner after the other. Assumes nothing.
use Rattle.transform.specs.Mapping.{matrix}
use Rattle.transform.proofs.corners.equations_of.Goals as goal

pub returns : goal.returns
unfolding matrix
returns c = rw (c.put_corner.ensures, c.put_corner-2.ensures, c.put_corner-3.ensures, c.put_corner-4.ensures)
