-- `transform::corners::wide8` meets its contract: number by number. Assumes nothing.
use Rattle.transform.proofs.Parts.{cons-cong}
use Rattle.std.proofs.Common.{refl}
use Rattle.transform.proofs.corners.wide8.Goals as goal

pub returns : goal.returns
returns c =
    cons-cong c.wide.ensures
    (cons-cong c.wide-2.ensures
    (cons-cong c.wide-3.ensures
    (cons-cong c.wide-4.ensures
    (cons-cong c.wide-5.ensures
    (cons-cong c.wide-6.ensures
    (cons-cong c.wide-7.ensures (cons-cong c.wide-8.ensures refl)))))))
