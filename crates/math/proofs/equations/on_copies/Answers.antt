-- `math::equations::on_copies` meets its contract: room of sixteen places or of sixty-four, of which as many are lent as there are numbers.
-- Assumes nothing.
use Rattle.math.proofs.Doors.{square4, square8, zeros-length, zeros-cells, zeros-cells4}
use Rattle.math.proofs.equations.on_copies.Goals as goal

pub slice_bounds-m-end : goal.slice_bounds-m-end
slice_bounds-m-end c = square4 _ c.if-n-le4.true

pub slice_bounds-run_copy-end : goal.slice_bounds-run_copy-end
slice_bounds-run_copy-end c = zeros-cells4 _ c.if-n-le4.true

pub slice_bounds-run_copy-end-then-n-le4 : goal.slice_bounds-run_copy-end-then-n-le4
slice_bounds-run_copy-end-then-n-le4 c = zeros-length _ 4 c.if-n-le4.true

pub slice_bounds-m-end-2 : goal.slice_bounds-m-end-2
slice_bounds-m-end-2 c = square8 _ c.requires.n_bound

pub slice_bounds-run_copy-end-2 : goal.slice_bounds-run_copy-end-2
slice_bounds-run_copy-end-2 c = zeros-cells _ c.requires.n_bound

pub slice_bounds-run_copy-end-3 : goal.slice_bounds-run_copy-end-3
slice_bounds-run_copy-end-3 c = zeros-length _ 8 c.requires.n_bound
