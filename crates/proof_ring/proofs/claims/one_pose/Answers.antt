-- The computed test over the table, carried to every version. Assumes nothing.
use Rattle.proof_ring.proofs.Sequences.{one-pose}
use Rattle.proof_ring.proofs.claims.one_pose.Goals as goal

pub returns : goal.returns
returns c = one-pose
