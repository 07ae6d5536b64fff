-- `ieee::square_root::root_bits` meets its contract: the digits are scaled until their root has 24.
-- Invariant: n * 4 ^ k is the square of the root, in smallest values, and n is below 2 ^ 48. Measure: k. Assumes nothing.
use Rattle.std.proofs.Common.{◌≡◌, ℕ, ◌*◌, ◌^◌, ◌<◌, ◌≤◌}
use Rattle.ieee.proofs.Roots.{square}
use Rattle.ieee.proofs.square_root.root_bits.Given as goal

abbrev pub Grown : ℕ → ℕ → ℕ → Type 0
Grown b n k = (n * 2 ^ (2 * k) ≡ square b) × (n < 281474976710656) × (k ≤ 200)

abbrev pub invariant-loop-n : goal.invariant-loop-n
invariant-loop-n l = Grown l.b l.n l.k

abbrev pub decreases-loop-n : goal.decreases-loop-n
decreases-loop-n l = l.k
