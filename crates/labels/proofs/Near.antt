-- Laws of nearness: close_of, close-both, near_of, near-both, grid. Assumes nothing.
use mathlib.Core.Path.{◌≡◌}
use mathlib.Core.Bool.{Bool, true}
use Prim.Native.Nat.{ℕ, ◌+◌, ◌/◌, ◌%◌, ◌<◌, ◌≤◌}
use native.Mathlib.Omega.{arith}
use lib.Dec.{leb}
use borrow.Author.Tests.{le-leb, leb-true}
use Rattle.laws.proofs.Bools.{both, and_both}
use Rattle.labels.specs.Labels.{close, near, NearGrid}

pub close_of : (x y : ℕ) → x ≤ y + 3 → y ≤ x + 3 → close x y ≡ true
unfolding close
close_of x y p q = both (leb x (y + 3)) (leb y (x + 3)) (le-leb _ _ p) (le-leb _ _ q)

pub close-both : (x y : ℕ) → close x y ≡ true → (x ≤ y + 3) × (y ≤ x + 3)
unfolding close
close-both x y p = let q = and_both (leb x (y + 3)) (leb y (x + 3)) p in (leb-true _ _ q.0, leb-true _ _ q.1)

pub near_of : (w a b : ℕ) → close (a % w) (b % w) ≡ true → close (a / w) (b / w) ≡ true → near w a b ≡ true
unfolding near
near_of w a b p q = both (close (a % w) (b % w)) (close (a / w) (b / w)) p q

pub near-both : (w a b : ℕ) → near w a b ≡ true → (close (a % w) (b % w) ≡ true) × (close (a / w) (b / w) ≡ true)
unfolding near
near-both w a b p = and_both (close (a % w) (b % w)) (close (a / w) (b / w)) p

close-sym : (x y : ℕ) → close x y ≡ true → close y x ≡ true
close-sym x y p = let q = close-both x y p in close_of y x q.1 q.0

pub grid : (ink : ℕ → Bool) (w n : ℕ) → ((c : ℕ) → ink c ≡ true → c < n) → NearGrid ink (near w) n
grid ink w n h = record {
  self = λ a. near_of w a a (close_of _ _ (omega arith) (omega arith)) (close_of _ _ (omega arith) (omega arith));
  back = λ a b p. let q = near-both w a b p in near_of w b a (close-sym _ _ q.0) (close-sym _ _ q.1);
  within = h;
}
