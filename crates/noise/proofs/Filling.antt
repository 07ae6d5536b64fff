-- Laws of the list of counts of clear rows: filled-.., one count from those before it, and one store; bare-is, the count of bare rows in
-- it. Assumes nothing.
use mathlib.Core.Path.{◌≡◌, refl, sym, ap, ◌∙◌}
use mathlib.Core.Logic.{⊎_elim}
use mathlib.Core.List.{List}
use Prim.Native.Nat.{ℕ, zero, suc, ◌+◌, ◌-◌, ◌*◌, ◌^◌, ◌≤◌, ◌<◌}
use native.Mathlib.Nat.{le_trans}
use native.Mathlib.Numerals.{add-one}
use native.Mathlib.Omega.{arith}
use lib.ListN.{get_or, set, replicate, length-set}
use lib.Pow.{pow_mono}
use lib.Seq.{get_or-set_same, get_or-set_other}
use Rattle.laws.proofs.Bools.{at-or-below}
use Rattle.noise.specs.Rows.{rows_without}
use Rattle.noise.specs.Inner.{Filled, clear_rows}
use Rattle.noise.proofs.Bare.{clear-suc, clear_none, clear-one, clear-short, clear-long, clear-most}

-- one row of no pixels is clear, and one of one pixel
pub filled-begin : (k : ℕ) → 0 < k → Filled k 1 (replicate 62 1)
filled-begin k some = record { size = refl; at = start }
  where
    start : (j : ℕ) → j ≤ 1 → get_or (replicate 62 1) j 0 ≡ clear_rows k j
    start zero l = sym (clear_none k some)
    start (suc zero) l = sym (clear-one k some)
    start (suc (suc j)) l = absurd (omega arith)

module _ (k i : ℕ) (t : List ℕ) (f : Filled k i t) where
  pub filled-most : i ≤ 60 → get_or t i 0 ≤ 2 ^ 60
  filled-most l = le_trans (omega (arith, f.at i (omega arith), clear-most k i)) (pow_mono l)

  pub filled-short : 0 < i → i < k → 2 * get_or t i 0 ≡ clear_rows k (i + 1)
  filled-short more l = omega (arith, f.at i (omega arith), clear-short k i more l)

  pub filled-less : 0 < k → k ≤ i → get_or t (i - k) 0 ≤ 2 * get_or t i 0
  filled-less some l = omega (arith, f.at i (omega arith), f.at (i - k) (omega arith), clear-long k i some l)

  pub filled-long : 0 < k → k ≤ i → 2 * get_or t i 0 - get_or t (i - k) 0 ≡ clear_rows k (i + 1)
  filled-long some l = omega (arith, f.at i (omega arith), f.at (i - k) (omega arith), clear-long k i some l)

  pub filled_more : (v : ℕ) → i < 61 → v ≡ clear_rows k (i + 1) → Filled k (i + 1) (set t (i + 1) v)
  filled_more v l e = record {
    size = length-set t (i + 1) v ∙ f.size;
    at = λ j b. ⊎_elim (stored j) (before j) (at-or-below j (i + 1) (omega arith));
  }
    where
      stored : (j : ℕ) → j ≡ i + 1 → get_or (set t (i + 1) v) j 0 ≡ clear_rows k j
      stored j z =
          ap (λ (x : ℕ). get_or (set t (i + 1) v) x 0) z
          ∙ get_or-set_same t (i + 1) v 0 (omega (arith, f.size))
          ∙ e
          ∙ ap (clear_rows k) (sym z)

      before : (j : ℕ) → j < i + 1 → get_or (set t (i + 1) v) j 0 ≡ clear_rows k j
      before j z = get_or-set_other t (i + 1) j v 0 (λ w. omega arith) ∙ f.at j (omega arith)

-- rows without a point are the clear ones of one pixel more
pub bare-is : (k n : ℕ) → 0 < k → clear_rows k (n + 1) ≡ rows_without k n
bare-is k n some = rw add-one (clear-suc k n some)
