-- Runs on a line of pixels, by rules 16 and 17. The shortest run k is a number of the caller's; the base has
-- 4. Definitions only. Assumes nothing.
use Rattle.std.specs.Prelude.{◌≡◌, ◌↔◌, Bool, true, false, ◌&&◌, ◌||◌, cond, List, [], ◌∷◌, ℕ, zero, suc, ◌+◌, ◌*◌, ◌≤◌, ◌<◌, leb, ltb}
use Rattle.laws.specs.Fold.{first, end_of}

-- Whether some number below n meets t, and whether all do.
unfoldable pub some : ℕ → (ℕ → Bool) → Bool
some zero t = false
some (suc n) t = t n || some n t

unfoldable pub every : ℕ → (ℕ → Bool) → Bool
every zero t = true
every (suc n) t = t n && every n t

-- Whether k member pixels in a row begin at a, in a line of n pixels of which t says which are members.
unfoldable pub run_at : ℕ → ℕ → (ℕ → Bool) → ℕ → Bool
run_at k n t a = leb (a + k) n && every k (λ j. t (a + j))

-- Pixel i lies in a run of k or more member pixels: in k in a row.
unfoldable pub in_run : ℕ → ℕ → (ℕ → Bool) → ℕ → Bool
in_run k n t i = some (suc i) (λ a. ltb i (a + k) && run_at k n t a)

-- Where the first run starts, and n where there is none; one past the end of the last run, and 0 where there is none.
unfoldable pub run_start : ℕ → ℕ → (ℕ → Bool) → ℕ
run_start k n t = first n (in_run k n t)

unfoldable pub run_end : ℕ → ℕ → (ℕ → Bool) → ℕ
run_end k n t = end_of n (in_run k n t)

-- Start of the first and end of the last run, doubled, of a line whose first pixel is s; nothing where there is no run.
unfoldable pub edges : ℕ → ℕ → (ℕ → Bool) → ℕ → List ℕ
edges k n t s = cond (ltb (run_start k n t) n) (2 * (s + run_start k n t) ∷ 2 * (s + run_end k n t) ∷ []) []

-- A line of n pixels that has one run: its member pixels are the m from pixel a on, and no others.
pub record OneRun (n a m : ℕ) (t : ℕ → Bool) : Type 0 where
  pub fits : a + m ≤ n
  pub members : (i : ℕ) → i < n → (t i ≡ true) ↔ ((a ≤ i) × (i < a + m))
