-- The count of rows with an outline between two places is the product of its parts' counts.
--     before-rows                    as many rows can lie before the first run as after the last
--     between-product, between_none  the product, and none where the places are in the other order
--     between_is, after-most, between-most   the product as the code has it, and bounds
-- Assumes nothing.
use mathlib.Core.Path.{◌≡◌, refl, sym, ap, subst, ◌∙◌}
use mathlib.Core.Logic.{⊎_elim}
use mathlib.Core.Bool.{Bool, true, false, not, ◌&&◌}
use mathlib.Core.List.{List}
use Prim.Native.Nat.{ℕ, zero, suc, ◌+◌, ◌-◌, ◌*◌, ◌^◌, ◌≤◌, ◌<◌}
use native.Mathlib.Nat.{add-zero, mul-one, mul-le-mul, le_trans}
use native.Mathlib.Numerals.{add-one}
use native.Mathlib.Omega.{arith}
use lib.ListN.{take, drop}
use lib.Pow.{pow-add, pow_mono}
use lib.Seq.{get_or-drop}
use Rattle.laws.proofs.Bools.{and_both, clash, both, bool-ext, falsely, le-or-lt, not-true}
use Rattle.noise.specs.Rows.{row_ink_at, rows_counted, is_bare, is_between, rows_without, rows_with}
use Rattle.noise.specs.Inner.{is_clear, is_middle, clear_rows, middle_rows}
use Rattle.noise.proofs.Counting.{rows_ext, rows_none, rows-product}
use Rattle.noise.proofs.Solid.{solid-at, solid-take, take-solid, bare-free, free-bare, start-begins, end-ends}
use Rattle.noise.proofs.Bare.{clear-suc, clear-most}
use Rattle.noise.proofs.Middle.{middle-most}
use Rattle.noise.proofs.Parted.{is_before, is_parted, ends_of, between-parts}

-- ---- before the first run: a bare row and a pixel that is not ink
abbrev is_last : ℕ → ℕ → List Bool → Bool
is_last k n row = is_bare k n (take n row) && not (row_ink_at (drop n row) 0)

module _ (k n : ℕ) (row : List Bool) (some : 0 < k) where
  last-at : row_ink_at (drop n row) 0 ≡ row_ink_at row n
  last-at = get_or-drop n row 0 false ∙ ap (row_ink_at row) (add-zero n)

  last-same : row_ink_at (drop n row) 0 ≡ row_ink_at row (n + 1 - 1)
  last-same = let z : n ≡ n + 1 - 1 = omega arith in last-at ∙ ap (row_ink_at row) z

  before_last : is_before k (n + 1) row ≡ is_last k n row
  before_last =
      bool-ext (is_before k (n + 1) row) (is_last k n row)
      (λ e.
      let q = and_both (is_bare k (n + 1) row) (not (row_ink_at row (n + 1 - 1))) e in
      let free = bare-free k (n + 1) row some q.0 in
      both (is_bare k n (take n row)) (not (row_ink_at (drop n row) 0))
      (free-bare k n (take n row) (record { none = λ a l s. free.none a (omega arith) (solid-take k n row a l s) }))
      (ap not last-same ∙ q.1))
      (λ e.
      let q = and_both (is_bare k n (take n row)) (not (row_ink_at (drop n row) 0)) e in
      let free = bare-free k n (take n row) some q.0 in
      let light = sym last-at ∙ not-true (row_ink_at (drop n row) 0) q.1 in
      both (is_bare k (n + 1) row) (not (row_ink_at row (n + 1 - 1)))
      (free-bare k (n + 1) row (record {
        none = λ a l s. ⊎_elim
            (λ z. free.none a z (take-solid k n row a z s))
            (λ z. clash (solid-at k (row_ink_at row) a n s (omega arith) z) light) (le-or-lt (a + k) n);
      }))
      (ap not (sym last-same) ∙ q.1))

light-one : rows_counted 1 (λ row. not (row_ink_at row 0)) ≡ 1
unfolding rows_counted
light-one = refl

before-none : (k : ℕ) → rows_counted 0 (is_before k 0) ≡ clear_rows k 0
unfolding clear_rows is_clear rows_counted
before-none k = refl

before-one : (k n : ℕ) → 0 < k → rows_counted (n + 1) (is_before k (n + 1)) ≡ rows_without k n
unfolding rows_without
before-one k n some =
    rows_ext (n + 1) (is_before k (n + 1)) (is_last k n) (λ row e. before_last k n row some)
    ∙ rows-product n 1 (is_bare k n) (λ row. not (row_ink_at row 0))
    ∙ ap (λ (z : ℕ). rows_counted n (is_bare k n) * z) light-one
    ∙ mul-one (rows_counted n (is_bare k n))

before-rows : (k f : ℕ) → 0 < k → rows_counted f (is_before k f) ≡ clear_rows k f
before-rows k zero some = before-none k
before-rows k (suc n) some =
    subst (λ (z : ℕ). rows_counted z (is_before k z) ≡ rows_without k n) (add-one n) (before-one k n some) ∙ sym (clear-suc k n some)

-- ---- the product
between-product : (k f m b l : ℕ) → 0 < k → 0 < m → l + 1 ≡ f + m
    → rows_with k (f + (m + b)) f l ≡ clear_rows k f * (middle_rows k m * clear_rows k b)
unfolding rows_with middle_rows clear_rows
between-product k f m b l some more end =
    let rest : List Bool → Bool = λ row. is_middle k m (take m row) && is_clear k b (drop m row) in
    rows_ext (f + (m + b)) (is_between k (f + (m + b)) f l) (is_parted k f m b) (λ row e. between-parts k f m b l row some more end e)
    ∙ rows-product f (m + b) (is_before k f) rest
    ∙ ap (λ (z : ℕ). z * rows_counted (m + b) rest) (before-rows k f some)
    ∙ ap (λ (z : ℕ). clear_rows k f * z) (rows-product m b (is_middle k m) (is_clear k b))

-- the last run of an outline does not end before the first
pub between_none : (k n f l : ℕ) → 0 < k → f < n → l < f → rows_with k n f l ≡ 0
unfolding rows_with
between_none k n f l some inside less =
    rows_none n (is_between k n f l) (λ row e. falsely (is_between k n f l row) (never row))
  where
    never : (row : List Bool) → is_between k n f l row ≡ true → ⊥
    never row e =
        let q = ends_of k n f l row e in
        let x = start-begins k n (row_ink_at row) f some inside q.0 in
        (end-ends k n (row_ink_at row) (l + 1) some (omega arith) q.1).last f x.within (omega (arith, x.within)) x.solid

-- ---- as the code has it, from f to l in n pixels
product-most : {a b : ℕ} (i j : ℕ) → a ≤ 2 ^ i → b ≤ 2 ^ j → a * b ≤ 2 ^ (i + j)
product-most {a} {b} i j p q = rw (pow-add 2 i j) (mul-le-mul {n₁ = a} {m₁ = b} {n₂ = 2 ^ i} {m₂ = 2 ^ j} p q)

module _ (k n f l : ℕ) (to : l < n) (order : f ≤ l) where
  rest-most : middle_rows k (l + 1 - f) * clear_rows k (n - 1 - l) ≤ 2 ^ (l + 1 - f + (n - 1 - l))
  rest-most = product-most (l + 1 - f) (n - 1 - l) (middle-most k (l + 1 - f)) (clear-most k (n - 1 - l))

  whole : (n f l : ℕ) → l < n → f ≤ l → n ≡ f + (l + 1 - f + (n - 1 - l))
  whole n f l to order = omega arith

  pub after-most : n ≤ 60 → middle_rows k (l + 1 - f) * clear_rows k (n - 1 - l) ≤ 2 ^ 60
  after-most small = let w = whole n f l to order in le_trans rest-most (pow_mono {j = 60} (omega arith))

  pub between-most : n ≤ 60 → clear_rows k f * (middle_rows k (l + 1 - f) * clear_rows k (n - 1 - l)) ≤ 2 ^ 60
  between-most small =
      let w = whole n f l to order in
      le_trans (product-most f (l + 1 - f + (n - 1 - l)) (clear-most k f) rest-most) (pow_mono {j = 60} (omega arith))

  pub between_is : 0 < k → clear_rows k f * (middle_rows k (l + 1 - f) * clear_rows k (n - 1 - l)) ≡ rows_with k n f l
  between_is some =
      sym (ap (λ (z : ℕ). rows_with k z f l) (whole n f l to order)
      ∙ between-product k f (l + 1 - f) (n - 1 - l) l some (omega arith) (end f l order))
    where
      end : (f l : ℕ) → f ≤ l → l + 1 ≡ f + (l + 1 - f)
      end f l order = omega arith
