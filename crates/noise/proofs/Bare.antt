-- How many rows have no run: the recurrence by which the code counts them.
--     bare-false, bare-tail          a pixel more in front
--     clear-suc                      a clear row of n + 1 pixels is a pixel that is not ink and a bare row of n
--     all_ink, all_one                one row of n pixels is ink throughout
--     Grows, grows-..                the rows that are bare and have a run with an ink pixel in front
--     bare-long, bare-short          bare rows of one pixel more
--     clear_none, clear-one, clear-long, clear-short, clear-most   the same of clear rows alone, as the code has it; a bound
-- Assumes nothing.
use mathlib.Core.Path.{◌≡◌, refl, sym, ap, subst, ◌∙◌}
use mathlib.Core.Logic.{⊎_elim}
use mathlib.Core.Bool.{Bool, true, false, not, ◌&&◌}
use mathlib.Core.List.{List, [], ◌∷◌}
use Prim.Native.Nat.{ℕ, zero, suc, ◌+◌, ◌-◌, ◌*◌, ◌^◌, ◌≤◌, ◌<◌}
use native.Mathlib.Nat.{add-zero, one-mul, pow-suc}
use native.Mathlib.Numerals.{add-one}
use native.Mathlib.Omega.{arith}
use lib.ListN.{length, take, drop, get_or-eq_default}
use lib.Seq.{get_or-take, get_or-drop}
use Rattle.laws.specs.Fold.{bit}
use Rattle.laws.proofs.Bools.{and_both, clash, both, bool-ext, falsely, le-or-lt, at-or-below, not-true}
use Rattle.laws.proofs.Sums.{bit-part}
use Rattle.boundary.specs.Runs.{every}
use Rattle.boundary.proofs.Runs.{every_of, every-at}
use Rattle.noise.specs.Rows.{row_ink_at, rows_counted, is_bare, rows_without}
use Rattle.noise.specs.Inner.{is_clear, clear_rows}
use Rattle.noise.proofs.Counting.{rows_ext, rows_none, rows_all, rows-most, rows-product, rows-part}
use Rattle.noise.proofs.Solid.{Solid, Free, solid-at, solid-of, solid-up, solid-down, solid-drop, drop-solid, bare-free, free-bare, bare-run}

-- ---- a pixel more in front
bare-tail : (k n : ℕ) (x : Bool) (row : List Bool) → 0 < k → is_bare k (suc n) (x ∷ row) ≡ true → is_bare k n row ≡ true
bare-tail k n x row some e =
    let free = bare-free k (suc n) (x ∷ row) some e in
    free-bare k n row (record { none = λ a l s. free.none (suc a) (omega arith) (solid-up k x row a s) })

bare-false : (k n : ℕ) (row : List Bool) → 0 < k → is_bare k (suc n) (false ∷ row) ≡ is_bare k n row
bare-false k n row some =
    bool-ext (is_bare k (suc n) (false ∷ row)) (is_bare k n row) (bare-tail k n false row some)
    (λ e. free-bare k (suc n) (false ∷ row) (record { none = later (bare-free k n row some e) }))
  where
    later : Free k n (row_ink_at row) → (a : ℕ) → a + k ≤ suc n → Solid k (row_ink_at (false ∷ row)) a → ⊥
    later free zero l s = clash (solid-at k (row_ink_at (false ∷ row)) 0 0 s (omega arith) (omega arith)) refl
    later free (suc a) l s = free.none a (omega arith) (solid-down k false row a s)

-- ---- clear rows
pub clear-suc : (k n : ℕ) → 0 < k → clear_rows k (suc n) ≡ rows_without k n
unfolding clear_rows rows_without is_clear rows_counted
clear-suc k n some =
    omega (
      arith,
      rows_none n (λ row. is_bare k (suc n) (true ∷ row) && false) (λ row e. never (is_bare k (suc n) (true ∷ row))),
      rows_ext n (λ row. is_bare k (suc n) (false ∷ row) && true) (is_bare k n)
          (λ row e. always (is_bare k (suc n) (false ∷ row)) ∙ bare-false k n row some),
    )
  where
    never : (b : Bool) → (b && false) ≡ false
    never true = refl
    never false = refl

    always : (b : Bool) → (b && true) ≡ b
    always true = refl
    always false = refl

-- ---- rows whose first n pixels are ink
abbrev pub all_ink : ℕ → List Bool → Bool
all_ink n row = every n (row_ink_at row)

all_true : (n : ℕ) (row : List Bool) → all_ink (suc n) (true ∷ row) ≡ all_ink n row
all_true n row =
    bool-ext (all_ink (suc n) (true ∷ row)) (all_ink n row)
    (λ e. every_of n (row_ink_at row) (λ j l. every-at (suc n) (row_ink_at (true ∷ row)) e (suc j) (omega arith)))
    (λ e. every_of (suc n) (row_ink_at (true ∷ row)) (longer (every-at n (row_ink_at row) e)))
  where
    longer : ((j : ℕ) → j < n → row_ink_at row j ≡ true) → (j : ℕ) → j < suc n → row_ink_at (true ∷ row) j ≡ true
    longer all zero l = refl
    longer all (suc j) l = all j (omega arith)

pub all_one : (n : ℕ) → rows_counted n (all_ink n) ≡ 1
unfolding rows_counted every
all_one zero = refl
all_one (suc n) =
    omega (
      arith,
      all_one n,
      rows_ext n (λ row. all_ink (suc n) (true ∷ row)) (all_ink n) (λ row e. all_true n row),
      rows_none n (λ row. all_ink (suc n) (false ∷ row))
          (λ row e. falsely (all_ink (suc n) (false ∷ row)) (λ t. clash (every-at (suc n) (row_ink_at (false ∷ row)) t 0 (omega arith)) refl)),
    )

-- ---- rows of c + b pixels that have no run of c + 1, and have one with an ink pixel in front: c ink pixels, and then a clear row
abbrev grows : ℕ → ℕ → List Bool → Bool
grows c b row = all_ink c (take c row) && is_clear (suc c) b (drop c row)

pub record Grows (c b : ℕ) (row : List Bool) : Type 0 where
  pub ink : (j : ℕ) → j < c → row_ink_at row j ≡ true
  pub stops : row_ink_at row c ≡ false
  pub rest : Free (suc c) b (row_ink_at (drop c row))

module _ (c b : ℕ) (row : List Bool) where
  drop-first : row_ink_at (drop c row) 0 ≡ row_ink_at row c
  drop-first = get_or-drop c row 0 false ∙ ap (row_ink_at row) (add-zero c)

  test-grows : grows c b row ≡ true → Grows c b row
  unfolding is_clear
  test-grows e =
      let q = and_both (all_ink c (take c row)) (is_bare (suc c) b (drop c row) && not (row_ink_at (drop c row) 0)) e in
      let w = and_both (is_bare (suc c) b (drop c row)) (not (row_ink_at (drop c row) 0)) q.1 in
      record {
        ink = λ j l. sym (get_or-take c row j false l) ∙ every-at c (row_ink_at (take c row)) q.0 j l;
        stops = sym drop-first ∙ not-true (row_ink_at (drop c row) 0) w.1;
        rest = bare-free (suc c) b (drop c row) (omega arith) w.0;
      }

  grows-test : Grows c b row → grows c b row ≡ true
  unfolding is_clear
  grows-test g =
      both (all_ink c (take c row)) (is_bare (suc c) b (drop c row) && not (row_ink_at (drop c row) 0))
      (every_of c (row_ink_at (take c row)) (λ j l. get_or-take c row j false l ∙ g.ink j l))
      (both (is_bare (suc c) b (drop c row)) (not (row_ink_at (drop c row) 0)) (free-bare (suc c) b (drop c row) g.rest)
      (ap not (drop-first ∙ g.stops)))

  -- they are bare
  grows-bare : Grows c b row → is_bare (suc c) (c + b) row ≡ true
  grows-bare g = free-bare (suc c) (c + b) row (record { none = λ a l s. ⊎_elim (over a s) (after a l s) (le-or-lt a c) })
    where
      over : (a : ℕ) → Solid (suc c) (row_ink_at row) a → a ≤ c → ⊥
      over a s l = clash (solid-at (suc c) (row_ink_at row) a c s l (omega arith)) g.stops

      back : (c a : ℕ) → c < a → a ≡ c + (a - c)
      back c a l = omega arith

      after : (a : ℕ) → a + suc c ≤ c + b → Solid (suc c) (row_ink_at row) a → c < a → ⊥
      after a l s m =
          g.rest.none (a - c) (omega arith) (drop-solid (suc c) c row (a - c) (subst (Solid (suc c) (row_ink_at row)) (back c a m) s))

  -- and no longer so with an ink pixel in front
  grows-run : Grows c b row → is_bare (suc c) (suc (c + b)) (true ∷ row) ≡ false
  grows-run g =
      falsely (is_bare (suc c) (suc (c + b)) (true ∷ row))
      (λ e. (bare-free (suc c) (suc (c + b)) (true ∷ row) (omega arith) e).none 0 (omega arith)
      (solid-of (suc c) (row_ink_at (true ∷ row)) 0 whole))
    where
      whole : (i : ℕ) → 0 ≤ i → i < 0 + suc c → row_ink_at (true ∷ row) i ≡ true
      whole zero l m = refl
      whole (suc i) l m = g.ink i (omega arith)

  -- and there are no others
  run-grows : length row ≡ c + b → is_bare (suc c) (c + b) row ≡ true → is_bare (suc c) (suc (c + b)) (true ∷ row) ≡ false → Grows c b row
  run-grows e bare more =
      let free = bare-free (suc c) (c + b) row (omega arith) bare in
      let r = bare-run (suc c) (suc (c + b)) (true ∷ row) more in
      let ink = inks free r.0 r.1 r.2 in
      record {
        ink = ink;
        stops = falsely (row_ink_at row c) (λ t. free.none 0 (room t) (solid-of (suc c) (row_ink_at row) 0 (longer ink t)));
        rest = record { none = λ a l s. free.none (c + a) (omega arith) (solid-drop (suc c) c row a s) };
      }
    where
      inks : Free (suc c) (c + b) (row_ink_at row) → (a : ℕ) → a + suc c ≤ suc (c + b) → Solid (suc c) (row_ink_at (true ∷ row)) a
          → (j : ℕ) → j < c → row_ink_at row j ≡ true
      inks free zero l s j m = solid-at (suc c) (row_ink_at (true ∷ row)) 0 (suc j) s (omega arith) (omega arith)
      inks free (suc a) l s j m = absurd (free.none a (omega arith) (solid-down (suc c) true row a s))

      room : row_ink_at row c ≡ true → 0 + suc c ≤ c + b
      room t =
          ⊎_elim (λ l. absurd (clash t (get_or-eq_default row false (omega arith)))) (λ l. omega arith) (le-or-lt (length row) c)

      longer : ((j : ℕ) → j < c → row_ink_at row j ≡ true) → row_ink_at row c ≡ true → (i : ℕ) → 0 ≤ i → i < 0 + suc c → row_ink_at row i ≡ true
      longer ink t i l m = ⊎_elim (λ w. ap (row_ink_at row) w ∙ t) (λ w. ink i w) (at-or-below i c (omega arith))

-- ---- bare rows of one pixel more
pub bare-long : (c b : ℕ) → rows_without (suc c) (suc (c + b)) + clear_rows (suc c) b ≡ 2 * rows_without (suc c) (c + b)
unfolding rows_without clear_rows rows_counted
bare-long c b =
    let k = suc c in
    let n = c + b in
    let dark = rows-part n (is_bare k n) (λ row. is_bare k (suc n) (true ∷ row)) (grows c b)
    (λ row e. bit-part (is_bare k n row) (is_bare k (suc n) (true ∷ row)) (grows c b row)
    (bare-tail k n true row (omega arith))
    (λ p q. grows-test c b row (run-grows c b row e p q))
    (λ g. grows-bare c b row (test-grows c b row g))
    (λ g. grows-run c b row (test-grows c b row g))) in
    let light = rows_ext n (λ row. is_bare k (suc n) (false ∷ row)) (is_bare k n) (λ row e. bare-false k n row (omega arith)) in
    let one : rows_counted c (all_ink c) * rows_counted b (is_clear k b) ≡ rows_counted b (is_clear k b) =
    ap (λ (z : ℕ). z * rows_counted b (is_clear k b)) (all_one c) ∙ one-mul (rows_counted b (is_clear k b)) in
    omega (arith, rows-product c b (all_ink c) (is_clear k b))

-- fewer pixels than a run
pub bare-short : (k n : ℕ) → n < k → rows_without k n ≡ 2 ^ n
unfolding rows_without
bare-short k n l =
    rows_ext n (is_bare k n) (λ row. true) (λ row e. free-bare k n row (record { none = λ a m s. omega arith })) ∙ rows_all n

-- ---- clear rows, one count from those before it
pub clear_none : (k : ℕ) → 0 < k → clear_rows k 0 ≡ 1
unfolding clear_rows rows_counted is_clear
clear_none k some = ap (λ (b : Bool). bit (b && true)) (free-bare k 0 [] (record { none = λ a l s. omega arith }))

pub clear-one : (k : ℕ) → 0 < k → clear_rows k 1 ≡ 1
clear-one k some = clear-suc k 0 some ∙ bare-short k 0 some

pub clear-short : (k i : ℕ) → 0 < i → i < k → clear_rows k (i + 1) ≡ 2 * clear_rows k i
clear-short k zero more l = absurd (omega arith)
clear-short k (suc n) more l =
    let a : clear_rows k (suc n + 1) ≡ rows_without k (suc n) = rw add-one (clear-suc k (suc n) (omega arith)) in
    omega (arith, clear-suc k n (omega arith), bare-short k (suc n) l, bare-short k n (omega arith), pow-suc 2 n)

pub clear-long : (k i : ℕ) → 0 < k → k ≤ i → clear_rows k (i + 1) + clear_rows k (i - k) ≡ 2 * clear_rows k i
clear-long k i some l = go k (i - k) some (omega arith)
  where
    go : (k b : ℕ) → 0 < k → i ≡ k + b → clear_rows k (i + 1) + clear_rows k b ≡ 2 * clear_rows k i
    go zero b some e = absurd (omega arith)
    go (suc c) b some e =
        let e₁ : i + 1 ≡ suc (suc (c + b)) = omega arith in
        let e₀ : i ≡ suc (c + b) = omega arith in
        let a₁ = ap (clear_rows (suc c)) e₁ ∙ clear-suc (suc c) (suc (c + b)) some in
        let a₀ = ap (clear_rows (suc c)) e₀ ∙ clear-suc (suc c) (c + b) some in
        omega (arith, bare-long c b)

pub clear-most : (k n : ℕ) → clear_rows k n ≤ 2 ^ n
unfolding clear_rows
clear-most k n = rows-most n (is_clear k n)
