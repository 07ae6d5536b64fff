-- A row with an outline from one place to another is three rows: one before its first run, one from there to the end of its last run, and
-- one after it.
--     Parted, parts-begin, parts-end, both-parts   the three parts against the start of the first and the end of the last run
--     is_before, is_parted, test_parts, parts-test   the parts as tests on three rows
--     ends_of, between-parts         a row's outline by these tests
-- Assumes nothing.
use mathlib.Core.Path.{◌≡◌, refl, sym, ap, subst, ◌∙◌}
use mathlib.Core.Logic.{⊎_elim}
use mathlib.Core.Bool.{Bool, true, false, not, ◌&&◌}
use mathlib.Core.List.{List}
use Prim.Native.Nat.{ℕ, zero, suc, ◌+◌, ◌-◌, ◌≤◌, ◌<◌}
use native.Mathlib.Nat.{add-zero}
use native.Mathlib.Omega.{arith}
use lib.Dec.{eqb}
use lib.ListN.{length, take, drop, get_or-eq_default}
use lib.Seq.{get_or-take, get_or-drop}
use borrow.Author.Tests.{eq-eqb, eqb-true}
use Rattle.laws.proofs.Bools.{and_both, clash, both, bool-ext, falsely, le-or-lt, at-or-below, not-true}
use Rattle.boundary.specs.Runs.{run_start, run_end}
use Rattle.noise.specs.Rows.{row_ink_at, is_bare, is_between}
use Rattle.noise.specs.Inner.{is_clear, is_middle}
use Rattle.noise.proofs.Solid.{Solid, Free, Begins, Ends, solid-at, solid-of, solid-drop, drop-solid, solid-take, take-solid, bare-free, free-bare, start-begins, begins-start, end-ends, ends-end}
use Rattle.noise.proofs.Middle.{middle-ended, ended-middle}

-- f pixels before the first run, m to the end of the last, b after it, of a line of which t says which pixels are ink
pub record Parted (k f m b : ℕ) (t : ℕ → Bool) : Type 0 where
  pub before : Free k f t
  pub edge : (i : ℕ) → i + 1 ≡ f → t i ≡ false
  pub long : k ≤ m
  pub start : Solid k t f
  pub end : Solid k t (f + (m - k))
  pub stop : t (f + m) ≡ false
  pub after : (a : ℕ) → f + m ≤ a → a + k ≤ f + (m + b) → Solid k t a → ⊥

module _ (k f m b : ℕ) (t : ℕ → Bool) (some : 0 < k) where
  parts-begin : Parted k f m b t → Begins k (f + (m + b)) t f
  parts-begin q =
      let long = q.long in
      record {
        within = omega arith;
        solid = q.start;
        first = λ a l s. ⊎_elim (λ z. q.before.none a z s) (across a s l) (le-or-lt (a + k) f);
      }
    where
      across : (a : ℕ) → Solid k t a → a < f → f < a + k → ⊥
      across a s l m = clash (solid-at k t a (f - 1) s (omega arith) (omega arith)) (q.edge (f - 1) (omega arith))

  parts-end : Parted k f m b t → Ends k (f + (m + b)) t (f + m)
  parts-end q =
      let long = q.long in
      let e : f + (m - k) ≡ f + m - k = omega arith in
      record {
        fits = omega arith;
        within = omega arith;
        solid = subst (Solid k t) e q.end;
        last = λ a l w s. ⊎_elim (λ z. q.after a z l s) (across a s w) (le-or-lt (f + m) a);
      }
    where
      across : (a : ℕ) → Solid k t a → f + m < a + k → a < f + m → ⊥
      across a s w z = clash (solid-at k t a (f + m) s (omega arith) w) q.stop

  -- where no pixel past the line is ink
  both-parts : ((i : ℕ) → f + (m + b) ≤ i → t i ≡ false) → Begins k (f + (m + b)) t f → Ends k (f + (m + b)) t (f + m) → Parted k f m b t
  both-parts past x y =
      let fits = y.fits in
      let within = x.within in
      let long : k ≤ m = ⊎_elim (λ z. omega arith) (λ z. absurd (y.last f within z x.solid)) (le-or-lt (f + k) (f + m)) in
      let e : f + m - k ≡ f + (m - k) = omega arith in
      record {
        before = record { none = λ a l s. x.first a (omega arith) s };
        edge = λ i is. falsely (t i) (λ z. x.first i (omega arith) (solid-of k t i (earlier i is z)));
        long = long;
        start = x.solid;
        end = subst (Solid k t) e y.solid;
        stop = falsely (t (f + m)) (λ z. y.last (f + m + 1 - k) (room z) (omega arith) (solid-of k t (f + m + 1 - k) (later fits z)));
        after = λ a l w s. y.last a w (omega arith) s;
      }
    where
      earlier : (i : ℕ) → i + 1 ≡ f → t i ≡ true → (j : ℕ) → i ≤ j → j < i + k → t j ≡ true
      earlier i is z j l w =
          ⊎_elim
          (λ v. let same : j ≡ i = omega arith in ap t same ∙ z)
          (λ v. solid-at k t f j x.solid (omega arith) (omega arith)) (le-or-lt j i)

      room : t (f + m) ≡ true → f + m + 1 - k + k ≤ f + (m + b)
      room z = let fits = y.fits in
          ⊎_elim (λ v. absurd (clash z (past (f + m) v))) (λ v. omega arith) (le-or-lt (f + (m + b)) (f + m))

      later : k ≤ f + m → t (f + m) ≡ true → (j : ℕ) → f + m + 1 - k ≤ j → j < f + m + 1 - k + k → t j ≡ true
      later fits z j l w =
          ⊎_elim (λ v. ap t v ∙ z) (λ v. solid-at k t (f + m - k) j y.solid (omega arith) (omega arith))
          (at-or-below j (f + m) (omega arith))

-- ---- the parts as tests on rows
-- What can lie before the first run: f pixels without a run, the last of which, if there is one, is not ink.
abbrev pub is_before : ℕ → ℕ → List Bool → Bool
is_before k f row = is_bare k f row && not (row_ink_at row (f - 1))

abbrev pub is_parted : ℕ → ℕ → ℕ → ℕ → List Bool → Bool
is_parted k f m b row = is_before k f (take f row) && (is_middle k m (take m (drop f row)) && is_clear k b (drop m (drop f row)))

module _ (k f m b : ℕ) (row : List Bool) (some : 0 < k) where
  -- the first pixel after the last run
  after_first : row_ink_at (drop m (drop f row)) 0 ≡ row_ink_at row (f + m)
  after_first = get_or-drop m (drop f row) 0 false ∙ get_or-drop f row (m + 0) false ∙ ap (row_ink_at row) (omega arith)

  test_parts : is_parted k f m b row ≡ true → Parted k f m b (row_ink_at row)
  unfolding is_clear
  test_parts e =
      let u = take f row in
      let v = take m (drop f row) in
      let w = drop m (drop f row) in
      let q = and_both (is_before k f u) (is_middle k m v && is_clear k b w) e in
      let q₂ = and_both (is_middle k m v) (is_clear k b w) q.1 in
      let qb = and_both (is_bare k f u) (not (row_ink_at u (f - 1))) q.0 in
      let qc = and_both (is_bare k b w) (not (row_ink_at w 0)) q₂.1 in
      let mid = middle-ended k m v q₂.0 in
      let long = mid.long in
      record {
        before = record { none = λ a l s. (bare-free k f u some qb.0).none a l (take-solid k f row a l s) };
        edge = λ i is.
            let z : i ≡ f - 1 = omega arith in
            sym (get_or-take f row i false (omega arith)) ∙ ap (row_ink_at u) z ∙ not-true (row_ink_at u (f - 1)) qb.1;
        long = long;
        start = subst (Solid k (row_ink_at row)) (add-zero f) (solid-drop k f row 0 (solid-take k m (drop f row) 0 (omega arith) mid.start));
        end = solid-drop k f row (m - k) (solid-take k m (drop f row) (m - k) (omega arith) mid.end);
        stop = sym after_first ∙ not-true (row_ink_at w 0) qc.1;
        after = λ a l inside s. (bare-free k b w some qc.0).none (a - (f + m)) (within a l inside)
            (drop-solid k m (drop f row) (a - (f + m))
            (drop-solid k f row (m + (a - (f + m))) (subst (Solid k (row_ink_at row)) (split f m a l) s)));
      }
    where
      split : (f m a : ℕ) → f + m ≤ a → a ≡ f + (m + (a - (f + m)))
      split f m a l = omega arith

      within : (a : ℕ) → f + m ≤ a → a + k ≤ f + (m + b) → a - (f + m) + k ≤ b
      within a l inside = omega arith

  parts-test : Parted k f m b (row_ink_at row) → is_parted k f m b row ≡ true
  unfolding is_clear
  parts-test q =
      let u = take f row in
      let v = take m (drop f row) in
      let w = drop m (drop f row) in
      let long = q.long in
      let start : Solid k (row_ink_at row) (f + 0) = subst (Solid k (row_ink_at row)) (sym (add-zero f)) q.start in
      both (is_before k f u) (is_middle k m v && is_clear k b w)
      (both (is_bare k f u) (not (row_ink_at u (f - 1)))
      (free-bare k f u (record { none = λ a l s. q.before.none a l (solid-take k f row a l s) })) (ap not (last f refl)))
      (both (is_middle k m v) (is_clear k b w)
      (ended-middle k m v (record {
        long = long;
        start = take-solid k m (drop f row) 0 (omega arith) (drop-solid k f row 0 start);
        end = take-solid k m (drop f row) (m - k) (omega arith) (drop-solid k f row (m - k) q.end);
      }))
      (both (is_bare k b w) (not (row_ink_at w 0))
      (free-bare k b w (record {
        none = λ a l s.
            q.after (f + (m + a)) (omega arith) (omega arith) (solid-drop k f row (m + a) (solid-drop k m (drop f row) a s));
      }))
      (ap not (after_first ∙ q.stop))))
    where
      last : (n : ℕ) → n ≡ f → row_ink_at (take f row) (f - 1) ≡ false
      last zero e = subst (λ (z : ℕ). row_ink_at (take z row) (z - 1) ≡ false) e refl
      last (suc n) e =
          let z : f - 1 ≡ n = omega arith in
          ap (row_ink_at (take f row)) z ∙ get_or-take f row n false (omega arith) ∙ q.edge n (omega arith)

-- ---- a row's outline
pub ends_of : (k n f l : ℕ) (row : List Bool) → is_between k n f l row ≡ true
    → (run_start k n (row_ink_at row) ≡ f) × (run_end k n (row_ink_at row) ≡ l + 1)
unfolding is_between
ends_of k n f l row e =
    let q = and_both (eqb (run_start k n (row_ink_at row)) f) (eqb (run_end k n (row_ink_at row)) (l + 1)) e in
    (eqb-true (run_start k n (row_ink_at row)) f q.0, eqb-true (run_end k n (row_ink_at row)) (l + 1) q.1)

of-ends : (k n f l : ℕ) (row : List Bool) → run_start k n (row_ink_at row) ≡ f → run_end k n (row_ink_at row) ≡ l + 1
    → is_between k n f l row ≡ true
unfolding is_between
of-ends k n f l row start stop =
    both (eqb (run_start k n (row_ink_at row)) f) (eqb (run_end k n (row_ink_at row)) (l + 1)) (eq-eqb (run_start k n (row_ink_at row)) f start)
    (eq-eqb (run_end k n (row_ink_at row)) (l + 1) stop)

-- it goes from f to the pixel before f + m where the three parts are such
pub between-parts : (k f m b l : ℕ) (row : List Bool) → 0 < k → 0 < m → l + 1 ≡ f + m → length row ≡ f + (m + b)
    → is_between k (f + (m + b)) f l row ≡ is_parted k f m b row
between-parts k f m b l row some more end whole =
    let n = f + (m + b) in
    let t = row_ink_at row in
    bool-ext (is_between k n f l row) (is_parted k f m b row)
    (λ e.
    let q = ends_of k n f l row e in
    parts-test k f m b row some
    (both-parts k f m b t some (λ i past. get_or-eq_default row false (omega arith))
    (start-begins k n t f some (omega arith) q.0)
    (end-ends k n t (f + m) some (omega arith) (q.1 ∙ end))))
    (λ e.
    let q = test_parts k f m b row some e in
    of-ends k n f l row (begins-start k n t f some (parts-begin k f m b t some q))
    (ends-end k n t (f + m) some (parts-end k f m b t some q) ∙ sym end))
