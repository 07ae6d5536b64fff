-- What the sweeps over a strip of columns keep. The invariant Stepped of a row (stepped-begin, stepped-turn), the thresholds (cuts-turn),
-- the invariant Swept of a strip (swept-begin, swept-turn, swept-early, swept-most), lent parts (part-long, part-stepped), and the points
-- found (column-none, column-is, columns-are, columns-none). Assumes nothing.
use mathlib.Core.Path.{◌≡◌, refl, sym, ap, ◌∙◌, subst}
use mathlib.Core.Bool.{Bool, true, false}
use mathlib.Core.List.{List, []}
use mathlib.Core.Logic.{◌⊎◌, inl, inr, ⊎_elim}
use Prim.Native.Nat.{ℕ, suc, ◌+◌, ◌-◌, ◌*◌, ◌/◌, ◌≤◌, ◌<◌}
use native.Mathlib.Nat.{eq-or-lt_of_le, not-suc-le-zero}
use native.Mathlib.Omega.{arith}
use lib.Dec.{ltb}
use lib.ListN.{length, get_or, set, drop, take, length-set, length-take, length-drop, replicate, get_or-replicate, length-replicate}
use lib.Seq.{get_or-set_same, get_or-set_other, get_or-take, get_or-drop}
use borrow.Author.Tests.{le-leb, lt-leb, lt-ltb, le-ltb}
use Rattle.laws.proofs.Bools.{le-or-lt}
use Rattle.boundary.specs.Runs.{run_start, edges}
use Rattle.boundary.specs.Boundary.{member_at, column_points, columns_from}
use Rattle.outline.specs.Inner.{toward, column_line, scan_step, scan, column_found, columns_found, cut_of, CutRow, part_of, Stepped, Swept, AtMost}
use Rattle.outline.proofs.Scans.{scan-begin, scan-more, scan-le, scan-stays, start-found, start_none, end-found}
use Rattle.outline.proofs.Cuts.{member-cut}
use Rattle.laws.proofs.Joined.{joined-ext, joined-none}

-- ---- a run that is found stays found
pub scan-early : (run : ℕ) (m : ℕ → Bool) (i n r : ℕ) → run ≤ r → r ≡ scan run m i → i ≤ n → r ≡ scan run m n
scan-early run m i n r h e l =
    let z : i + (n - i) ≡ n = omega arith in
    e ∙ sym (scan-stays m run i (n - i) (subst (λ (q : ℕ). run ≤ q) e h)) ∙ ap (scan run m) z

-- ---- a row of a strip
pub stepped-begin : (run : ℕ) (row cuts old : List ℕ) (k : ℕ) → length old ≡ 64 → Stepped run row cuts old k 0 old
stepped-begin run row cuts old k e = record { size = e; done = λ j l. absurd (not-suc-le-zero l); left = λ j l. refl }

pub stepped-turn : {run : ℕ} {row cuts old new : List ℕ} {k i : ℕ} (r : ℕ) → Stepped run row cuts old k i new → i < 64
    → r ≡ scan_step run (get_or new i 0) (ltb (get_or row i 0) (get_or cuts i 0)) k → Stepped run row cuts old k (i + 1) (set new i r)
stepped-turn {run} {row} {cuts} {old} {new} {k} {i} r s l e = record {
  size = length-set new i r ∙ s.size;
  done = λ j h. go j (eq-or-lt_of_le h);
  left = λ j h. get_or-set_other new i j r 0 (λ q. omega arith) ∙ s.left j (omega arith);
}
  where
    here : get_or (set new i r) i 0 ≡ scan_step run (get_or old i 0) (ltb (get_or row i 0) (get_or cuts i 0)) k
    here =
        get_or-set_same new i r 0 (omega (arith, s.size)) ∙ e
        ∙ ap (λ (q : ℕ). scan_step run q (ltb (get_or row i 0) (get_or cuts i 0)) k) (s.left i (omega arith))

    go : (j : ℕ) → (suc j ≡ i + 1) ⊎ (suc j < i + 1)
        → get_or (set new i r) j 0 ≡ scan_step run (get_or old j 0) (ltb (get_or row j 0) (get_or cuts j 0)) k
    go j (inl q) =
        let z : i ≡ j = omega arith in
        subst (λ (q : ℕ). get_or (set new i r) q 0 ≡ scan_step run (get_or old q 0) (ltb (get_or row q 0) (get_or cuts q 0)) k) z here
    go j (inr q) = get_or-set_other new i j r 0 (λ e. omega arith) ∙ s.done j (omega arith)

-- ---- thresholds of a strip
pub cuts-turn : (want w : ℕ) (levels labels : List ℕ) (x i cy : ℕ) (cuts : List ℕ) (a t : ℕ)
    → CutRow want w levels labels x i cy cuts → i < 64 → a ≡ x + i → t ≡ cut_of want w levels labels (a / 8) cy
    → CutRow want w levels labels x (i + 1) cy (set cuts i t)
cuts-turn want w levels labels x i cy cuts a t c l ea et =
    record { size = length-set cuts i t ∙ c.size; each = λ j h. go j (eq-or-lt_of_le h) }
  where
    go : (j : ℕ) → (suc j ≡ i + 1) ⊎ (suc j < i + 1) → get_or (set cuts i t) j 0 ≡ cut_of want w levels labels ((x + j) / 8) cy
    go j (inl q) =
        let z : i ≡ j = omega arith in
        subst (λ (q : ℕ). get_or (set cuts i t) q 0 ≡ cut_of want w levels labels ((x + q) / 8) cy) z
        (get_or-set_same cuts i t 0 (omega (arith, c.size)) ∙ et ∙ ap (λ (q : ℕ). cut_of want w levels labels (q / 8) cy) ea)
    go j (inr q) = get_or-set_other cuts i j t 0 (λ e. omega arith) ∙ c.each j (omega arith)

-- ---- columns
pub swept-begin : (run : ℕ) (p : ℕ → ℕ → Bool) (y0 rows x n : ℕ) (back : Bool) → n ≤ 64 → Swept run p y0 rows x n back 0 (replicate 64 0)
swept-begin run p y0 rows x n back l = record {
  size = length-replicate {A = ℕ} 64 0;
  each = λ j h. get_or-replicate 64 j 0 0 (omega arith) ∙ sym (scan-begin run (column_line p y0 rows (x + j) back));
}

pub swept-turn : (run want w : ℕ) (s levels labels : List ℕ) (y0 rows x n : ℕ) (back : Bool) (k : ℕ) (states cuts : List ℕ) (y : ℕ)
    (new : List ℕ)
    → Swept run (member_at want w s levels labels) y0 rows x n back k states → CutRow want w levels labels x n (y / 8) cuts
    → y ≡ y0 + toward back rows k → Stepped run (part_of (y * w + x) n s) cuts states k n new
    → Swept run (member_at want w s levels labels) y0 rows x n back (k + 1) new
swept-turn run want w s levels labels y0 rows x n back k states cuts y new v c ey st = record { size = st.size; each = one }
  where
    p : ℕ → ℕ → Bool
    p = member_at want w s levels labels

    row : List ℕ
    row = part_of (y * w + x) n s

    pix : (j : ℕ) → j < n → get_or row j 0 ≡ get_or s (y * w + (x + j)) 0
    pix j l =
        let z : y * w + x + j ≡ y * w + (x + j) = omega arith in
        get_or-take n (drop (y * w + x) s) j 0 l ∙ get_or-drop (y * w + x) s j 0 ∙ ap (λ (q : ℕ). get_or s q 0) z

    one : (j : ℕ) → j < n → get_or new j 0 ≡ scan run (column_line p y0 rows (x + j) back) (k + 1)
    one j l =
        unfold column_line in
        let m : p (x + j) (y0 + toward back rows k) ≡ ltb (get_or row j 0) (get_or cuts j 0) =
        ap (p (x + j)) (sym ey)
        ∙ member-cut want w s levels labels (x + j) y
        ∙ ap (λ (q : ℕ). ltb q (cut_of want w levels labels ((x + j) / 8) (y / 8))) (sym (pix j l))
        ∙ ap (λ (q : ℕ). ltb (get_or row j 0) q) (sym (c.each j l)) in
        st.done j l
        ∙ ap (λ (q : ℕ). scan_step run q (ltb (get_or row j 0) (get_or cuts j 0)) k) (v.each j l)
        ∙ ap (λ (q : Bool). scan_step run (scan run (column_line p y0 rows (x + j) back) k) q k) (sym m)
        ∙ sym (scan-more run (column_line p y0 rows (x + j) back) k)

pub swept-early : (run : ℕ) (p : ℕ → ℕ → Bool) (y0 rows x n : ℕ) (back : Bool) (k : ℕ) (states : List ℕ)
    → Swept run p y0 rows x n back k states → ((i : ℕ) → i < n → run ≤ get_or states i 0) → k ≤ rows
    → Swept run p y0 rows x n back rows states
swept-early run p y0 rows x n back k states v all l = record {
  size = v.size;
  each = λ j h. scan-early run (column_line p y0 rows (x + j) back) k rows (get_or states j 0) (all j h) (v.each j h) l;
}

pub swept-most : (run : ℕ) → 1 ≤ run → (p : ℕ → ℕ → Bool) (y0 rows x n : ℕ) (back : Bool) (k : ℕ) (states : List ℕ)
    → Swept run p y0 rows x n back k states → AtMost n k states
swept-most run some p y0 rows x n back k states v i l =
    subst (λ (q : ℕ). q ≤ k) (sym (v.each i l)) (scan-le (column_line p y0 rows (x + i) back) run some k)

-- ---- a part of a list, as the code lends it: from a up to a + n
module _ (a n : ℕ) (s : List ℕ) where
  lent : take (a + n - a) (drop a s) ≡ part_of a n s
  lent = let z : a + n - a ≡ n = omega arith in ap (λ (k : ℕ). take k (drop a s)) z

  pub part-long : a + n ≤ length s → length (take (a + n - a) (drop a s)) ≡ n
  part-long fit = simp (length-take, length-drop) (omega arith)

  pub part-stepped : {run : ℕ} {cuts old new : List ℕ} {k m : ℕ} → m ≡ n → Stepped run (take (a + n - a) (drop a s)) cuts old k m new
      → Stepped run (part_of a n s) cuts old k n new
  part-stepped {run} {cuts} {old} {new} {k} {m} e st =
      subst (λ (i : ℕ). Stepped run (part_of a n s) cuts old k i new) e (subst (λ (l : List ℕ). Stepped run l cuts old k m new) lent st)

-- ---- the points of a column
module _ (run : ℕ) (some : 1 ≤ run) (p : ℕ → ℕ → Bool) (y0 n x : ℕ) where
  abbrev line : ℕ → Bool
  line j = p x (y0 + j)

  column-none : scan run (column_line p y0 n x false) n < run → column_points run p y0 n x ≡ []
  unfolding column_points edges column_line
  column-none h = rw (start_none line run some n h, le-ltb n n (omega arith))

  pub column-is : (d u : ℕ) → d ≡ scan run (column_line p y0 n x false) n → u ≡ scan run (column_line p y0 n x true) n
      → column_found run y0 n x d u ≡ column_points run p y0 n x
  column-is d u ed eu = ⊎_elim found missing (le-or-lt run d)
    where
      found : run ≤ d → column_found run y0 n x d u ≡ column_points run p y0 n x
      found h =
          unfold column_points edges column_found column_line in
          let hr : run ≤ scan run line n = subst (λ (k : ℕ). run ≤ k) ed h in
          let f = start-found line run some n hr in
          let e = end-found line (λ i. line (n - 1 - i)) run n some (λ i l. refl) hr in
          rw (le-leb run d h, lt-ltb (run_start run n line) n f.1, f.0, e, ed, eu)

      missing : d < run → column_found run y0 n x d u ≡ column_points run p y0 n x
      missing h = unfold column_found in rw (lt-leb run d h) (sym (column-none (subst (λ (k : ℕ). k < run) ed h)))

pub columns-are : (run : ℕ) → 1 ≤ run → (p : ℕ → ℕ → Bool) (y0 rows x n : ℕ) (down up : List ℕ) → Swept run p y0 rows x n false rows down
    → Swept run p y0 rows x n true rows up
    → columns_found run down up y0 rows x n ≡ columns_from run p y0 rows x n
unfolding columns_found columns_from
columns-are run some p y0 rows x n down up d u =
    joined-ext n (λ i. column_found run y0 rows (x + i) (get_or down i 0) (get_or up i 0)) (λ i. column_points run p y0 rows (x + i))
    (λ i l. column-is run some p y0 rows (x + i) (get_or down i 0) (get_or up i 0) (d.each i l) (u.each i l))

pub columns-none : (run : ℕ) → 1 ≤ run → (p : ℕ → ℕ → Bool) (y0 rows x n : ℕ) (down : List ℕ) → Swept run p y0 rows x n false rows down
    → ((i : ℕ) → i < n → get_or down i 0 < run) → [] ≡ columns_from run p y0 rows x n
unfolding columns_from
columns-none run some p y0 rows x n down d none =
    sym (joined-none n (λ i. column_points run p y0 rows (x + i))
    (λ i l. column-none run some p y0 rows (x + i) (subst (λ (q : ℕ). q < run) (d.each i l) (none i l))))
