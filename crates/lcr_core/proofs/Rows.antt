-- Row starts and lengths of the ring table: one test that antt computes over the 64 rows, carried to every version.
--     table-length   the table has 4,864 bytes
--     row-start      row v starts at (v - 1) * (v + 11)
--     row-end        it ends inside the table, 2v + 11 bytes on;  row-bits  those are as many bits as positions
--     mark-bit       shift and mask give the mark
-- Assumes nothing.
use mathlib.Core.Path.{◌≡◌, refl, sym, ap, ◌∙◌, subst}
use mathlib.Core.Bool.{Bool, true, false, ◌&&◌}
use mathlib.Core.List.{List}
use Prim.Native.Nat.{ℕ, zero, suc, ◌+◌, ◌*◌, ◌-◌, ◌/◌, ◌%◌, ◌^◌, ◌<◌, ◌≤◌}
use native.Mathlib.Omega.{arith}
use native.Mathlib.Nat.{mod-lt, mod-eq_of_lt}
use lib.Dec.{T, eqb, leb, eqb→eq, leb→le}
use borrow.Author.Tests.{eqb-true, eqb-false}
use lib.Arith.{le_of_le-suc-ne}
use lib.Bits.{bit_and, and_mask}
use lib.ListN.{length, get_or, set}
use lib.Seq.{get_or-set_same, get_or-set_other}
use Rattle.laws.proofs.Bools.{passed-left, passed-right}
use Rattle.lcr_core.specs.Ring.{ring_bytes}
use Rattle.lcr_core.specs.Version.{IsVersion, positions_of}
use Rattle.lcr_core.specs.Claims.{RowOf}
use Rattle.lcr_core.specs.Mark.{row_length, row_start, rows_through, ring_byte, bit_at, mark_at, mark, RowMarks, AllMarks}

pub table-length : length ring_bytes ≡ 4864
unfolding ring_bytes
table-length = refl

-- the rows of version v: their start, that they end within the table, and their bits
rows_right : ℕ → Bool
rows_right v = eqb (row_start v) ((v - 1) * (v + 11)) && (leb (row_start v + row_length v) 4864 && eqb (8 * row_length v) (positions_of v))

-- the test passes at 1 to n
all_right : ℕ → Bool
all_right zero = true
all_right (suc n) = rows_right (suc n) && all_right n

-- the one computed test
tested : T (all_right 64)
unfolding all_right rows_right row_start rows_through
tested = tt

carried : (n : ℕ) → T (all_right n) → (v : ℕ) → 1 ≤ v → v ≤ n → T (rows_right v)
unfolding all_right
carried zero t v h k = let z : 1 ≤ 0 = omega arith in absurd (none z)
  where
    none : 1 ≤ 0 → ⊥
    none z = omega arith
carried (suc n) t v h k = go (eqb v (suc n)) refl (λ less. carried n (passed-right (rows_right (suc n)) (all_right n) t) v h less)
  where
    go : (b : Bool) → eqb v (suc n) ≡ b → (v ≤ n → T (rows_right v)) → T (rows_right v)
    go true e further = subst (λ (m : ℕ). T (rows_right m)) (sym (eqb-true v (suc n) e)) (passed-left (rows_right (suc n)) (all_right n) t)
    go false e further = further (le_of_le-suc-ne k (eqb-false v (suc n) e))

rows : (v : ℕ) → IsVersion v → T (rows_right v)
rows v h = carried 64 tested v h.least h.greatest

-- the parts of the test
starts : ℕ → Bool
starts v = eqb (row_start v) ((v - 1) * (v + 11))

ends : ℕ → Bool
ends v = leb (row_start v + row_length v) 4864

bits : ℕ → Bool
bits v = eqb (8 * row_length v) (positions_of v)

pub row-start : (v : ℕ) → IsVersion v → row_start v ≡ (v - 1) * (v + 11)
unfolding rows_right starts ends bits
row-start v h = eqb→eq (row_start v) ((v - 1) * (v + 11)) (passed-left (starts v) (ends v && bits v) (rows v h))

pub row-end : (v : ℕ) → IsVersion v → row_start v + row_length v ≤ 4864
unfolding rows_right starts ends bits
row-end v h = leb→le (row_start v + row_length v) 4864 (passed-left (ends v) (bits v) (passed-right (starts v) (ends v && bits v) (rows v h)))

pub row-bits : (v : ℕ) → IsVersion v → 8 * row_length v ≡ positions_of v
unfolding rows_right starts ends bits
row-bits v h = eqb→eq (8 * row_length v) (positions_of v) (passed-right (ends v) (bits v) (passed-right (starts v) (ends v && bits v) (rows v h)))

pub row_of : (v : ℕ) → IsVersion v → RowOf v
row_of v h = record { within = let z = row-end v h in omega (arith, table-length); bits = row-bits v h }

pub byte-within : (v p : ℕ) → IsVersion v → p < positions_of v → row_start v + p / 8 < 4864
byte-within v p h k = let z = row-end v h in omega arith

pub mark-bit : (b k : ℕ) → eqb (bit_and (b / 2 ^ k) 1) 1 ≡ bit_at b k
mark-bit b k = ap (λ (n : ℕ). eqb n 1) (and_mask (b / 2 ^ k) 1)

-- what the code computes at a position, with the row's start and the positions as locals
pub light-is : (v p n start : ℕ) → n ≡ positions_of v → start ≡ row_start v
    → eqb (bit_and (get_or ring_bytes (start + p % n / 8) 0 / 2 ^ (p % n % 8)) 1) 1 ≡ mark v p
unfolding mark mark_at ring_byte
light-is v p n start en es =
    mark-bit (get_or ring_bytes (start + p % n / 8) 0) (p % n % 8)
    ∙ ap (λ (m : ℕ). bit_at (get_or ring_bytes (start + p % m / 8) 0) (p % m % 8)) en
    ∙ ap (λ (m : ℕ). bit_at (get_or ring_bytes (m + p % positions_of v / 8) 0) (p % positions_of v % 8)) es

pub start_small : (v : ℕ) → IsVersion v → row_start v < 4864
start_small v h = let z = row-end v h in omega arith

-- the index that the code reads
pub byte_at : (v p n g start : ℕ) → IsVersion v → n ≡ positions_of v → g ≡ v → start ≡ row_start g → start + p % n / 8 < 4864
byte_at v p n g start h en eg es =
    let z : row_start g ≡ row_start v = ap row_start eg in
    let m : p % n < n = mod-lt p (omega arith) in
    let w = byte-within v (p % n) h (omega arith) in
    omega arith

pub light-at : (v p n g start : ℕ) → n ≡ positions_of v → g ≡ v → start ≡ row_start g
    → eqb (bit_and (get_or ring_bytes (start + p % n / 8) 0 / 2 ^ (p % n % 8)) 1) 1 ≡ mark v p
light-at v p n g start en eg es = light-is v p n start en (es ∙ ap row_start eg)

-- ---- all marks of a version

pub marks-none : (table : List ℕ) (start : ℕ) (s : List Bool) → RowMarks table start 0 s
marks-none table start s = record { at = λ p h. absurd (none p h) }
  where
    none : (p : ℕ) → p < 0 → ⊥
    none p h = omega arith

pub marks-turn : (table : List ℕ) (start k : ℕ) (s : List Bool) (b : Bool) → k < length s → b ≡ bit_at (get_or table (start + k / 8) 0) (k % 8)
    → RowMarks table start k s → RowMarks table start (k + 1) (set s k b)
marks-turn table start k s b l e m = record { at = λ p h. go p h (eqb p k) refl }
  where
    go : (p : ℕ) → p < k + 1 → (t : Bool) → eqb p k ≡ t → get_or (set s k b) p false ≡ bit_at (get_or table (start + p / 8) 0) (p % 8)
    go p h true q =
        let z : p ≡ k = eqb-true p k q in
        subst (λ (x : ℕ). get_or (set s k b) x false ≡ bit_at (get_or table (start + x / 8) 0) (x % 8)) (sym z) (get_or-set_same s k b false l ∙ e)
    go p h false q =
        let ne : (p ≡ k → ⊥) = eqb-false p k q in
        get_or-set_other s k p b false ne ∙ m.at p (omega arith)

pub marks-done : (table : List ℕ) (start k n : ℕ) (s : List Bool) → k ≡ n → RowMarks table start k s → RowMarks table start n s
marks-done table start k n s e m = subst (λ (x : ℕ). RowMarks table start x s) e m

pub marks-all : (v n g start : ℕ) (s : List Bool) → n ≡ positions_of v → g ≡ v → start ≡ row_start g → RowMarks ring_bytes start n s
    → AllMarks v s
unfolding mark mark_at ring_byte
marks-all v n g start s en eg es m =
    record {
      at = λ p h. m.at p (subst (λ (x : ℕ). p < x) (sym en) h)
          ∙ ap (λ (x : ℕ). bit_at (get_or ring_bytes (x + p / 8) 0) (p % 8)) (es ∙ ap row_start eg)
          ∙ sym (ap (λ (x : ℕ). bit_at (get_or ring_bytes (row_start v + x / 8) 0) (x % 8)) (mod-eq_of_lt h));
    }

-- what filling asks
pub row_room : (v n g start : ℕ) → IsVersion v → n ≡ positions_of v → g ≡ v → start ≡ row_start g
    → (start < 4864) × (n < 4096) × (start + (n + 7) / 8 ≤ 4864)
row_room v n g start h en eg es =
    let z : row_start g ≡ row_start v = ap row_start eg in
    let r = row-end v h in
    (omega arith, omega arith, omega arith)
