-- Laws of the walk round the ring that counts agreement.
--     pose-first, pose-next                  a map's values one after the other
--     Counting                               the invariant: counting-begin, counting-turn, counting-end
-- Assumes nothing.
use mathlib.Core.Path.{◌≡◌, refl, sym, ap, ◌∙◌, subst}
use mathlib.Core.Bool.{Bool, true, false, beq, cond}
use mathlib.Core.List.{List}
use Prim.Native.Nat.{ℕ, suc, ◌+◌, ◌*◌, ◌-◌, ◌%◌, ◌<◌, ◌≤◌}
use native.Mathlib.Omega.{arith}
use native.Mathlib.Numerals.{add-one}
use native.Mathlib.Nat.{mul-lt-mul_of_pos_right, mod-eq_of_lt, mod-add-mod, add-mod_right}
use lib.ListN.{get_or}
use Rattle.laws.specs.Count.{count}
use Rattle.laws.specs.Fold.{bit}
use Rattle.lcr_core.specs.Version.{quarter_of, positions_of}
use Rattle.lcr_core.specs.Mark.{mark, AllMarks}
use Rattle.marks.specs.Pose.{pose_at, agree_at, agreement}
use Rattle.marks.specs.Correlate.{step_from}
use Rattle.marks.proofs.Poses.{mod_same, four}

-- ---- a map's values

quarter-below : (v r : ℕ) → r < 4 → r * quarter_of v < positions_of v
quarter-below v r h = subst (λ (m : ℕ). r * quarter_of v < m) (sym (four v)) (mul-lt-mul_of_pos_right h (omega arith))

pub quarter-in : (v r q : ℕ) → q ≡ quarter_of v → r < 4 → r * q < positions_of v
quarter-in v r q e h = subst (λ (m : ℕ). r * m < positions_of v) (sym e) (quarter-below v r h)

pub pose-first : (v r q : ℕ) (reversed : Bool) → q ≡ quarter_of v → r < 4 → r * q ≡ pose_at v r reversed 0
unfolding pose_at
pose-first v r q true e h =
    let z : r * quarter_of v + (positions_of v - 0) ≡ r * quarter_of v + positions_of v = omega arith in
    ap (λ (m : ℕ). r * m) e
    ∙ sym (ap (λ (m : ℕ). m % positions_of v) z ∙ add-mod_right (r * quarter_of v) (positions_of v) ∙ mod-eq_of_lt (quarter-below v r h))
pose-first v r q false e h =
    let z : r * quarter_of v + 0 ≡ r * quarter_of v = omega arith in
    ap (λ (m : ℕ). r * m) e ∙ sym (ap (λ (m : ℕ). m % positions_of v) z ∙ mod-eq_of_lt (quarter-below v r h))

back_sum : (x n i : ℕ) → i < n → x + (n - i) + (n - 1) + 0 * n ≡ x + (n - (i + 1)) + 1 * n
back_sum x n i h = omega arith

pub pose-next : (v r : ℕ) (reversed : Bool) (i at n : ℕ) → n ≡ positions_of v → i < n → at ≡ pose_at v r reversed i
    → step_from at n reversed ≡ pose_at v r reversed (i + 1)
unfolding pose_at
pose-next v r true i at n en hi e =
    subst (λ (m : ℕ). (at + (m - 1)) % m ≡ (r * quarter_of v + (positions_of v - (i + 1))) % positions_of v) (sym en)
    (ap (λ (x : ℕ). (x + (positions_of v - 1)) % positions_of v) e
    ∙ mod-add-mod (r * quarter_of v + (positions_of v - i)) (positions_of v) (positions_of v - 1)
    ∙ mod_same (positions_of v) _ _ 0 1 (back_sum (r * quarter_of v) (positions_of v) i (omega arith)))
pose-next v r false i at n en hi e =
    let z : r * quarter_of v + i + 1 ≡ r * quarter_of v + (i + 1) = omega arith in
    subst (λ (m : ℕ). (at + 1) % m ≡ (r * quarter_of v + (i + 1)) % positions_of v) (sym en)
    (ap (λ (x : ℕ). (x + 1) % positions_of v) e ∙ mod-add-mod (r * quarter_of v + i) (positions_of v) 1
    ∙ ap (λ (x : ℕ). x % positions_of v) z)

-- ---- counts

count_next : (p : ℕ → Bool) (i : ℕ) → count p (i + 1) ≡ count p i + bit (p i)
unfolding count
count_next p i = rw add-one (one (p i))
  where
    one : (b : Bool) → cond b (suc (count p i)) (count p i) ≡ count p i + bit b
    one true = omega arith
    one false = omega arith

count_turn : (v : ℕ) (s : List Bool) (r : ℕ) (reversed : Bool) (i at counted one : ℕ) (light there : Bool)
    → counted ≡ count (agree_at v s r reversed) i → at ≡ pose_at v r reversed i → light ≡ mark v i → there ≡ get_or s at false
    → one ≡ bit (beq light there) → counted + one ≡ count (agree_at v s r reversed) (i + 1)
unfolding agree_at
count_turn v s r reversed i at counted one light there ec ea el et eo =
    let z : one ≡ bit (agree_at v s r reversed i) =
    eo ∙ ap (λ (b : Bool). bit (beq b there)) el
    ∙ ap (λ (b : Bool). bit (beq (mark v i) b)) (et ∙ ap (λ (x : ℕ). get_or s x false) ea) in
    let w = count_next (agree_at v s r reversed) i in
    omega arith

count-done : (v : ℕ) (s : List Bool) (r : ℕ) (reversed : Bool) (i counted : ℕ) → i ≡ positions_of v
    → counted ≡ count (agree_at v s r reversed) i → counted ≡ agreement v s r reversed
unfolding agreement
count-done v s r reversed i counted ei ec = ec ∙ ap (λ (n : ℕ). count (agree_at v s r reversed) n) ei

count-zero : (p : ℕ → Bool) → 0 ≡ count p 0
unfolding count
count-zero p = refl

-- What holds at turn i of n, whichever version has n positions.
pub record Counting (s : List Bool) (r : ℕ) (reversed : Bool) (n at counted i : ℕ) : Type 0 where
  pub within : i ≤ n
  pub few : counted ≤ i
  pub inside : at < n
  pub place : (v : ℕ) → n ≡ positions_of v → at ≡ pose_at v r reversed i
  pub so_far : (v : ℕ) → n ≡ positions_of v → counted ≡ count (agree_at v s r reversed) i

pub counting-begin : (s : List Bool) (w r : ℕ) (reversed : Bool) (n q : ℕ) → n ≡ positions_of w → q ≡ quarter_of w → r < 4
    → Counting s r reversed n (r * q) 0 0
counting-begin s w r reversed n q en eq h =
    record {
      within = omega arith;
      few = omega arith;
      inside = subst (λ (m : ℕ). r * q < m) (sym en) (quarter-in w r q eq h);
      place = λ v e. pose-first v r q reversed (eq ∙ (let z : quarter_of w ≡ quarter_of v = omega arith in z)) h;
      so_far = λ v e. count-zero (agree_at v s r reversed);
    }

pub counting-turn : (s seq : List Bool) (w r : ℕ) (reversed : Bool) (n at counted i at' one : ℕ) → n ≡ positions_of w → AllMarks w seq
    → i < n → at' < n → one ≤ 1 → at' ≡ step_from at n reversed → one ≡ bit (beq (get_or seq i false) (get_or s at false))
    → Counting s r reversed n at counted i → Counting s r reversed n at' (counted + one) (i + 1)
counting-turn s seq w r reversed n at counted i at' one en all hi hn ho ea eo c =
    record {
      within = omega arith;
      few = (let f = c.few in omega arith);
      inside = hn;
      place = λ v e. ea ∙ pose-next v r reversed i at n e hi (c.place v e);
      so_far = λ v e.
          count_turn v s r reversed i at counted one (get_or seq i false) (get_or s at false) (c.so_far v e) (c.place v e)
          (all.at i (omega arith) ∙ ap (λ (k : ℕ). mark k i) (let z : w ≡ v = omega arith in z)) refl eo;
    }

pub counting-end : (s : List Bool) (w r : ℕ) (reversed : Bool) (n at counted i : ℕ) → n ≡ positions_of w → n ≤ i
    → Counting s r reversed n at counted i → counted ≡ agreement w s r reversed
counting-end s w r reversed n at counted i en h c =
    let l = c.within in count-done w s r reversed i counted (omega arith) (c.so_far w en)
