-- How each definition goes on by one step, and ends.
--     row_step, row-end, swap_step, swap-end, pivot-step, pivot-end, clear_step, clear-end, clear_none, clear-some, clear-turn
--     the pivot and the rows: pivot-next, swap-start, arranged-same, arranged-other, forward-end, forward-none,
--     forward-next, less-step, less-end, back_step, back_end, forward-start
-- Assumes nothing.
use mathlib.Core.Path.{◌≡◌, refl, sym, ap, ◌∙◌, subst}
use mathlib.Core.List.{List}
use mathlib.Core.Bool.{Bool, true, false, cond}
use Prim.Native.Nat.{ℕ, zero, suc, ◌+◌, ◌-◌, ◌*◌, ◌≤◌, ◌<◌}
use native.Mathlib.Omega.{arith}
use lib.ListN.{set}
use lib.Ieee.{Float, binary64, sub, mul, div, lt, eq, of_bits}
use Rattle.ieee.specs.Ops.{abs}
use Rattle.math.specs.Lists.{number_at, swapped}
use Rattle.ieee.specs.Constants.{1e-12}
use Rattle.math.specs.Elimination.{sys, freed, pivot_on, pivot, swap_on, row_less, System, cleared_row, clear_on, arranged, column, Outcome, forward_on, less_on, back_on}
use Rattle.laws.proofs.Steps.{one_less, none_left, on, done}
use borrow.Author.Tests.{eq-eqb, ne_eqb}

pub row_step : (r c : ℕ) (f : Float) (n k : ℕ) (a : List Float) → k < n
    → row_less r c f (n - k) k a
    ≡ row_less r c f (n - (k + 1)) (k + 1) (set a (r + k) (sub binary64 (number_at a (r + k)) (mul binary64 f (number_at a (c + k)))))
unfolding row_less
row_step r c f n k a h =
    on (row_less r c f) (λ k a. set a (r + k) (sub binary64 (number_at a (r + k)) (mul binary64 f (number_at a (c + k))))) n (λ d k a. refl) k a h

pub row-end : (r c : ℕ) (f : Float) (n k : ℕ) (a : List Float) → n ≤ k → row_less r c f (n - k) k a ≡ a
unfolding row_less
row-end r c f n k a h = done (row_less r c f) (λ k a. a) n (λ k a. refl) k a h

pub swap_step : (i j n k : ℕ) (a : List Float) → k < n
    → swap_on i j (n - k) k a ≡ swap_on i j (n - (k + 1)) (k + 1) (swapped a (i + k) (j + k))
unfolding swap_on
swap_step i j n k a h = on (swap_on i j) (λ k a. swapped a (i + k) (j + k)) n (λ d k a. refl) k a h

pub swap-end : (i j n k : ℕ) (a : List Float) → n ≤ k → swap_on i j (n - k) k a ≡ a
unfolding swap_on
swap-end i j n k a h = done (swap_on i j) (λ k a. a) n (λ k a. refl) k a h

pub pivot-step : (a : List Float) (n c r p : ℕ) → r < n
    → pivot_on a n c (n - r) r p ≡ pivot_on a n c (n - (r + 1)) (r + 1) (cond (lt (abs (number_at a (p * n + c))) (abs (number_at a (r * n + c)))) r p)
unfolding pivot_on
pivot-step a n c r p h = on (pivot_on a n c) (λ r p. cond (lt (abs (number_at a (p * n + c))) (abs (number_at a (r * n + c)))) r p) n (λ d r p. refl) r p h

pub pivot-end : (a : List Float) (n c r p : ℕ) → n ≤ r → pivot_on a n c (n - r) r p ≡ p
unfolding pivot_on
pivot-end a n c r p h = done (pivot_on a n c) (λ r p. p) n (λ r p. refl) r p h

pub clear_step : (n c : ℕ) (e : Float) (r : ℕ) (s : System) → r < n
    → clear_on n c e (n - r) r s ≡ clear_on n c e (n - (r + 1)) (r + 1) (cleared_row n c e r s)
unfolding clear_on
clear_step n c e r s h = on (clear_on n c e) (cleared_row n c e) n (λ d r s. refl) r s h

pub clear-end : (n c : ℕ) (e : Float) (r : ℕ) (s : System) → n ≤ r → clear_on n c e (n - r) r s ≡ s
unfolding clear_on
clear-end n c e r s h = done (clear_on n c e) (λ r s. s) n (λ r s. refl) r s h

-- the two cases of a row
clear-by : (n c : ℕ) (e : Float) (r : ℕ) (a b : List Float) (t : Bool) → eq (div binary64 (number_at a (r * n + c)) e) (of_bits binary64 0) ≡ t
    → cleared_row n c e r (sys a b) ≡ cond t (sys a b) (freed n c r (div binary64 (number_at a (r * n + c)) e) (sys a b))
unfolding cleared_row
clear-by n c e r a b t h = ap (λ (t : Bool). cond t (sys a b) (freed n c r (div binary64 (number_at a (r * n + c)) e) (sys a b))) h

-- a factor of 0 leaves the row, another one eliminates the column
pub clear_none : (n c : ℕ) (e : Float) (r : ℕ) (a b : List Float) → eq (div binary64 (number_at a (r * n + c)) e) (of_bits binary64 0) ≡ true
    → sys a b ≡ cleared_row n c e r (sys a b)
clear_none n c e r a b t = sym (clear-by n c e r a b true t)

pub clear-some : (n c : ℕ) (e : Float) (r : ℕ) (a b a' : List Float)
    → eq (div binary64 (number_at a (r * n + c)) e) (of_bits binary64 0) ≡ false
    → a' ≡ row_less (r * n) (c * n) (div binary64 (number_at a (r * n + c)) e) (n - c) c a
    → sys a' (set b r (sub binary64 (number_at b r) (mul binary64 (div binary64 (number_at a (r * n + c)) e) (number_at b c)))) ≡ cleared_row n c e r (sys a b)
clear-some n c e r a b a' t p =
    ap (λ (w : List Float). sys w (set b r (sub binary64 (number_at b r) (mul binary64 (div binary64 (number_at a (r * n + c)) e) (number_at b c))))) p
    ∙ sym (clear-by n c e r a b false t)

-- one row more
pub clear-turn : (n c : ℕ) (e : Float) (r : ℕ) (s s' z : System) → r < n → s' ≡ cleared_row n c e r s → clear_on n c e (n - r) r s ≡ z
    → clear_on n c e (n - (r + 1)) (r + 1) s' ≡ z
clear-turn n c e r s s' z h p q = ap (clear_on n c e (n - (r + 1)) (r + 1)) p ∙ sym (clear_step n c e r s h) ∙ q

-- ---- the pivot and the rows
pub pivot-next : (a : List Float) (n c r p p' z : ℕ) (x y : Float) → r < n → p < n → x ≡ abs (number_at a (r * n + c))
    → y ≡ abs (number_at a (p * n + c)) → p' ≡ cond (lt y x) r p → pivot_on a n c (n - r) r p ≡ z
    → (p' < n) × (pivot_on a n c (n - (r + 1)) (r + 1) p' ≡ z)
pivot-next a n c r p p' z x y h k ex ey ep e = (
  subst (λ (q : ℕ). q < n) (sym ep) (either (lt y x)),
  ap (pivot_on a n c (n - (r + 1)) (r + 1))
      (ep ∙ ap (λ (x : Float). cond (lt y x) r p) ex ∙ ap (λ (y : Float). cond (lt y (abs (number_at a (r * n + c)))) r p) ey)
      ∙ sym (pivot-step a n c r p h) ∙ e,
)
  where
    either : (b : Bool) → cond b r p < n
    either true = h
    either false = k

pub swap-start : (i j n : ℕ) (a : List Float) → swap_on i j (n - 0) 0 a ≡ swap_on i j n 0 a
swap-start i j n a = ap (λ (d : ℕ). swap_on i j d 0 a) (native.Mathlib.Nat.sub-zero n)

pub arranged-same : (n c p : ℕ) (a b : List Float) → p ≡ c → sys a b ≡ arranged n c p (sys a b)
unfolding arranged
arranged-same n c p a b h = sym (ap (λ (t : Bool). cond t (sys a b) (sys (swap_on (c * n) (p * n) n 0 a) (swapped b c p))) (eq-eqb p c h))

pub arranged-other : (n c p : ℕ) (a b a' : List Float) → (p ≡ c → ⊥) → a' ≡ swap_on (c * n) (p * n) n 0 a
    → sys a' (swapped b c p) ≡ arranged n c p (sys a b)
unfolding arranged
arranged-other n c p a b a' h e =
    ap (λ (w : List Float). sys w (swapped b c p)) e
    ∙ sym (ap (λ (t : Bool). cond t (sys a b) (sys (swap_on (c * n) (p * n) n 0 a) (swapped b c p))) (ne_eqb p c h))

forward-at : (n c : ℕ) (s : System) (t : Bool) → c < n → lt (abs (number_at s.m (pivot s.m n c * n + c))) 1e-12 ≡ t
    → forward_on n (n - c) c s ≡ cond t record { ok = false; left = s } (forward_on n (n - (c + 1)) (c + 1) (column n c s))
unfolding forward_on
forward-at n c s t h e =
    ap (λ (d : ℕ). forward_on n d c s) (one_less n c h)
    ∙ ap (λ (t : Bool). cond {A = Outcome} t record { ok = false; left = s } (forward_on n (n - (c + 1)) (c + 1) (column n c s))) e

pub forward-end : (n c : ℕ) (s : System) → n ≤ c → forward_on n (n - c) c s ≡ record { ok = true; left = s }
unfolding forward_on
forward-end n c s h = ap (λ (d : ℕ). forward_on n d c s) (none_left n c h)

pub forward-none : (n c p : ℕ) (s : System) (x : Float) (z : Outcome) → c < n → p ≡ pivot s.m n c → x ≡ abs (number_at s.m (p * n + c))
    → lt x 1e-12 ≡ true → forward_on n (n - c) c s ≡ z
    → record { ok = false; left = s } ≡ z
forward-none n c p s x z h ep ex t q =
    sym (forward-at n c s true h (ap (λ (y : Float). lt y 1e-12) (ap (λ (i : ℕ). abs (number_at s.m (i * n + c))) (sym ep) ∙ sym ex) ∙ t)) ∙ q

pub forward-next : (n c p : ℕ) (s t u : System) (x : Float) (z : Outcome) → c < n → p ≡ pivot s.m n c → x ≡ abs (number_at s.m (p * n + c))
    → lt x 1e-12 ≡ false
    → t ≡ arranged n c p s → u ≡ clear_on n c (number_at t.m (c * n + c)) (n - (c + 1)) (c + 1) t → forward_on n (n - c) c s ≡ z
    → forward_on n (n - (c + 1)) (c + 1) u ≡ z
unfolding column
forward-next n c p s t u x z h ep ex l et eu q =
    ap (forward_on n (n - (c + 1)) (c + 1))
    (eu ∙ ap (λ (t : System). clear_on n c (number_at t.m (c * n + c)) (n - (c + 1)) (c + 1) t) (et ∙ ap (λ (p : ℕ). arranged n c p s) ep))
    ∙ sym (forward-at n c s false h (ap (λ (y : Float). lt y 1e-12) (ap (λ (i : ℕ). abs (number_at s.m (i * n + c))) (sym ep) ∙ sym ex) ∙ l))
    ∙ q

pub less-step : (a x : List Float) (w n k : ℕ) (s : Float) → k < n
    → less_on a x w (n - k) k s ≡ less_on a x w (n - (k + 1)) (k + 1) (sub binary64 s (mul binary64 (number_at a (w + k)) (number_at x k)))
unfolding less_on
less-step a x w n k s h = on (less_on a x w) (λ k s. sub binary64 s (mul binary64 (number_at a (w + k)) (number_at x k))) n (λ d k s. refl) k s h

pub less-end : (a x : List Float) (w n k : ℕ) (s : Float) → n ≤ k → less_on a x w (n - k) k s ≡ s
unfolding less_on
less-end a x w n k s h = done (less_on a x w) (λ k s. s) n (λ k s. refl) k s h

pub back_step : (s : System) (n d r : ℕ) (x : List Float) (y : Float) (z : List Float) → r ≡ d - 1 → 0 < d
    → y ≡ less_on s.m x (r * n) (n - (r + 1)) (r + 1) (number_at s.v r)
    → back_on s n d x ≡ z → back_on s n r (set x r (div binary64 y (number_at s.m (r * n + r)))) ≡ z
unfolding back_on
back_step s n zero r x y z er h ey q = absurd (no h)
  where
    no : 0 < 0 → ⊥
    no h = omega arith
back_step s n (suc d) r x y z er h ey q =
    let e : r ≡ d = er ∙ same d in
    ap (λ (y : Float). back_on s n r (set x r (div binary64 y (number_at s.m (r * n + r))))) ey
    ∙ ap (λ (r : ℕ). back_on s n r
    (set x r (div binary64 (less_on s.m x (r * n) (n - (r + 1)) (r + 1) (number_at s.v r)) (number_at s.m (r * n + r))))) e ∙ q
  where
    same : (d : ℕ) → suc d - 1 ≡ d
    same d = omega arith

pub back_end : (s : System) (n d : ℕ) (x : List Float) → d ≡ 0 → back_on s n d x ≡ x
unfolding back_on
back_end s n d x e = ap (λ (d : ℕ). back_on s n d x) e

pub forward-start : (n : ℕ) (s : System) → forward_on n (n - 0) 0 s ≡ forward_on n n 0 s
forward-start n s = ap (λ (d : ℕ). forward_on n d 0 s) (native.Mathlib.Nat.sub-zero n)
