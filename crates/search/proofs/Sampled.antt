-- Samples, one after the other. Assumes nothing.
--   byte-asks, byte-is                 the byte at a place in the picture
--   sample_out, sample_in              a sum with a place outside, and with one inside
--   near-float, near-read, point-is    a cell's coordinates as f32, as read back, and its sample
--   five-is, outer-is, mean-some, mean-none   a cell's five samples, a position's outer cell, the mean
use Rattle.std.proofs.Common.{◌≡◌, ℕ, ◌+◌, ◌*◌, ◌<◌, ◌≤◌, Bool, true, false, cond, T, List, length, get_or, ℤ, pos, negsuc, sym, refl, ap, ◌∙◌, subst, mul-le-mul, arith, le→leb, lt→ltb, w32, to_z, of_z}
use lib.Ieee.{Float, nan, binary32, lt, div, of_int, of_bits, in_float, to_unsigned}
use Rattle.laws.proofs.Planes.{place-lt}
use Rattle.ieee.specs.Constants.{0f, 0·3, 0·7, 1f, 0·5}
use Rattle.transform.specs.Mapping.{applied}
use Rattle.transform.specs.declared.Transform.{Transform}
use Rattle.transform.specs.declared.Pixel.{Pixel}
use Rattle.lcr_core.specs.Border.{InRange, outer_cell}
use Rattle.lcr_core.specs.declared.border.Cell.{Cell}
use Rattle.lcr_core.proofs.Signed.{read}
use Rattle.fit.specs.F32.{◌⊕◌, ◌⊘◌, whole_float}
use Rattle.search.specs.Samples.{Photo, NearCell, outside, byte_at, add_sample, sample_point, sample_cell, mean_luma}
use Rattle.search.specs.Lumas.{no_sum, outer_sum}
use Rattle.search.specs.declared.samples.Sum.{Sum}
use Rattle.search.proofs.Pixels.{along-whole, along-x, along-y, inside-x, inside-y}

-- ---- the byte at a place
module _ (gray : List ℕ) (w h : ℕ) (p : Pixel) (f : Photo gray w h) (o : outside w h p ≡ false) (x y : ℕ) (cx : x ≡ to_unsigned 64 p.x)
    (cy : y ≡ to_unsigned 64 p.y) where
  ex : x ≡ to_unsigned 32 p.x
  ex = cx ∙ along-whole w p.x f.wide.1 (along-x w h p o)

  ey : y ≡ to_unsigned 32 p.y
  ey = cy ∙ along-whole h p.y f.high.1 (along-y w h p o)

  pub byte-asks : (y * w + x < length gray) × (length gray ≤ 16777216)
  byte-asks =
      let a = f.wide in
      let b = f.high in
      let e = f.bytes in
      let wide : x < w = subst (λ (z : ℕ). z < w) (sym ex) (inside-x w h p o a.0 a.1) in
      let high : y < h = subst (λ (z : ℕ). z < h) (sym ey) (inside-y w h p o b.0 b.1) in
      let z = place-lt x y w h wide high in
      let m : w * h ≤ 4096 * 4096 = mul-le-mul a.1 b.1 in
      (omega arith, omega arith)

  pub byte-is : get_or gray (y * w + x) 0 ≡ byte_at gray w p
  unfolding byte_at
  byte-is =
      ap (λ (z : ℕ). get_or gray (z * w + x) 0) ey ∙ ap (λ (z : ℕ). get_or gray (to_unsigned 32 p.y * w + z) 0) ex

module _ (gray : List ℕ) (w h : ℕ) (s : Sum) (p : Pixel) (b : Bool) (eb : b ≡ outside w h p) where
  abbrev more : ℕ → Sum
  more n = record { sum = s.sum ⊕ whole_float n; n = s.n ⊕ 1f }

  sample-by : (c : Bool) → b ≡ c → cond c s (more (byte_at gray w p)) ≡ add_sample gray w h s p
  unfolding add_sample
  sample-by c e = ap (λ (c : Bool). cond c s (more (byte_at gray w p))) (sym e ∙ eb)

  pub sample_out : b ≡ true → s ≡ add_sample gray w h s p
  sample_out e = sample-by true e

  pub sample_in : (n : ℕ) → b ≡ false → n ≡ byte_at gray w p → more n ≡ add_sample gray w h s p
  sample_in n e en = ap more en ∙ sample-by false e

-- ---- a cell's coordinates
small_float : (z : ℤ) → InRange z → T (in_float binary32 z)
unfolding in_float
small_float (pos n) h = let k : n < 32768 = h.within in le→leb n 16777216 (omega arith)
small_float (negsuc n) h = let k : n < 32768 = h.within in lt→ltb n 16777216 (omega arith)

pub near-float : (z : ℤ) → InRange z → T (in_float binary32 (to_z w32 (of_z w32 z)))
near-float z h = subst (λ (y : ℤ). T (in_float binary32 y)) (sym (read z h)) (small_float z h)

pub near-read : (z : ℤ) → InRange z → InRange (to_z w32 (of_z w32 z))
near-read z h = subst InRange (sym (read z h)) h

pub point-is : (gray : List ℕ) (w h : ℕ) (t : Transform) (cell : Cell) (du dv : Float) (s : Sum) (p : Pixel) (r : Sum) → NearCell cell
    → p ≡ applied t (of_int binary32 (to_z w32 (of_z w32 cell.x)) ⊕ du) (of_int binary32 (to_z w32 (of_z w32 cell.y)) ⊕ dv)
    → r ≡ add_sample gray w h s p → r ≡ sample_point gray w h t cell du dv s
unfolding sample_point
point-is gray w h t cell du dv s p r near ep er =
    er
    ∙ ap (add_sample gray w h s)
    (ep
    ∙ ap (λ (x : ℤ). applied t (of_int binary32 x ⊕ du) (of_int binary32 (to_z w32 (of_z w32 cell.y)) ⊕ dv)) (read cell.x near.across)
    ∙ ap (λ (y : ℤ). applied t (of_int binary32 cell.x ⊕ du) (of_int binary32 y ⊕ dv)) (read cell.y near.down))

module _ (gray : List ℕ) (w h : ℕ) (t : Transform) where
  pub five-is : (cell : Cell) (s a b c d r : Sum)
      → a ≡ sample_point gray w h t cell 0·5 0·5 s → b ≡ sample_point gray w h t cell 0·3 0·5 a
      → c ≡ sample_point gray w h t cell 0·7 0·5 b → d ≡ sample_point gray w h t cell 0·5 0·3 c
      → r ≡ sample_point gray w h t cell 0·5 0·7 d → r ≡ sample_cell gray w h t cell s
  unfolding sample_cell
  five-is cell s a b c d r ea eb ec ed er =
      let at : Float → Float → Sum → Sum = λ du dv s. sample_point gray w h t cell du dv s in
      er ∙ ap (at 0·5 0·7) (ed ∙ ap (at 0·5 0·3) (ec ∙ ap (at 0·7 0·5) (eb ∙ ap (at 0·3 0·5) ea)))

  pub outer-is : (v p : ℕ) (cell : Cell) (r : Sum) → cell ≡ outer_cell v p → r ≡ sample_cell gray w h t cell no_sum
      → r ≡ outer_sum gray w h t v p
  unfolding outer_sum
  outer-is v p cell r ec er = er ∙ ap (λ (c : Cell). sample_cell gray w h t c no_sum) ec

-- ---- the mean
mean-by : (s : Sum) (b : Bool) → lt 0f s.n ≡ b → cond b (s.sum ⊘ s.n) nan ≡ mean_luma s
unfolding mean_luma
mean-by s b e = sym (ap (λ (b : Bool). cond b (s.sum ⊘ s.n) nan) e)

pub mean-some : (s : Sum) → lt 0f s.n ≡ true → s.sum ⊘ s.n ≡ mean_luma s
mean-some s e = mean-by s true e

no_number : 0f ⊘ 0f ≡ nan
unfolding div of_bits
no_number = refl

pub mean-none : (s : Sum) → lt 0f s.n ≡ false → 0f ⊘ 0f ≡ mean_luma s
mean-none s e = no_number ∙ mean-by s false e
