-- The checks of a picture that the program takes, with the lists that it lends.
--   cells-few, grids-few, points-few, pixels-few      how many cells of 16 and of 8 pixels a side it has, numbers of points, and pixels
--   taken-passes, answer-taken                        no check refuses, and the answer
--   part-taken                                        the pixels of a file that has been read
-- Assumes nothing.
use mathlib.Core.Path.{◌≡◌, sym, ap, ◌∙◌}
use mathlib.Core.List.{List}
use Prim.Native.Nat.{ℕ, ◌+◌, ◌-◌, ◌*◌, ◌≤◌}
use native.Mathlib.Nat.{mul-le-mul}
use native.Mathlib.Omega.{arith}
use lib.ListN.{length, take, drop, length-take, length-drop}
use borrow.Author.Tests.{le-leb, eq-eqb}
use Rattle.levels.specs.Level.{cells}
use Rattle.labels.specs.Cells.{cells8, cells_of}
use Rattle.region_outline.specs.Region.{need_of}
use Rattle.finder.specs.Find.{check_find}
use Rattle.tray.specs.Input.{FileAt}
use Rattle.tag_list.specs.Tags.{tags_by}
use Rattle.laws.specs.Said.{Said}
use Rattle.tag_list.specs.declared.tag.Tags.{Tags}
use Rattle.tags.specs.Taken.{TagsPicture}

module _ (w h : ℕ) (wide : w ≤ 2048) (high : h ≤ 2048) where
  cells-few : cells w * cells h ≤ 16384
  cells-few =
      let a : cells w ≤ 128 = omega arith in
      let b : cells h ≤ 128 = omega arith in
      mul-le-mul {n₁ = cells w} {m₁ = cells h} {n₂ = 128} {m₂ = 128} a b

  grids-few : cells_of w h ≤ 65536
  grids-few =
      let a : cells8 w ≤ 256 = omega arith in
      let b : cells8 h ≤ 256 = omega arith in
      mul-le-mul {n₁ = cells8 h} {m₁ = cells8 w} {n₂ = 256} {m₂ = 256} b a

  points-few : need_of w h ≤ 16384
  points-few = omega arith

  pub pixels-few : w * h ≤ 4194304
  pixels-few = mul-le-mul {n₁ = w} {m₁ = h} {n₂ = 2048} {m₂ = 2048} wide high

pub taken-passes : (w h bytes : ℕ) → TagsPicture w h bytes → check_find w h bytes 16384 65536 65536 16384 16384 16384 16384 64 ≡ 0
taken-passes w h bytes t =
    rw (
      le-leb 1 w t.some_wide,
      le-leb w 4096 (omega (arith, t.wide)),
      le-leb 1 h t.some_high,
      le-leb h 4096 (omega (arith, t.high)),
      eq-eqb bytes (w * h) t.count,
      le-leb (cells w * cells h) 16384 (cells-few w h t.wide t.high),
      le-leb (cells_of w h) 65536 (grids-few w h t.wide t.high),
      le-leb (need_of w h) 16384 (points-few w h t.wide t.high),
    )

pub part-taken : (s : List ℕ) (w h at : ℕ) → FileAt 2048 s w h at → TagsPicture w h (length (take (at + w * h - at) (drop at s)))
part-taken s w h at f = record {
  some_wide = f.some_wide;
  wide = f.wide;
  some_high = f.some_high;
  high = f.high;
  count = simp (length-take, length-drop) (omega (arith, f.within));
}

-- the answer with lists of these lengths
pub answer-taken : (gray : List ℕ) (w h : ℕ) → TagsPicture w h (length gray) → (r : Said Tags) {a b c d e f g : ℕ} → 16384 ≡ a → 65536 ≡ b → 65536
    ≡ c
    → 16384 ≡ d → 16384 ≡ e → 16384 ≡ f → 16384 ≡ g → r ≡ tags_by (check_find w h (length gray) a b c d e f g 64) gray w h 64
    → r ≡ tags_by 0 gray w h 64
answer-taken gray w h t r x1 x2 x3 x4 x5 x6 x7 is =
    is ∙ ap (λ (n : ℕ). tags_by n gray w h 64) (rw (sym x1, sym x2, sym x3, sym x4, sym x5, sym x6, sym x7) (taken-passes w h (length
    gray) t))
