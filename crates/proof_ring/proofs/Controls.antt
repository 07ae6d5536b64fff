-- Rows of pictures of version 1's ring at pitch 1, as a drawing made outside from the request's text has them. Assumes nothing.
use mathlib.Core.Path.{◌≡◌, refl}
use mathlib.Core.Bool.{Bool, true, false}
use mathlib.Core.List.{List, [], ◌∷◌}
use Prim.Native.Nat.{ℕ}
use Rattle.laws.specs.Fold.{tab}
use Rattle.lcr_core.specs.Border.{edge_of, offset_of, on_edge, outer_x, outer_y, position_at}
use Rattle.lcr_core.specs.Mark.{mark, mark_at, ring_byte, row_start, rows_through}
use Rattle.lcr_core.specs.Ring.{ring_bytes}
use Rattle.proof_ring.specs.Picture.{carries, framed, grey_at, posed, ring_pixel, ring_square, turns}

-- row y of the picture, 31 pixels wide
row : ℕ → Bool → ℕ → List ℕ
row r reversed y = tab 31 (λ x. ring_pixel 1 1 r reversed x y)

-- the outer cells of the top edge, at corner 0, forwards
row-outer-0 : row 0 false 2 ≡
    255 ∷ 255 ∷ 0 ∷ 255 ∷ 0 ∷ 0 ∷ 255 ∷ 0 ∷ 255 ∷ 0 ∷ 0 ∷ 255 ∷ 255 ∷ 255 ∷ 0 ∷ 255 ∷ 255 ∷ 255 ∷ 0 ∷ 255 ∷ 255 ∷ 0 ∷ 0 ∷ 0 ∷
    255 ∷ 0 ∷ 255 ∷ 0 ∷ 0 ∷ 255 ∷ 255 ∷ []
unfolding row tab ring_pixel framed posed turns ring_square grey_at carries position_at edge_of offset_of on_edge outer_x outer_y mark mark_at
    ring_byte row_start rows_through ring_bytes
row-outer-0 = refl

-- the row of inner cells below them
row-inner-0 : row 0 false 3 ≡
    255 ∷ 255 ∷ 255 ∷ 255 ∷ 255 ∷ 0 ∷ 255 ∷ 255 ∷ 255 ∷ 255 ∷ 255 ∷ 255 ∷ 255 ∷ 255 ∷ 0 ∷ 255 ∷ 255 ∷ 255 ∷ 255 ∷ 255 ∷ 255 ∷
    255 ∷ 255 ∷ 0 ∷ 255 ∷ 255 ∷ 255 ∷ 255 ∷ 0 ∷ 255 ∷ 255 ∷ []
unfolding row tab ring_pixel framed posed turns ring_square grey_at carries position_at edge_of offset_of on_edge outer_x outer_y mark mark_at
    ring_byte row_start rows_through ring_bytes
row-inner-0 = refl

-- at corner 1
row-inner-1 : row 1 false 3 ≡
    255 ∷ 255 ∷ 255 ∷ 255 ∷ 255 ∷ 255 ∷ 255 ∷ 255 ∷ 0 ∷ 255 ∷ 255 ∷ 255 ∷ 255 ∷ 255 ∷ 255 ∷ 255 ∷ 255 ∷ 0 ∷ 255 ∷ 255 ∷ 255 ∷
    255 ∷ 255 ∷ 255 ∷ 255 ∷ 255 ∷ 0 ∷ 255 ∷ 255 ∷ 255 ∷ 255 ∷ []
unfolding row tab ring_pixel framed posed turns ring_square grey_at carries position_at edge_of offset_of on_edge outer_x outer_y mark mark_at
    ring_byte row_start rows_through ring_bytes
row-inner-1 = refl

-- at corner 0, reversed
row-inner-0-reversed : row 0 true 3 ≡
    255 ∷ 255 ∷ 255 ∷ 255 ∷ 0 ∷ 255 ∷ 255 ∷ 255 ∷ 255 ∷ 255 ∷ 255 ∷ 255 ∷ 255 ∷ 0 ∷ 255 ∷ 255 ∷ 255 ∷ 255 ∷ 255 ∷ 255 ∷ 255 ∷
    255 ∷ 0 ∷ 255 ∷ 255 ∷ 255 ∷ 255 ∷ 255 ∷ 255 ∷ 255 ∷ 255 ∷ []
unfolding row tab ring_pixel framed posed turns ring_square grey_at carries position_at edge_of offset_of on_edge outer_x outer_y mark mark_at
    ring_byte row_start rows_through ring_bytes
row-inner-0-reversed = refl

-- the outer cells of the bottom edge at corner 3, reversed
row-outer-3-reversed : row 3 true 28 ≡
    255 ∷ 255 ∷ 0 ∷ 255 ∷ 0 ∷ 0 ∷ 255 ∷ 0 ∷ 255 ∷ 0 ∷ 0 ∷ 255 ∷ 255 ∷ 255 ∷ 0 ∷ 255 ∷ 255 ∷ 255 ∷ 0 ∷ 255 ∷ 255 ∷ 0 ∷ 0 ∷ 0 ∷
    255 ∷ 0 ∷ 255 ∷ 0 ∷ 0 ∷ 255 ∷ 255 ∷ []
unfolding row tab ring_pixel framed posed turns ring_square grey_at carries position_at edge_of offset_of on_edge outer_x outer_y mark mark_at
    ring_byte row_start rows_through ring_bytes
row-outer-3-reversed = refl

-- the row after them
row-margin : row 2 true 29 ≡
    255 ∷ 255 ∷ 255 ∷ 255 ∷ 255 ∷ 255 ∷ 255 ∷ 255 ∷ 255 ∷ 255 ∷ 255 ∷ 255 ∷ 255 ∷ 255 ∷ 255 ∷ 255 ∷ 255 ∷ 255 ∷ 255 ∷ 255 ∷ 255 ∷
    255 ∷ 255 ∷ 255 ∷ 255 ∷ 255 ∷ 255 ∷ 255 ∷ 255 ∷ 255 ∷ 255 ∷ []
unfolding row tab ring_pixel framed posed turns ring_square grey_at carries position_at edge_of offset_of on_edge outer_x outer_y mark mark_at
    ring_byte row_start rows_through ring_bytes
row-margin = refl
