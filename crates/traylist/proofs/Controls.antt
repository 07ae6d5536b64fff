-- Closed cases whose answers come from outside: the four lines of README's example, `quad none`, and the listing of a record that is short.
-- By computation. Assumes nothing.
use mathlib.Core.Path.{◌≡◌, refl}
use mathlib.Core.List.{[], ◌∷◌}
use Rattle.hull.specs.Points.{numbers_of}
use Rattle.text.specs.Text.{spelt, decimal, spaced, line_of}
use Rattle.traylist_text.specs.Listing.{regions_word, region_word, outline_word}
use Rattle.pgm.specs.Form.{has_letters}
use Rattle.tray.specs.Input.{check_input}
use Rattle.traylist_text.specs.Listing.{quad_line, text_by, text_of}

-- regions 1 1
regions-line : line_of regions_word (1 ∷ 1 ∷ [])
    ≡ 114 ∷ 101 ∷ 103 ∷ 105 ∷ 111 ∷ 110 ∷ 115 ∷ 32 ∷ 49 ∷ 32 ∷ 49 ∷ 10 ∷ []
unfolding line_of spaced decimal spelt
regions-line = refl

-- region 1 16 16 16 48 48
region-line : line_of region_word (1 ∷ 16 ∷ 16 ∷ 16 ∷ 48 ∷ 48 ∷ [])
    ≡ 114 ∷ 101 ∷ 103 ∷ 105 ∷ 111 ∷ 110 ∷ 32 ∷ 49 ∷ 32 ∷ 49 ∷ 54 ∷ 32 ∷ 49 ∷ 54 ∷ 32 ∷ 49 ∷ 54 ∷ 32 ∷ 52 ∷ 56 ∷ 32 ∷ 52 ∷ 56 ∷ 10 ∷ []
unfolding line_of spaced decimal spelt
region-line = refl

-- outline 128 8
outline-line : line_of outline_word (128 ∷ 8 ∷ [])
    ≡ 111 ∷ 117 ∷ 116 ∷ 108 ∷ 105 ∷ 110 ∷ 101 ∷ 32 ∷ 49 ∷ 50 ∷ 56 ∷ 32 ∷ 56 ∷ 10 ∷ []
unfolding line_of spaced decimal spelt
outline-line = refl

-- quad 32 33 95 32 96 95 33 96
quad-line : quad_line ((32, 33) ∷ (95, 32) ∷ (96, 95) ∷ (33, 96) ∷ [])
    ≡ 113 ∷ 117 ∷ 97 ∷ 100 ∷ 32 ∷ 51 ∷ 50 ∷ 32 ∷ 51 ∷ 51 ∷ 32 ∷ 57 ∷ 53 ∷ 32 ∷ 51 ∷ 50 ∷ 32 ∷ 57 ∷ 54 ∷ 32 ∷ 57 ∷ 53 ∷ 32 ∷ 51 ∷ 51 ∷
    32 ∷ 57 ∷ 54 ∷ 10 ∷ []
unfolding quad_line numbers_of line_of spaced decimal spelt
quad-line = refl

-- quad none
none-line : quad_line []
    ≡ 113 ∷ 117 ∷ 97 ∷ 100 ∷ 32 ∷ 110 ∷ 111 ∷ 110 ∷ 101 ∷ 10 ∷ []
unfolding quad_line line_of spaced decimal spelt
none-line = refl

-- refused 13: no bytes, and a head without its pixels
short-record : text_of []
    ≡ 114 ∷ 101 ∷ 102 ∷ 117 ∷ 115 ∷ 101 ∷ 100 ∷ 32 ∷ 49 ∷ 51 ∷ 10 ∷ []
unfolding text_of text_by check_input has_letters line_of spaced decimal spelt
short-record = refl

-- the same
cut_record : text_of (7 ∷ 0 ∷ 0 ∷ 0 ∷ 1 ∷ 0 ∷ 1 ∷ 0 ∷ 1 ∷ 0 ∷ [])
    ≡ 114 ∷ 101 ∷ 102 ∷ 117 ∷ 115 ∷ 101 ∷ 100 ∷ 32 ∷ 49 ∷ 51 ∷ 10 ∷ []
unfolding text_of text_by check_input has_letters line_of spaced decimal spelt
cut_record = refl
