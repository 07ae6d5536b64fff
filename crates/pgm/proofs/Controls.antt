-- Closed cases of the reader, whose answers come from pgm(5) and pbm(5) by hand and from the reader in Python. Assumes nothing.
use mathlib.Core.Path.{◌≡◌, refl}
use mathlib.Core.List.{[], ◌∷◌}
use Rattle.pgm.specs.Form.{is_white, is_digit, is_line_end, bare, begins, past_white, past_digits, number_after, is_item, item_number, past_item, past_first, has_letters, has_form, file_width, file_height, file_maximum, file_start}
use Rattle.pgm.specs.Doors.{image, check_header, check_pixels, check_file, found, file_answer}
use Rattle.laws.specs.Said.{give, refuse}

pub record Cases : Type 0 where
  -- as the writer has it
  pub plain : file_answer (80 ∷ 53 ∷ 10 ∷ 49 ∷ 10 ∷ 49 ∷ 10 ∷ 50 ∷ 53 ∷ 53 ∷ 10 ∷ 65 ∷ []) ≡ give (image 1 1 11)
  -- the six kinds of white space; one byte of it ends the header
  pub white : file_answer (80 ∷ 53 ∷ 13 ∷ 11 ∷ 49 ∷ 9 ∷ 12 ∷ 49 ∷ 32 ∷ 50 ∷ 53 ∷ 53 ∷ 32 ∷ 65 ∷ []) ≡ give (image 1 1 13)
  -- leading zeros
  pub zeros : file_answer (80 ∷ 53 ∷ 32 ∷ 48 ∷ 49 ∷ 32 ∷ 48 ∷ 48 ∷ 49 ∷ 32 ∷ 48 ∷ 50 ∷ 53 ∷ 53 ∷ 32 ∷ 65 ∷ []) ≡ give (image 1 1 15)
  -- comments, also within a number: 2, 5, 5 is 255
  pub inside : file_answer (80 ∷ 53 ∷ 32 ∷ 49 ∷ 35 ∷ 10 ∷ 32 ∷ 49 ∷ 32 ∷ 50 ∷ 35 ∷ 99 ∷ 13 ∷ 53 ∷ 53 ∷ 35 ∷ 10 ∷ 32 ∷ 65 ∷ [])
      ≡ give (image 1 1 18)
  -- a comment counts for nothing: the width is 11, the height 255, and no maximum value follows
  pub glued : file_answer (80 ∷ 53 ∷ 32 ∷ 49 ∷ 35 ∷ 10 ∷ 49 ∷ 32 ∷ 50 ∷ 53 ∷ 53 ∷ 32 ∷ 65 ∷ []) ≡ refuse 14
  -- the newline of a comment does not end the header
  pub hidden : file_answer (80 ∷ 53 ∷ 32 ∷ 49 ∷ 32 ∷ 49 ∷ 32 ∷ 50 ∷ 53 ∷ 53 ∷ 35 ∷ 10 ∷ 65 ∷ []) ≡ refuse 14
  -- the letters are the first two bytes
  pub letters : file_answer (80 ∷ 35 ∷ 10 ∷ 53 ∷ 32 ∷ 49 ∷ 32 ∷ 49 ∷ 32 ∷ 50 ∷ 53 ∷ 53 ∷ 32 ∷ 65 ∷ []) ≡ refuse 14
  -- white space after the letters
  pub close : file_answer (80 ∷ 53 ∷ 49 ∷ 32 ∷ 49 ∷ 32 ∷ 50 ∷ 53 ∷ 53 ∷ 32 ∷ 65 ∷ []) ≡ refuse 14
  -- after the last white-space byte nothing is a comment
  pub pixel : file_answer (80 ∷ 53 ∷ 32 ∷ 49 ∷ 32 ∷ 49 ∷ 32 ∷ 50 ∷ 53 ∷ 53 ∷ 32 ∷ 35 ∷ []) ≡ give (image 1 1 11)
  -- another maximum value
  pub low : file_answer (80 ∷ 53 ∷ 32 ∷ 49 ∷ 32 ∷ 49 ∷ 32 ∷ 50 ∷ 53 ∷ 52 ∷ 32 ∷ 65 ∷ []) ≡ refuse 15
  -- 0 too
  pub none : file_answer (80 ∷ 53 ∷ 32 ∷ 49 ∷ 32 ∷ 49 ∷ 32 ∷ 48 ∷ 32 ∷ 65 ∷ []) ≡ refuse 15
  -- a side of 0
  pub empty : file_answer (80 ∷ 53 ∷ 32 ∷ 48 ∷ 32 ∷ 49 ∷ 32 ∷ 50 ∷ 53 ∷ 53 ∷ 32 ∷ 65 ∷ []) ≡ refuse 1
  -- a side above 4,096
  pub wide : file_answer (80 ∷ 53 ∷ 32 ∷ 52 ∷ 48 ∷ 57 ∷ 55 ∷ 32 ∷ 49 ∷ 32 ∷ 50 ∷ 53 ∷ 53 ∷ 32 ∷ 65 ∷ []) ≡ refuse 1
  -- too few pixels
  pub short : file_answer (80 ∷ 53 ∷ 32 ∷ 50 ∷ 32 ∷ 49 ∷ 32 ∷ 50 ∷ 53 ∷ 53 ∷ 32 ∷ 65 ∷ []) ≡ refuse 2
  -- bytes after the pixels
  pub longer : file_answer (80 ∷ 53 ∷ 32 ∷ 49 ∷ 32 ∷ 49 ∷ 32 ∷ 50 ∷ 53 ∷ 53 ∷ 32 ∷ 65 ∷ 66 ∷ 67 ∷ []) ≡ give (image 1 1 11)

pub cases : Cases
unfolding file_answer found check_file check_header check_pixels has_form has_letters file_width file_height file_maximum
    file_start is_item item_number past_item past_first begins past_white past_digits number_after bare is_white is_digit is_line_end
cases = record {
  plain = refl;
  white = refl;
  zeros = refl;
  inside = refl;
  glued = refl;
  hidden = refl;
  letters = refl;
  close = refl;
  pixel = refl;
  low = refl;
  none = refl;
  empty = refl;
  wide = refl;
  short = refl;
  longer = refl;
}
