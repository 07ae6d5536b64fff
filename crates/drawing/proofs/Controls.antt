-- Closed cases, worked by hand: which pixels a line has. By computation. Assumes nothing.
use mathlib.Core.Path.{◌≡◌, refl}
use mathlib.Core.List.{[], ◌∷◌}
use lib.ListN.{replicate}
use Rattle.drawing.specs.Lines.{steps_of, line_point, dot_on, dots_on, line_on}

-- from (0, 0) to (5, 2) in 6 by 3: rows 0, 0.4, 0.8, 1.2, 1.6 and 2
slanted : line_on 6 3 (record { x = 32768; y = 32768 }) (record { x = 32773; y = 32770 }) 7 (replicate 18 0)
    ≡ 7 ∷ 7 ∷ 0 ∷ 0 ∷ 0 ∷ 0
    ∷ 0 ∷ 0 ∷ 7 ∷ 7 ∷ 0 ∷ 0
    ∷ 0 ∷ 0 ∷ 0 ∷ 0 ∷ 7 ∷ 7 ∷ []
unfolding line_on dots_on dot_on line_point steps_of
slanted = refl

-- from (2, 1) to (0, 0) in 3 by 2: a half is rounded up, whichever way the line goes
half_up : line_on 3 2 (record { x = 32770; y = 32769 }) (record { x = 32768; y = 32768 }) 7 (replicate 6 0)
    ≡ 7 ∷ 0 ∷ 0
    ∷ 0 ∷ 7 ∷ 7 ∷ []
unfolding line_on dots_on dot_on line_point steps_of
half_up = refl

-- from (-2, 1) to (4, 1) in 3 by 2: the pixels of row 1, and none of another row
through : line_on 3 2 (record { x = 32766; y = 32769 }) (record { x = 32772; y = 32769 }) 7 (replicate 6 0)
    ≡ 0 ∷ 0 ∷ 0
    ∷ 7 ∷ 7 ∷ 7 ∷ []
unfolding line_on dots_on dot_on line_point steps_of
through = refl

-- from (1, 1) to itself in 3 by 2
point : line_on 3 2 (record { x = 32769; y = 32769 }) (record { x = 32769; y = 32769 }) 7 (replicate 6 0)
    ≡ 0 ∷ 0 ∷ 0
    ∷ 0 ∷ 7 ∷ 0 ∷ []
unfolding line_on dots_on dot_on line_point steps_of
point = refl
