-- `text::put_number` meets its contract: by recursion on the number without its last digit. Measure: the number. Assumes nothing.
use Rattle.text.proofs.+put_number.Given as goal

abbrev pub decreases-put_number : goal.decreases-put_number
decreases-put_number l = l.n
