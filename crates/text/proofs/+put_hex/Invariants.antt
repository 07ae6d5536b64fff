-- `text::put_hex` meets its contract: by recursion on the digits but the last. Measure: how many digits. Assumes nothing.
use Rattle.text.proofs.+put_hex.Given as goal

abbrev pub decreases-put_hex : goal.decreases-put_hex
decreases-put_hex l = l.digits
