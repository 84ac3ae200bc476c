-- `print::put_number`: the number's tenth is less. Assumes nothing.
use Rattle.print.proofs.+put_number.Given as goal

abbrev pub decreases-put_number : goal.decreases-put_number
decreases-put_number l = l.n
