-- Totals of forms that lie in a row of numbers. Assumes nothing: these are definitions.
use Rattle.std.specs.Prelude.{List, ℕ, ◌+◌, ◌*◌, max, min, get_or}
use Rattle.model.specs.Plan.{Block, Lines, close, leaf_line, call_line, loop_line, if_line}
use Rattle.model.specs.Total.{tally}

-- 2^41: sums are held there, so that none wraps.
abbrev pub ceiling : ℕ
ceiling = 2199023255552

-- The number n, held at the ceiling. It is over the limit exactly when n is.
abbrev pub cap : ℕ → ℕ
cap n = min n 2199023255552

-- The total of the first form alone; ts are the totals of the functions.
unfoldable pub lead : (Block → ℕ) → List ℕ → Lines → ℕ
lead k ts close = 0
lead k ts (leaf_line b r) = k b
lead k ts (call_line b f r) = k b + get_or ts f 0
lead k ts (loop_line b n body r) = k b + n * (tally k ts body + k b)
lead k ts (if_line b t e r) = k b + max (tally k ts t) (tally k ts e)
