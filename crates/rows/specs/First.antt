-- The first form of lines, and the others. Assumes nothing: these are definitions.
use Rattle.model.specs.Plan.{Lines, close, leaf_line, call_line, loop_line, if_line}

-- The lines after the first form.
unfoldable pub rest : Lines → Lines
rest close = close
rest (leaf_line b r) = r
rest (call_line b f r) = r
rest (loop_line b n body r) = r
rest (if_line b t e r) = r
