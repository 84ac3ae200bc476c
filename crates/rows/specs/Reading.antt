-- A row of records read back as the lines that it stands for. Assumes nothing: these are definitions.
use Rattle.std.specs.Prelude.{ℕ, zero, suc, ◌+◌, List, [], ◌∷◌, ltb, get_or}
use Rattle.model.specs.Plan.{Lines, close, leaf_line, call_line, loop_line, if_line}
use Rattle.model.specs.Places.{pick}
use Rattle.rows.specs.Rows.{kind_at, detail_at, other_at, after_at, block_at}

-- A line by its kind.
unfoldable pub by_kind : ℕ → Lines → Lines → Lines → Lines → Lines
by_kind zero a b c d = a
by_kind (suc zero) a b c d = b
by_kind (suc (suc zero)) a b c d = c
by_kind (suc (suc (suc n))) a b c d = d

-- The lines that the records from i up to e stand for. (The fuel is more than the number of records.)
unfoldable pub lines_at : ℕ → List ℕ → ℕ → ℕ → Lines
lines_at zero w i e = close
lines_at (suc fuel) w i e =
    let as_leaf = leaf_line (block_at w i) (lines_at fuel w (after_at w i) e) in
    let as_call = call_line (block_at w i) (detail_at w i) (lines_at fuel w (after_at w i) e) in
    let as_loop = loop_line (block_at w i) (detail_at w i) (lines_at fuel w (i + 1) (after_at w i)) (lines_at fuel w (after_at w i) e) in
    let as_if =
    if_line (block_at w i) (lines_at fuel w (i + 1) (other_at w i)) (lines_at fuel w (other_at w i) (after_at w i)) (lines_at fuel w (after_at w i) e) in
    let line = by_kind (kind_at w i) as_leaf as_call as_loop as_if in
    pick (ltb i e) line close

-- The k functions from number f on, between their bounds.
unfoldable pub functions_at : List ℕ → List ℕ → ℕ → ℕ → List Lines
functions_at w bs f zero = []
functions_at w bs f (suc k) = lines_at 513 w (get_or bs f 0) (get_or bs (suc f) 0) ∷ functions_at w bs (suc f) k
