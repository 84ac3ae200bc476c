-- The records of a plan in a row, in text order, and beside the row the functions' bounds. Every unused field is 0, so that a plan has exactly one row.
-- Assumes nothing: these are definitions.
use Rattle.std.specs.Prelude.{ℕ, ◌+◌, List, [], ◌∷◌, ◌++◌}
use Rattle.model.specs.Plan.{Block, Lines, close, leaf_line, call_line, loop_line, if_line, Plan}
use Rattle.model.specs.Acceptance.{size}
use Rattle.model.specs.Places.{bit}

-- The record of a leaf: its fields, in the order of Rows.
abbrev pub entry : ℕ → Block → ℕ → ℕ → ℕ → ℕ → List ℕ
entry kind b detail other after level = kind ∷ bit b.point ∷ b.isolated ∷ b.max_load ∷ detail ∷ other ∷ after ∷ level ∷ []

-- The records of forms at level L whose first leaf is number n.
unfoldable pub records : ℕ → Lines → ℕ → List ℕ
records L close n = []
records L (leaf_line b rest) n = entry 0 b 0 0 (n + 1) L ++ records L rest (n + 1)
records L (call_line b f rest) n = entry 1 b f 0 (n + 1) L ++ records L rest (n + 1)
records L (loop_line b m body rest) n =
    entry 2 b m 0 (n + 1 + size body) L ++ (records (L + 1) body (n + 1) ++ records L rest (n + 1 + size body))
records L (if_line b then else rest) n =
    entry 3 b 0 (n + 1 + size then) (n + 1 + size then + size else) L
    ++ (records L then (n + 1) ++ (records L else (n + 1 + size then) ++ records L rest (n + 1 + size then + size else)))

-- The records of functions, the first leaf being number n; a function's own forms have level 1.
unfoldable pub records_all : ℕ → List Lines → List ℕ
records_all n [] = []
records_all n (l ∷ ls) = records 1 l n ++ records_all (n + size l) ls

-- The function bounds: the number of each function's first leaf, and last the number of leaves.
unfoldable pub bounds : ℕ → List Lines → List ℕ
bounds n [] = n ∷ []
bounds n (l ∷ ls) = n ∷ bounds (n + size l) ls

-- The row and the bounds of a plan.
abbrev pub row_of : Plan → List ℕ
row_of p = records_all 0 p.functions

abbrev pub bounds_of : Plan → List ℕ
bounds_of p = bounds 0 p.functions
