-- The row of leaf records that the caller lends (01: 'The table is a row of at most 512 leaf records lent by the caller, with the deadline, costs and
-- function bounds beside it'), as numbers: its raw row, and the columns derived from it.
-- Assumes nothing: these are definitions.
use Rattle.std.specs.Prelude.{List, [], ◌∷◌, ◌++◌, map, ℕ}
use Rattle.rows.specs.declared.Leaf.{Leaf}

-- The eight numbers of a leaf that are read from the plan, in the order of a record of the raw row.
abbrev pub fields : Leaf → List ℕ
fields l = l.kind ∷ l.point ∷ l.isolated ∷ l.max_load ∷ l.detail ∷ l.other ∷ l.after ∷ l.level ∷ []

-- The raw row of these leaves.
abbrev pub numbers : List Leaf → List ℕ
numbers [] = []
numbers (l ∷ ls) = fields l ++ numbers ls

-- The turns, tails and max-load turns that stand in these leaves.
abbrev pub lent_turns : List Leaf → List ℕ
lent_turns ls = map (λ (l : Leaf). l.turn) ls

abbrev pub lent_tails : List Leaf → List ℕ
lent_tails ls = map (λ (l : Leaf). l.tail) ls

abbrev pub lent_max_load_turns : List Leaf → List ℕ
lent_max_load_turns ls = map (λ (l : Leaf). l.max_load_turn) ls

-- What is taken for a leaf past the end of a row.
abbrev pub blank_leaf : Leaf
blank_leaf =
    record { kind = 0; point = 0; isolated = 0; max_load = 0; detail = 0; other = 0; after = 0; level = 0; turn = 0; tail = 0; max_load_turn = 0 }
