-- The rows of the plans that 01 works through, with their bounds. Assumes nothing: these are definitions.
use Rattle.std.specs.Prelude.{ℕ, List, [], ◌∷◌}

-- Plan A: a leaf, a loop of three rounds around a silent leaf, a silent leaf.
abbrev pub row_A : List ℕ
row_A =
    0 ∷ 1 ∷ 5 ∷ 9 ∷ 0 ∷ 0 ∷ 1 ∷ 1 ∷
    2 ∷ 1 ∷ 2 ∷ 4 ∷ 3 ∷ 0 ∷ 3 ∷ 1 ∷
    0 ∷ 0 ∷ 10 ∷ 20 ∷ 0 ∷ 0 ∷ 3 ∷ 2 ∷
    0 ∷ 0 ∷ 6 ∷ 8 ∷ 0 ∷ 0 ∷ 4 ∷ 1 ∷ []

abbrev pub starts_A : List ℕ
starts_A = 0 ∷ 4 ∷ []

-- Plan B: function 0 is one leaf; the main function calls it in the then part of an if, and once more behind the if.
abbrev pub row_B : List ℕ
row_B =
    0 ∷ 1 ∷ 3 ∷ 4 ∷ 0 ∷ 0 ∷ 1 ∷ 1 ∷
    3 ∷ 1 ∷ 2 ∷ 3 ∷ 0 ∷ 3 ∷ 4 ∷ 1 ∷
    1 ∷ 1 ∷ 1 ∷ 2 ∷ 0 ∷ 0 ∷ 3 ∷ 1 ∷
    0 ∷ 0 ∷ 9 ∷ 10 ∷ 0 ∷ 0 ∷ 4 ∷ 1 ∷
    1 ∷ 1 ∷ 1 ∷ 2 ∷ 0 ∷ 0 ∷ 5 ∷ 1 ∷ []

abbrev pub starts_B : List ℕ
starts_B = 0 ∷ 1 ∷ 5 ∷ []
