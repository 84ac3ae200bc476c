-- What `read_raw` and `read_lines` answer, and what they leave in the lent row, from what the reader is to make of the text.
-- Assumes nothing: these are definitions.
use Rattle.std.specs.Prelude.{ℕ, zero, suc, List, [], ◌∷◌, ◌≡◌, length, Result, Ok, Err}
use Rattle.std.proofs.lemmas.List.Edits.{sets}
use Rattle.model.specs.declared.Edition.{Edition}
use Rattle.model.specs.Acceptance.{sizes}
use Rattle.reader.specs.declared.RefusedAt.{RefusedAt}
use Rattle.reader.specs.declared.Raw.{Raw}
use Rattle.reader.specs.Outcome.{Outcome, plan, refused}
use Rattle.rows.specs.declared.Leaf.{Leaf}
use Rattle.rows.specs.Leaves.{lent_turns, lent_tails, lent_max_load_turns}
use Rattle.rows.specs.Records.{row_of, bounds_of}
use Rattle.reader.specs.Records.{heights_of}

-- The first so many numbers of a list, filled up with 0.
abbrev pub padded : ℕ → List ℕ → List ℕ
padded zero xs = []
padded (suc n) [] = 0 ∷ padded n []
padded (suc n) (x ∷ xs) = x ∷ padded n xs

-- What is read of a text in which a plan is found, with its numbers.
abbrev pub raw_with : ℕ → ℕ → Edition → ℕ → ℕ → List ℕ → List ℕ → Raw
raw_with D t u n count bs hs = record { deadline = D; switch = t; edition = u; leaves = n; functions = count; bounds = bs; heights = hs }

-- A plan is accepted, with D, T, its edition, the number of its leaves and functions, the functions' bounds and their heights; a refusal is refused, at its
-- line.
abbrev pub raw_of : Outcome → Result Raw RefusedAt
raw_of (refused k j) = Err (record { refusal = k; line = j })
raw_of (plan p) = Ok (raw_with p.deadline p.switch p.edition (sizes p.functions) (length p.functions) (padded 17 (bounds_of p)) (padded 16 (heights_of p)))

-- The lent row afterwards: a plan's records stand at its beginning, and what is behind them is kept; a refusal keeps all of it.
abbrev pub row_left : Outcome → List ℕ → List ℕ
row_left (refused k j) row = row
row_left (plan p) row = sets row 0 (row_of p)

-- The same of a row R₀ that becomes R, but of a refused text nothing is said.
abbrev pub Written : Outcome → List ℕ → List ℕ → Type 0
Written (refused k j) R₀ R = Unit
Written (plan p) R₀ R = R ≡ sets R₀ 0 (row_of p)

-- The columns of a row of leaves that are derived from a plan, which reading leaves as they are: its turns, tails and max-load turns.
abbrev pub derived : List Leaf → List ℕ × List ℕ × List ℕ
derived ls = (lent_turns ls, lent_tails ls, lent_max_load_turns ls)
