-- Turns: what a round of each loop costs. Assumes nothing: these are definitions.
use Rattle.std.specs.Prelude.{ℕ, ◌+◌, List, [], ◌∷◌, ◌++◌}
use Rattle.model.specs.Plan.{Block, Lines, close, leaf_line, call_line, loop_line, if_line}
use Rattle.model.specs.Total.{tally}

-- Turn (001's w): the total of a round of the loop that the lines open with, its condition and one pass of its body; 0 for any other form.
-- k is the cost that counts, and ts are the totals of the functions at that cost.
abbrev pub turn : (Block → ℕ) → List ℕ → Lines → ℕ
turn k ts close = 0
turn k ts (leaf_line b rest) = 0
turn k ts (call_line b f rest) = 0
turn k ts (loop_line b n body rest) = k b + tally k ts body
turn k ts (if_line b then else rest) = 0

-- The turns of all leaves of lines, in text order.
unfoldable pub turns_in : (Block → ℕ) → List ℕ → Lines → List ℕ
turns_in k ts close = []
turns_in k ts (leaf_line b rest) = turn k ts (leaf_line b rest) ∷ turns_in k ts rest
turns_in k ts (call_line b f rest) = turn k ts (call_line b f rest) ∷ turns_in k ts rest
turns_in k ts (loop_line b n body rest) = turn k ts (loop_line b n body rest) ∷ (turns_in k ts body ++ turns_in k ts rest)
turns_in k ts (if_line b then else rest) = turn k ts (if_line b then else rest) ∷ (turns_in k ts then ++ (turns_in k ts else ++ turns_in k ts rest))
