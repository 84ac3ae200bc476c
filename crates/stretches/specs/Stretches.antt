-- The column of stretches, and what the calls among lines hand on to the functions that they name. Assumes nothing: these are definitions.
-- k is the cost that counts, ms are the totals of the functions at k, and `q f s` is the silence of the function f before s.
use Rattle.std.specs.Prelude.{List, ℕ, ◌+◌, max, zero, suc, ◌-◌, get_or, set, replicate}
use Rattle.std.proofs.lemmas.List.Edits.{sets}
use Rattle.model.specs.Plan.{Block, Lines, close, leaf_line, call_line, loop_line, if_line}
use Rattle.model.specs.Places.{pick}
use Rattle.model.specs.Static.{line_silence}
use Rattle.rows.specs.declared.PricedCode.{PricedCode}
use Rattle.rows.specs.Costs.{cost_in, lent_turns_in}
use Rattle.columns.specs.Columns.{ColumnRule, column_of}
use Rattle.columns.specs.Whole.{CodeSummed}

-- The stretch of the leaf b, which s follows, if it is a point; else 0.
abbrev pub leaf_stretch : (Block → ℕ) → Block → ℕ → ℕ
leaf_stretch k b s = pick b.point (k b + s) 0

-- The stretch of the first leaf, where x follows its form.
unfoldable pub first_stretch : (Block → ℕ) → List ℕ → (ℕ → ℕ → ℕ) → Lines → ℕ → ℕ
first_stretch k ms q close x = 0
first_stretch k ms q (leaf_line b r) x = leaf_stretch k b x
first_stretch k ms q (call_line b f r) x = leaf_stretch k b (q f x)
first_stretch k ms q (loop_line b n body r) x = leaf_stretch k b (max x (line_silence k ms body 0))
first_stretch k ms q (if_line b t e r) x = leaf_stretch k b (max (line_silence k ms t x) (line_silence k ms e x))

-- The column of stretches. Nothing follows the body of a loop: its condition is a point, or nothing inside is one.
abbrev pub stretch_rule : (Block → ℕ) → List ℕ → (ℕ → ℕ → ℕ) → ColumnRule
stretch_rule k ms q = record { next = line_silence k ms; value = first_stretch k ms q; inner = λ l x. 0 }

-- What follows each function, where s follows one call more of f: the larger of the two counts.
abbrev pub follow_call : List ℕ → ℕ → ℕ → List ℕ
follow_call a f s = set a f (max (get_or a f 0) s)

-- The same after all calls among lines, which s follows.
unfoldable pub follow_calls : (Block → ℕ) → List ℕ → Lines → ℕ → List ℕ → List ℕ
follow_calls k ms close s a = a
follow_calls k ms (leaf_line b r) s a = follow_calls k ms r s a
follow_calls k ms (call_line b f r) s a = follow_call (follow_calls k ms r s a) f (line_silence k ms r s)
follow_calls k ms (loop_line b n body r) s a = follow_calls k ms body 0 (follow_calls k ms r s a)
follow_calls k ms (if_line b t e r) s a = follow_calls k ms e (line_silence k ms r s) (follow_calls k ms t (line_silence k ms r s) (follow_calls k ms r s a))

-- What follows each function, as far as the j last of n functions call it; ms are the totals at the cost k.
unfoldable pub follows_after : (Block → ℕ) → List ℕ → (ℕ → Lines) → ℕ → ℕ → List ℕ
follows_after k ms F n zero = replicate 16 0
follows_after k ms F n (suc j) = follow_calls k ms (F (n - suc j)) (get_or (follows_after k ms F n j) (n - suc j) 0) (follows_after k ms F n j)

-- The column o, with the stretches at the cost k of the j last of n functions.
unfoldable pub stretches_written : (Block → ℕ) → List ℕ → (ℕ → ℕ → ℕ) → (ℕ → Lines) → List ℕ → ℕ → ℕ → List ℕ → List ℕ
stretches_written k ms q F starts n zero o = o
stretches_written k ms q F starts n (suc j) o =
    sets (stretches_written k ms q F starts n j o) (get_or starts (n - suc j) 0)
    (column_of (stretch_rule k ms q) (F (n - suc j)) (get_or (follows_after k ms F n j) (n - suc j) 0))

-- A code at a cost holds the functions of a plan, with their exact totals at that cost and, in the leaves, the exact sums of their loops' rounds.
abbrev pub PricedSummed : PricedCode → Type 0
PricedSummed a = CodeSummed (cost_in a.cost) a.code a.totals.now (lent_turns_in a.cost a.code.row.now)
