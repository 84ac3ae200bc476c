-- Reading a plan whole (01, 'Calls'): 1; then line by line, in a line 2, 3, 4, 5, 19, 6, 7; then 8, 9, 10, with line 0.
-- Assumes nothing: these are definitions.
use Rattle.std.specs.Prelude.{List, [], ◌≡◌, ℕ, ◌-◌, ◌*◌, length, take, Result, Ok, Err}
use Rattle.model.specs.declared.Refusal.TheVariants.{Unseen, Uncalled, Long}
use Rattle.model.specs.Plan.{Plan}
use Rattle.model.specs.Acceptance.{sizes, Formed}
use Rattle.model.specs.Places.{pick}
use Rattle.reader.specs.declared.RefusedAt.{RefusedAt}
use Rattle.reader.specs.declared.Raw.{Raw}
use Rattle.reader.specs.Machine.{outcome}
use Rattle.reader.specs.Outcome.{Outcome, plan, refused}
use Rattle.reader.specs.Raw.{raw_of}
use Rattle.rows.specs.declared.Leaf.{Leaf}
use Rattle.rows.specs.Leaves.{numbers}
use Rattle.rows.specs.Records.{row_of}
use Rattle.table.specs.declared.Head.{Head}
use Rattle.table.specs.Accepting.{seen_all?, called_from?, short?}
use Rattle.table.specs.Table.{head_of, table_of}

-- Unseen (8), uncalled (9), long (10), in this order, of a plan whose lines were read.
abbrev pub judged : Plan → Outcome
judged p =
    pick (seen_all? [] p.functions)
    (pick (called_from? p.functions 0 (length p.functions - 1))
    (pick (short? p) (plan p) (refused Long 0))
    (refused Uncalled 0))
    (refused Unseen 0)

abbrev pub after_lines : Outcome → Outcome
after_lines (plan p) = judged p
after_lines (refused k j) = refused k j

-- What reading a text into a lent row of so many records answers: the plan, or a refusal's number and line.
abbrev pub verdict : ℕ → List ℕ → Outcome
verdict row text = after_lines (outcome row text)

-- What `read` gives: the head of a plan that is accepted; of a refused text no head, but the refusal and its line.
abbrev pub result_of : Outcome → Result Head RefusedAt
result_of (plan p) = Ok (head_of p)
result_of (refused k j) = Err (record { refusal = k; line = j })

-- A lent head afterwards: the plan's; a refusal keeps it.
abbrev pub head_after : Outcome → Head → Head
head_after (plan p) h = head_of p
head_after (refused k j) h = h

-- BEHIND THE LINES

-- The lines of a text were read with the outcome o: they gave its raw numbers or its refusal, and a plan keeps rules 3 to 7 and 19 and begins the row.
pub record RawOf (o : Outcome) (lines : Result Raw RefusedAt) (row : List Leaf) : Type 0 where
  pub raw_is : lines ≡ raw_of o
  pub formed : (p : Plan) → o ≡ plan p → Formed p
  pub row_is : (p : Plan) → o ≡ plan p → take (sizes p.functions * 8) (numbers row) ≡ row_of p

-- The columns of an accepted plan begin these lists.
pub record ColumnsWritten (o : Outcome) (turns tails max_load_turns : List ℕ) : Type 0 where
  pub turns_are : (p : Plan) → o ≡ plan p → take (sizes p.functions) turns ≡ (table_of p).turns
  pub tails_are : (p : Plan) → o ≡ plan p → take (sizes p.functions) tails ≡ (table_of p).tails
  pub max_load_turns_are : (p : Plan) → o ≡ plan p → take (sizes p.functions) max_load_turns ≡ (table_of p).max_load_turns
