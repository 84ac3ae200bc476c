-- The table of a plan, as numbers (01: 'a row of at most 512 leaf records .., with the deadline, costs and function bounds beside it'), and which
-- plan a table is of.
-- Assumes nothing: these are definitions.
use Rattle.std.specs.Prelude.{Bool, true, false, ◌&&◌, List, [], ◌∷◌, ◌++◌, map, ℕ, ◌*◌, eqb, length, take}
use Rattle.std.proofs.Math.Option.{Option, none, some}
use Rattle.model.specs.declared.Edition.{Edition}
use Rattle.model.specs.declared.Edition.TheVariants.{First, Second}
use Rattle.model.specs.Plan.{Block, C, M, Lines, resume_cost, Plan, leaves}
use Rattle.model.specs.Forms.{main}
use Rattle.model.specs.Total.{total, tallies}
use Rattle.model.specs.Tail.{tail}
use Rattle.model.specs.Acceptance.{sizes}
use Rattle.model.specs.Places.{pick}
use Rattle.model.specs.Words.{edition_number}
use Rattle.rows.specs.Records.{row_of, bounds_of}
use Rattle.reader.specs.Raw.{padded}
use Rattle.rows.specs.Reading.{functions_at}
use Rattle.rows.specs.Turns.{turns_in}
use Rattle.table.specs.declared.Head.{Head}
use Rattle.table.specs.Accepting.{accepted?}

-- The raw row, eight numbers for each leaf; three derived columns, one number for each leaf; and what stands beside them.
pub record Table : Type 0 where
  pub row : List ℕ
  pub turns : List ℕ
  pub tails : List ℕ
  pub max_load_turns : List ℕ
  pub head : Head

-- THE TABLE OF A PLAN

-- Turns (rows/specs/Turns) of all leaves at the cost k, in text order; ts are the totals of the functions at that cost.
unfoldable pub all_turns : (Block → ℕ) → List ℕ → List Lines → List ℕ
all_turns k ts [] = []
all_turns k ts (l ∷ ls) = turns_in k ts l ++ all_turns k ts ls

-- Tails (01) of all leaves, in text order; ts are the isolated totals of the functions. Tail: from a first visit of the leaf to the end of its own function.
unfoldable pub all_tails : List ℕ → List Lines → List ℕ
all_tails ts [] = []
all_tails ts (l ∷ ls) = map (λ b. tail ts b.number l 0) (leaves l) ++ all_tails ts ls

-- What stands beside the row: D, T, the edition's number and its U, both totals, how many leaves and functions there are, the functions' bounds, and their
-- totals at both costs. What 16 functions would need is filled up with 0.
abbrev pub head_of : Plan → Head
head_of p =
    record {
      deadline = p.deadline;
      switch = p.switch;
      edition = edition_number p.edition;
      resume = resume_cost p.edition;
      total = total C (main p);
      max_load_total = total M (main p);
      leaves = sizes p.functions;
      functions = length p.functions;
      bounds = padded 17 (bounds_of p);
      totals = padded 16 (tallies C [] p.functions);
      max_load_totals = padded 16 (tallies M [] p.functions);
    }

abbrev pub table_of : Plan → Table
table_of p =
    record {
      row = row_of p;
      turns = all_turns C (tallies C [] p.functions) p.functions;
      tails = all_tails (tallies C [] p.functions) p.functions;
      max_load_turns = all_turns M (tallies M [] p.functions) p.functions;
      head = head_of p;
    }

-- THE PLAN OF A TABLE

-- The edition with this number and this U; a number that is not 2 is read as that of edition 1, and `same_head` tells whether it is.
abbrev pub edition_of : ℕ → ℕ → Edition
edition_of n u = pick (eqb n 2) (Second u) First

-- The plan that a table stands for, if it is one's.
abbrev pub plan_at : Table → Plan
plan_at t =
    record {
      deadline = t.head.deadline;
      switch = t.head.switch;
      edition = edition_of t.head.edition t.head.resume;
      functions = functions_at t.row t.head.bounds 0 t.head.functions;
    }

-- The same numbers, the same heads, and the same tables.
unfoldable pub same_numbers : List ℕ → List ℕ → Bool
same_numbers [] [] = true
same_numbers [] (m ∷ v) = false
same_numbers (n ∷ u) [] = false
same_numbers (n ∷ u) (m ∷ v) = eqb n m && same_numbers u v

abbrev pub same_head : Head → Head → Bool
same_head h k =
    (eqb h.deadline k.deadline && (eqb h.switch k.switch && (eqb h.edition k.edition && eqb h.resume k.resume))) &&
    ((eqb h.total k.total && (eqb h.max_load_total k.max_load_total && (eqb h.leaves k.leaves && eqb h.functions k.functions))) &&
    (same_numbers h.bounds k.bounds && (same_numbers h.totals k.totals && same_numbers h.max_load_totals k.max_load_totals)))

abbrev pub same_table : Table → Table → Bool
same_table t u =
    same_numbers t.row u.row && (same_numbers t.turns u.turns && (same_numbers t.tails u.tails &&
    (same_numbers t.max_load_turns u.max_load_turns && same_head t.head u.head)))

-- The plan of a table: the one that it stands for, if that is accepted and this is its table. 01, refusal 11: 'the table is that of no accepted plan'
-- where there is none.
abbrev pub plan_of : Table → Option Plan
plan_of t = pick (accepted? (plan_at t) && same_table t (table_of (plan_at t))) (some (plan_at t)) none

-- Whether there is one.
abbrev pub found : Option Plan → Bool
found none = false
found (some p) = true

abbrev pub good : Table → Bool
good t = found (plan_of t)

-- THE TABLE IN LENT MEMORY

-- A head of zeros.
abbrev pub zero_head : Head
zero_head =
    record {
      deadline = 0;
      switch = 0;
      edition = 0;
      resume = 0;
      total = 0;
      max_load_total = 0;
      leaves = 0;
      functions = 0;
      bounds = padded 17 [];
      totals = padded 16 [];
      max_load_totals = padded 16 [];
    }

-- The table of the first records in these lists, as many as the head says.
abbrev pub table_at : List ℕ → List ℕ → List ℕ → List ℕ → Head → Table
table_at row turns tails max_load_turns h =
    record {
      row = take (h.leaves * 8) row;
      turns = take h.leaves turns;
      tails = take h.leaves tails;
      max_load_turns = take h.leaves max_load_turns;
      head = h;
    }
