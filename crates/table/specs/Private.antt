-- What the private functions promise. Nothing of this stands in the contracts of `read`, `judge` and `check`.
-- Assumes nothing: these are definitions.
use Rattle.std.specs.Prelude.{true, false, List, ◌≡◌, ℕ, zero, suc, ◌^◌, ◌≤◌, get_or, set, take, Option, Some, None}
use Rattle.model.specs.Plan.{resume_cost, Plan}
use Rattle.model.specs.Acceptance.{sizes}
use Rattle.model.specs.Words.{edition_number}
use Rattle.rows.specs.declared.Leaf.{Leaf}
use Rattle.rows.specs.Leaves.{lent_turns, lent_tails, lent_max_load_turns, blank_leaf}
use Rattle.reader.specs.declared.Raw.{Raw}
use Rattle.table.specs.declared.Head.{Head}
use Rattle.table.specs.declared.Derived.{Derived}
use Rattle.table.specs.Accepting.{short?}
use Rattle.table.specs.Table.{table_of, head_of, edition_of}

-- Deadline, switch cost and U are in range, number and U are those of an edition, and a lent row of so many leaves holds those of the plan, 512 at most.
pub record HeadRanged (room : ℕ) (h : Head) : Type 0 where
  pub deadline_low : 1 ≤ h.deadline
  pub deadline_high : h.deadline ≤ 2 ^ 40
  pub switch : h.switch ≤ 2 ^ 20
  pub resume_range : h.resume ≤ 2 ^ 20
  pub edition : h.edition ≡ edition_number (edition_of h.edition h.resume)
  pub resume : h.resume ≡ resume_cost (edition_of h.edition h.resume)
  pub few : h.leaves ≤ 512
  pub held : h.leaves ≤ room

-- The derived numbers, columns included, are those of the plan's table.
pub record DerivedNumbers (p : Plan) (d : Derived) (turns tails max_load_turns : List ℕ) : Type 0 where
  pub total : d.total ≡ (head_of p).total
  pub max_load_total : d.max_load_total ≡ (head_of p).max_load_total
  pub totals : d.totals ≡ (head_of p).totals
  pub max_load_totals : d.max_load_totals ≡ (head_of p).max_load_totals
  pub turns_are : take (sizes p.functions) turns ≡ (table_of p).turns
  pub tails_are : take (sizes p.functions) tails ≡ (table_of p).tails
  pub max_load_turns_are : take (sizes p.functions) max_load_turns ≡ (table_of p).max_load_turns

-- Rule 10 is kept, and these are the numbers; or it is not kept.
abbrev pub Derives : Plan → Option Derived → List ℕ → List ℕ → List ℕ → Type 0
Derives p (Some d) turns tails max_load_turns = (short? p ≡ true) × DerivedNumbers p d turns tails max_load_turns
Derives p None turns tails max_load_turns = short? p ≡ false

-- A row of leaves and a head have the derived numbers of the plan, which keeps rule 10.
pub record Agrees (p : Plan) (ls : List Leaf) (h : Head) : Type 0 where
  pub fits : short? p ≡ true
  pub total : h.total ≡ (head_of p).total
  pub max_load_total : h.max_load_total ≡ (head_of p).max_load_total
  pub totals : h.totals ≡ (head_of p).totals
  pub max_load_totals : h.max_load_totals ≡ (head_of p).max_load_totals
  pub turns_are : take h.leaves (lent_turns ls) ≡ (table_of p).turns
  pub tails_are : take h.leaves (lent_tails ls) ≡ (table_of p).tails
  pub max_load_turns_are : take h.leaves (lent_max_load_turns ls) ≡ (table_of p).max_load_turns

-- A leaf with these derived numbers in place of its own.
abbrev pub with_derived : Leaf → ℕ → ℕ → ℕ → Leaf
with_derived l turn tail max_load_turn =
    record {
      kind = l.kind;
      point = l.point;
      isolated = l.isolated;
      max_load = l.max_load;
      detail = l.detail;
      other = l.other;
      after = l.after;
      level = l.level;
      turn = turn;
      tail = tail;
      max_load_turn = max_load_turn;
    }

-- The leaves once the first n have the derived numbers of these columns.
abbrev pub filled : List ℕ → List ℕ → List ℕ → ℕ → List Leaf → List Leaf
filled turns tails max_load_turns zero ls = ls
filled turns tails max_load_turns (suc i) ls =
    let us = filled turns tails max_load_turns i ls in
    set us i (with_derived (get_or us i blank_leaf) (get_or turns i 0) (get_or tails i 0) (get_or max_load_turns i 0))

-- The head made of raw and derived numbers.
abbrev pub headed : Raw → Derived → Head
headed raw d =
    record {
      deadline = raw.deadline;
      switch = raw.switch;
      edition = edition_number raw.edition;
      resume = resume_cost raw.edition;
      total = d.total;
      max_load_total = d.max_load_total;
      leaves = raw.leaves;
      functions = raw.functions;
      bounds = raw.bounds;
      totals = d.totals;
      max_load_totals = d.max_load_totals;
    }
