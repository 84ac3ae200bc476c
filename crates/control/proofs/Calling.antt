-- The calls on lent memory, by whether it is the table of an accepted plan and whether a release is open. Assumes nothing.
use mathlib.Core.Bool.{false}
use mathlib.Core.List.{List}
use mathlib.Core.Option.{Option, none, some}
use mathlib.Core.Path.{◌≡◌, refl, ap, sym, ◌∙◌}
use Prim.Native.Nat.{ℕ}
use native.Mathlib.Omega.{arith}
use lib.ListN.{take}
use Rattle.std.proofs.lemmas.List.{take-map}
use Rattle.model.specs.declared.Refusal.TheVariants.{Broken}
use Rattle.model.specs.Calls.{refuse}
use Rattle.model.specs.Plan.{Plan}
use Rattle.model.specs.Stack.{Levels}
use Rattle.model.specs.declared.Call.{Call}
use Rattle.rows.specs.declared.Code.{Code}
use Rattle.rows.specs.declared.Leaf.{Leaf}
use Rattle.rows.specs.Leaves.{lent_turns, lent_tails, lent_max_load_turns}
use Rattle.table.specs.declared.Head.{Head}
use Rattle.table.specs.Table.{Table, table_of, plan_of, found, good}
use Rattle.table.specs.Lent.{table_with}
use Rattle.control.specs.declared.LentPlan.{LentPlan}
use Rattle.control.specs.declared.OpenRelease.{OpenRelease}
use Rattle.control.specs.declared.State.{State}
use Rattle.control.specs.State.{standing}
use Rattle.control.specs.Calls.{read_state, on_state, on_plan, call_on}
use Rattle.table.proofs.Codes.{Owned, lent_code}
use Rattle.control.specs.Private.{WholeTable, GoodState}

-- A release that does not stand anywhere stands at no levels.
pub not_standing : (p : Plan) (o : OpenRelease) → (GoodState p o → ⊥) → standing p o ≡ none
not_standing p o h = by (standing p o) refl
  where
    by : (q : Option Levels) → standing p o ≡ q → q ≡ none
    by none e = refl
    by (some ls) e = absurd (h (ls, e))

module _ (row : List Leaf) (h : Head) where
  abbrev t : Table
  t = table_with row h

  -- A table that the check finds bad.
  pub bad_table : good t ≡ false → (s : State) (c : Call) → call_on t s c ≡ refuse s Broken
  unfolding call_on
  bad_table e s c = by (plan_of t) refl e
    where
      by : (o : Option Plan) → plan_of t ≡ o → found o ≡ false → on_plan s c o ≡ refuse s Broken
      by none z e = refl
      by (some p) z e = absurd (let y : ◌≡◌ {A = ℕ} 0 1 = cc in omega arith)

module _ {row : List Leaf} {h : Head} (o : Owned row h) where
  -- Its code, and the max-load turns in it.
  module _ (c : Code) (r : c.row.now ≡ take h.leaves row) where
    pub lent_loads : lent_max_load_turns c.row.now ≡ (table_of o.plan).max_load_turns
    lent_loads =
        ap lent_max_load_turns r ∙
        (sym (take-map (λ (f : Leaf). f.max_load_turn) h.leaves row) ∙ ap (λ (u : Table). u.max_load_turns) o.table_is)

  -- What is lent of it.
  abbrev pub lent_whole : (l : LentPlan) → l.code.row.now ≡ take h.leaves row → l.code.bounds.now ≡ h.bounds → l.code.functions ≡ h.functions → l.head.now ≡ h → WholeTable l
  lent_whole l r b n e =
      let i = o.table_is in
      record {
        costed = record {
          rowed = record {
            head = record { plan = o.plan; accepted = o.accepted; is = e ∙ ap (λ (u : Table). u.head) i };
            code_is = lent_code o l.code r b n;
          };
          turns_are = ap lent_turns r ∙ (sym (take-map (λ (f : Leaf). f.turn) h.leaves row) ∙ ap (λ (u : Table). u.turns) i);
          tails_are = ap lent_tails r ∙ (sym (take-map (λ (f : Leaf). f.tail) h.leaves row) ∙ ap (λ (u : Table). u.tails) i);
        };
        max_load_turns_are = lent_loads l.code r;
      }

  -- A call on it.
  pub on_owned : (s : State) (c : Call) → call_on (table_with row h) s c ≡ on_state o.plan s c (read_state o.plan s)
  unfolding call_on
  on_owned s c = ap (λ x. on_plan s c x) o.found_is
