-- Which answers a call can give: a release and a report are refused or decided, an end is refused or closed.
-- Assumes nothing.
use mathlib.Core.Bool.{Bool, true, false}
use mathlib.Core.List.{List}
use mathlib.Core.Option.{Option, none, some}
use Prim.Native.Nat.{ℕ, ◌+◌}
use lib.Dec.{leb, ltb}
use Rattle.model.specs.Plan.{C, Plan, all_leaves}
use Rattle.model.specs.Forms.{main}
use Rattle.model.specs.Total.{total}
use Rattle.model.specs.Places.{pick}
use Rattle.model.specs.Stack.{Levels}
use Rattle.model.specs.declared.Call.{Call}
use Rattle.model.specs.declared.Call.TheVariants.{Release, Report, End}
use Rattle.model.specs.declared.Answer.{Answer}
use Rattle.model.specs.declared.Answer.TheVariants.{Refused, Decided, Closed}
use Rattle.model.specs.declared.Others.{Others}
use Rattle.model.specs.Calls as calls
use Rattle.model.specs.Controller as places
use Rattle.model.specs.Controller.{idle, running, next_levels, reached, respond}
use Rattle.rows.specs.declared.Leaf.{Leaf}
use Rattle.table.specs.declared.Head.{Head}
use Rattle.table.specs.Table.{Table, plan_of}
use Rattle.control.specs.declared.State as control
use Rattle.control.specs.Calls.{read_state, on_state, on_plan, call_on}
use Rattle.rolsipay.specs.declared.State.{State}
use Rattle.rolsipay.specs.Lent.{table_in}
use Rattle.rolsipay.specs.Calling.{state_of, called}
use Rattle.rolsipay.specs.Face.{is_end}

-- An end can give this answer, or a call that is none.
abbrev pub Gives : Bool → Answer → Type 0
Gives end (Refused k) = Unit
Gives true (Decided w r m late) = ⊥
Gives false (Decided w r m late) = Unit
Gives true (Closed w late) = Unit
Gives false (Closed w late) = ⊥

pick_gives : {S : Type 0} (end b : Bool) (x y : calls.Reply S) → Gives end x.answer → Gives end y.answer → Gives end (pick b x y).answer
pick_gives end true x y g h = g
pick_gives end false x y g h = h

reached_gives : (p : Plan) (x : places.State) (n t : ℕ) (others : Others) (o : Option Levels) → Gives false (reached p x n t others o).answer
reached_gives p x n t others none = tt
reached_gives p x n t others (some ls) = tt

-- The controller over places.
respond_gives : (p : Plan) (x : places.State) (c : Call) → Gives (is_end c) (respond p x c).answer
unfolding respond
respond_gives p idle Release = pick_gives false (leb (total C (main p) + p.switch) p.deadline) _ _ tt tt
respond_gives p idle (Report n t) = tt
respond_gives p idle (End t) = tt
respond_gives p (running x last others) Release = tt
respond_gives p (running x last others) (Report n t) =
    pick_gives false (places.is_point (all_leaves p.functions) n) _ _
    (pick_gives false (ltb t last) _ _ tt (reached_gives p (running x last others) n t others (next_levels p x n))) tt
respond_gives p (running x last others) (End t) =
    pick_gives true (ltb t last) _ _ tt (pick_gives true (places.can_close p x) _ _ tt tt)

-- The controller on a table.
state_gives : (p : Plan) (s : control.State) (c : Call) (o : Option places.State) → Gives (is_end c) (on_state p s c o).answer
state_gives p s c none = tt
state_gives p s c (some x) = respond_gives p x c

plan_gives : (s : control.State) (c : Call) (o : Option Plan) → Gives (is_end c) (on_plan s c o).answer
plan_gives s c none = tt
plan_gives s c (some p) = state_gives p s c (read_state p s)

table_gives : (t : Table) (s : control.State) (c : Call) → Gives (is_end c) (call_on t s c).answer
unfolding call_on
table_gives t s c = plan_gives s c (plan_of t)

-- The delivered calls.
pub called_gives : (ls : List Leaf) (h : Head) (s : State) (c : Call) → Gives (is_end c) (called ls h s c).answer
unfolding called
called_gives ls h s c = table_gives (table_in ls h) (state_of s) c
