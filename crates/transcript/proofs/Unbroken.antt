-- On the table of an accepted plan no line of a log is refused by 11: the states on the way stand for those of the controller over places, which never refuses
-- so. Assumes nothing.
use mathlib.Core.Bool.{Bool, true, false}
use mathlib.Core.List.{List, [], ◌∷◌}
use mathlib.Core.Option as places
use mathlib.Core.Option.{none, some}
use mathlib.Core.Path.{◌≡◌, refl, sym, ap, ◌∙◌}
use Prim.Native.Nat.{ℕ, ◌+◌}
use native.Mathlib.Omega.{arith}
use lib.Dec.{leb, ltb}
use Rattle.model.specs.declared.Refusal.{Refusal}
use Rattle.model.specs.declared.Refusal.TheVariants.{Broken, Busy, Unfit, Idle, Stranger, Backward, Astray, Garbled}
use Rattle.model.specs.Refusals.{number_of}
use Rattle.model.specs.Plan.{C, Plan, all_leaves}
use Rattle.model.specs.Forms.{main}
use Rattle.model.specs.Total.{total}
use Rattle.model.specs.Acceptance.{Accepted}
use Rattle.model.specs.Places.{pick}
use Rattle.model.specs.Stack.{Levels}
use Rattle.model.specs.declared.Call.{Call}
use Rattle.model.specs.declared.Call.TheVariants.{Release, Report, End}
use Rattle.model.specs.declared.Answer.{Answer}
use Rattle.model.specs.declared.Answer.TheVariants.{Refused, Closed}
use Rattle.model.specs.declared.Others.TheVariants.{Running}
use Rattle.model.specs.Calls.{refuse}
use Rattle.model.specs.Decisions.{at_release, late}
use Rattle.model.specs.Controller.{State, idle, running, is_point, next_levels, can_close, decided, reached, ending, respond}
use Rattle.table.specs.Table.{table_of}
use Rattle.control.proofs.Theorems.{calls_alike}
use Rattle.control.proofs.Alike.{Tied}
use Rattle.std.specs.Prelude.{Option, Some, None}
use Rattle.transcript.specs.Transcript.{reply_to, Progress, next_progress, progress_after, at_first}

-- An answer that is not 11.
abbrev Unbroken : Answer → Type 0
Unbroken a = a ≡ Refused Broken → ⊥

another : (k : Refusal) → (number_of k ≡ 11 → ⊥) → Unbroken (Refused k)
another k h e = let z : k ≡ Broken = cc in h (ap number_of z)

respond_unbroken : (p : Plan) (x : State) (c : Call) → Unbroken (respond p x c).answer
unfolding respond
respond_unbroken p idle Release = go (leb (total C (main p) + p.switch) p.deadline)
  where
    go : (b : Bool) → Unbroken (pick b (decided p at_release 0 Running) (refuse idle Unfit)).answer
    go true = λ e. let z : ◌≡◌ {A = ℕ} 0 1 = cc in omega arith
    go false = another Unfit (λ e. omega arith)
respond_unbroken p idle (Report n t) = another Idle (λ e. omega arith)
respond_unbroken p idle (End t) = another Idle (λ e. omega arith)
respond_unbroken p (running x last others) Release = another Busy (λ e. omega arith)
respond_unbroken p (running x last others) (Report n t) = go (is_point (all_leaves p.functions) n) (ltb t last) (next_levels p x n)
  where
    go : (b d : Bool) (o : places.Option Levels) → Unbroken (pick b (pick d (refuse (running x last others) Backward) (reached p (running x last others) n t others o))
        (refuse (running x last others) Stranger)).answer
    go false d o = another Stranger (λ e. omega arith)
    go true true o = another Backward (λ e. omega arith)
    go true false none = another Astray (λ e. omega arith)
    go true false (some ls) = λ e. let z : ◌≡◌ {A = ℕ} 0 1 = cc in omega arith
respond_unbroken p (running x last others) (End t) = go (ltb t last) (can_close p x)
  where
    go : (d b : Bool) → Unbroken (pick d (refuse (running x last others) Backward)
        (pick b (record { state = idle; answer = Closed (ending others) (late p t) }) (refuse (running x last others) Astray))).answer
    go true b = another Backward (λ e. omega arith)
    go false true = λ e. let z : ◌≡◌ {A = ℕ} 0 1 = cc in omega arith
    go false false = another Astray (λ e. omega arith)

module _ (p : Plan) (a : Accepted p) where
  -- Behind any lines the state stands for one of that controller.
  tied_line : (x : Progress) (e : Option Call) (y : State) → Tied p a x.state y → (z : State) × Tied p a (next_progress (table_of p) x e).state z
  tied_line x (Some c) y h = ((respond p y c).state, (calls_alike p a x.state y c h).1)
  tied_line x None y h = (y, h)

  tied_after : (es : List (Option Call)) (x : Progress) (y : State) → Tied p a x.state y → (z : State) × Tied p a (progress_after (table_of p) x es).state z
  unfolding progress_after
  tied_after [] x y h = (y, h)
  tied_after (e ∷ es) x y h = let (z, k) = tied_line x e y h in tied_after es (next_progress (table_of p) x e) z k

  pub never_broken : (es : List (Option Call)) (e : Option Call) → (reply_to (table_of p) (progress_after (table_of p) at_first es).state e).answer ≡ Refused Broken → ⊥
  never_broken es (Some c) h =
      let (y, k) = tied_after es at_first idle refl in
      respond_unbroken p y c (sym (calls_alike p a (progress_after (table_of p) at_first es).state y c k).0 ∙ h)
  never_broken es None h = another Garbled (λ e. omega arith) h
