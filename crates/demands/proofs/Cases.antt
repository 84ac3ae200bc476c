-- The marked cases, and those of edition 2, hold in every memory that holds the table of their plan.
use mathlib.Core.List.{List, [], ◌∷◌, map}
use mathlib.Core.Path.{◌≡◌, ap, sym, ◌∙◌, subst}
use Prim.Native.Nat.{ℕ}
use lib.ListN.{get_or}
use Rattle.model.specs.Plan.{M, all_leaves}
use Rattle.model.specs.Forms.{main}
use Rattle.model.specs.Stretch.{Stretch, stretch, stretch_of}
use Rattle.model.specs.Timed.{PointOf}
use Rattle.model.proofs.Links.{plan_spans}
use Rattle.model.proofs.Leaves.{spans_all_row}
use Rattle.model.proofs.Theorems.{stretch_is_largest}
use Rattle.table.specs.Table.{Table}
use Rattle.control.specs.Cases.{Case, cases, returns, CaseHolds, CasesHold}
use Rattle.control.specs.State.{fresh}
use Rattle.control.specs.Calls.{controller_of}
use Rattle.model.specs.Histories.{Answered}
use Rattle.control.proofs.Cases.{cases_right, returns_right}
use Rattle.control.proofs.Columns.{holds_self, row_entry}
use Rattle.rolsipay.specs.Calling.{zeros}
use Rattle.demands.specs.Delivered.{Memory}
use Rattle.demands.specs.Rules.{TableOf}
use Rattle.demands.specs.Cases.{RightIn, EachRight}
use Rattle.demands.proofs.Tables.{numbers_held}
use Rattle.demands.proofs.Delivered.{answered_held}

-- A case that is right on the plan's table is right in the memory.
pub right_in : (c : Case) → CaseHolds c → (m : Memory) → TableOf c.plan m → RightIn m c
right_in c r m o =
    let e = numbers_held c.plan m o in
    record {
      total_is = ap (λ (t : Table). t.head.total) e ∙ r.total_is;
      max_total_is = ap (λ (t : Table). t.head.max_load_total) e ∙ r.max_total_is;
      answered = answered_held m zeros c.exchanges (subst (λ (t : Table). Answered (controller_of t) fresh c.exchanges) (sym e) r.answered);
    }

-- The stretches of a case are those of the plan's points, over all their visits.
stretches_meant : (c : Case) → CaseHolds c → (n : ℕ) → PointOf c.plan n → Stretch M (main c.plan) n (get_or c.stretches n 0)
stretches_meant c r n (b, i, j, k) =
    let p = c.plan in
    let o = map (stretch_of p) (all_leaves p.functions) in
    let e = row_entry o (stretch_of p) (all_leaves p.functions) 0 (spans_all_row p.functions 0 (plan_spans p r.accepted.formed)) (holds_self o) b i in
    let g : get_or c.stretches n 0 ≡ stretch M n (main p) 0 =
    ap (λ (l : List ℕ). get_or l n 0) (sym r.stretches_are) ∙ (ap (λ (m : ℕ). get_or o m 0) (sym k) ∙ (e ∙ ap (λ (m : ℕ). stretch M m (main p) 0) k)) in
    subst (Stretch M (main p) n) (sym g) (subst (λ (x : ℕ). Stretch M (main p) x (stretch M x (main p) 0)) k (stretch_is_largest p r.accepted b i j))

each : (cs : List Case) → CasesHold cs → EachRight cs
unfolding CasesHold EachRight
each [] u = tt
each (c ∷ cs) (r, rs) = (record { accepted = r.accepted; stretches_are = stretches_meant c r; right_in = right_in c r }, each cs rs)

pub each_right : EachRight cases
each_right = each cases cases_right

pub each_return_right : EachRight returns
each_return_right = each returns returns_right
