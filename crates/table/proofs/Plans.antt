-- The plan of a table: reading the table of a plan back gives that plan, so a table is that of an accepted plan exactly where `plan_of` finds one.
use mathlib.Core.Bool.{Bool, true, false, ◌&&◌}
use mathlib.Core.List.{List, [], ◌∷◌}
use mathlib.Core.Logic.{◌↔◌}
use mathlib.Core.Option.{none, some}
use mathlib.Core.Path.{◌≡◌, refl, ap, sym, ◌∙◌, subst}
use Prim.Native.Nat.{ℕ}
use native.Mathlib.Omega.{arith}
use lib.Dec.{eqb}
use Rattle.model.specs.declared.Edition.{Edition}
use Rattle.model.specs.declared.Edition.TheVariants.{First, Second}
use Rattle.model.specs.Plan.{resume_cost, Plan}
use Rattle.model.specs.Acceptance.{Formed, Accepted}
use Rattle.model.specs.Places.{pick}
use Rattle.model.specs.Words.{edition_number}
use Rattle.rows.proofs.Plans.{plan_read}
use Rattle.table.specs.Accepting.{accepted?}
use Rattle.table.specs.declared.Head.{Head}
use Rattle.table.specs.Table.{Table, head_of, table_of, edition_of, plan_at, same_numbers, same_head, same_table, plan_of}
use Rattle.table.proofs.Tests.{no_truth, eqb_exactly, both, three, four, five}
use Rattle.table.proofs.Accepting.{accepted_exactly}
use Rattle.table.proofs.Bridge.{formed_plan}

-- Reading an edition's numbers back gives the edition; so a plan's head says its edition.
edition_back : (e : Edition) → edition_of (edition_number e) (resume_cost e) ≡ e
edition_back First = refl
edition_back (Second u) = refl

pub edition_said : (h : Head) (p : Plan) → h ≡ head_of p → edition_of h.edition h.resume ≡ p.edition
edition_said h p e = ap (λ (x : Head). edition_of x.edition x.resume) e ∙ edition_back p.edition

-- Reading the table of a plan back gives the plan.
pub plan_back : (p : Plan) → Formed p → plan_at (table_of p) ≡ p
plan_back p f = rw (edition_back p.edition, plan_read (formed_plan p f).0)

-- SAME TABLES

pub same_list : (u v : List ℕ) → (same_numbers u v ≡ true) ↔ (u ≡ v)
unfolding same_numbers
same_list [] [] = ((λ e. refl), λ e. refl)
same_list [] (m ∷ v) = ((λ e. no_truth e), λ e. absurd (let z : ◌≡◌ {A = ℕ} 0 1 = cc in omega arith))
same_list (n ∷ u) [] = ((λ e. no_truth e), λ e. absurd (let z : ◌≡◌ {A = ℕ} 0 1 = cc in omega arith))
same_list (n ∷ u) (m ∷ v) =
    let k = both (eqb n m) (same_numbers u v) (eqb_exactly n m) (same_list u v) in
    ((λ e. let (a, b) = k.0 e in rw (a, b)), λ e. let a : n ≡ m = cc in let b : u ≡ v = cc in k.1 (a, b))

abbrev pub SameHead : Head → Head → Type 0
SameHead h k =
    ((h.deadline ≡ k.deadline) × (h.switch ≡ k.switch) × (h.edition ≡ k.edition) × (h.resume ≡ k.resume)) ×
    ((h.total ≡ k.total) × (h.max_load_total ≡ k.max_load_total) × (h.leaves ≡ k.leaves) × (h.functions ≡ k.functions)) ×
    ((h.bounds ≡ k.bounds) × (h.totals ≡ k.totals) × (h.max_load_totals ≡ k.max_load_totals))

head_parts : (h k : Head) → (same_head h k ≡ true) ↔ SameHead h k
head_parts h k =
    three _ _ _
    (four _ _ _ _ (eqb_exactly h.deadline k.deadline) (eqb_exactly h.switch k.switch) (eqb_exactly h.edition k.edition) (eqb_exactly h.resume k.resume))
    (four _ _ _ _ (eqb_exactly h.total k.total) (eqb_exactly h.max_load_total k.max_load_total) (eqb_exactly h.leaves k.leaves) (eqb_exactly h.functions k.functions))
    (three _ _ _ (same_list h.bounds k.bounds) (same_list h.totals k.totals) (same_list h.max_load_totals k.max_load_totals))

pub head_whole : (h k : Head) → SameHead h k → h ≡ k
head_whole h k ((a, b, c, d), (e, f, g, i), (j, l, m)) = λ x.
    record {
      deadline = a x;
      switch = b x;
      edition = c x;
      resume = d x;
      total = e x;
      max_load_total = f x;
      leaves = g x;
      functions = i x;
      bounds = j x;
      totals = l x;
      max_load_totals = m x;
    }

head_refl : (h k : Head) → h ≡ k → SameHead h k
head_refl h k e = (
  (ap (λ x. x.deadline) e, ap (λ x. x.switch) e, ap (λ x. x.edition) e, ap (λ x. x.resume) e),
  (ap (λ x. x.total) e, ap (λ x. x.max_load_total) e, ap (λ x. x.leaves) e, ap (λ x. x.functions) e),
  (ap (λ x. x.bounds) e, ap (λ x. x.totals) e, ap (λ x. x.max_load_totals) e),
)

pub head_exactly : (h k : Head) → (same_head h k ≡ true) ↔ (h ≡ k)
head_exactly h k = ((λ e. head_whole h k ((head_parts h k).0 e)), λ e. (head_parts h k).1 (head_refl h k e))

abbrev pub Same : Table → Table → Type 0
Same t u = (t.row ≡ u.row) × (t.turns ≡ u.turns) × (t.tails ≡ u.tails) × (t.max_load_turns ≡ u.max_load_turns) × (t.head ≡ u.head)

same_parts : (t u : Table) → (same_table t u ≡ true) ↔ Same t u
same_parts t u =
    five _ _ _ _ _ (same_list t.row u.row) (same_list t.turns u.turns) (same_list t.tails u.tails) (same_list t.max_load_turns u.max_load_turns) (head_exactly t.head u.head)

pub same_whole : (t u : Table) → Same t u → t ≡ u
same_whole t u (a, b, c, d, e) = λ x. record { row = a x; turns = b x; tails = c x; max_load_turns = d x; head = e x }

same_refl : (t u : Table) → t ≡ u → Same t u
same_refl t u e = (ap (λ x. x.row) e, ap (λ x. x.turns) e, ap (λ x. x.tails) e, ap (λ x. x.max_load_turns) e, ap (λ x. x.head) e)

pub same_exactly : (t u : Table) → (same_table t u ≡ true) ↔ (t ≡ u)
same_exactly t u = ((λ e. same_whole t u ((same_parts t u).0 e)), λ e. (same_parts t u).1 (same_refl t u e))

-- THE PLAN OF A TABLE

picked : (a b : Bool) (p q : Plan) → pick (a && b) (some p) none ≡ some q → (a ≡ true) × (b ≡ true) × (p ≡ q)
picked true true p q e = (refl, refl, cc)
picked true false p q e = absurd (let z : ◌≡◌ {A = ℕ} 0 1 = cc in omega arith)
picked false b p q e = absurd (let z : ◌≡◌ {A = ℕ} 0 1 = cc in omega arith)

picks : (a b : Bool) (p : Plan) → a ≡ true → b ≡ true → pick (a && b) (some p) none ≡ some p
picks a b p x y = rw (x, y)

found : (t : Table) (p : Plan) → plan_of t ≡ some p → Accepted p × (t ≡ table_of p)
found t p e =
    let (a, b, c) = picked (accepted? (plan_at t)) (same_table t (table_of (plan_at t))) (plan_at t) p e in
    (subst Accepted c ((accepted_exactly (plan_at t)).0 a), (same_exactly t (table_of (plan_at t))).0 b ∙ ap (λ x. table_of x) c)

finds : (p : Plan) → Accepted p → plan_of (table_of p) ≡ some p
finds p a =
    let e = plan_back p a.formed in
    let x : accepted? (plan_at (table_of p)) ≡ true = subst (λ q. accepted? q ≡ true) (sym e) ((accepted_exactly p).1 a) in
    let y : same_table (table_of p) (table_of (plan_at (table_of p))) ≡ true = (same_exactly (table_of p) (table_of (plan_at (table_of p)))).1 (ap (λ q. table_of q) (sym e)) in
    picks (accepted? (plan_at (table_of p))) (same_table (table_of p) (table_of (plan_at (table_of p)))) (plan_at (table_of p)) x y ∙ ap (λ q. some q) e

-- A table is that of the accepted plan p exactly where p is found.
pub plan_of_exactly : (t : Table) (p : Plan) → (plan_of t ≡ some p) ↔ (Accepted p × (t ≡ table_of p))
plan_of_exactly t p = (found t p, λ (a, e). ap (λ x. plan_of x) e ∙ finds p a)
