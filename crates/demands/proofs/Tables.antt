-- What the delivered reading answers and leaves. Lent memory holds the table of a plan, as the rules say it, exactly where the table in it is the plan's.
use Rattle.std.specs.Prelude.{Ok, Err}
use mathlib.Core.List.{List}
use mathlib.Core.Logic.{◌↔◌}
use mathlib.Core.Path.{◌≡◌, refl, ap, sym, ◌∙◌, subst}
use Prim.Native.Nat.{ℕ}
use lib.ListN.{length, drop}
use lib.Seq.{drop_at}
use Rattle.model.specs.declared.Refusal.{Refusal}
use Rattle.model.specs.Plan.{Plan}
use Rattle.model.specs.Forms.{main}
use Rattle.model.specs.Total.{Total, MaxLoadTotal}
use Rattle.model.specs.Acceptance.{sizes, Accepted}
use Rattle.model.proofs.Theorems as model
use Rattle.reader.specs.declared.RefusedAt.{RefusedAt}
use Rattle.reader.specs.Outcome.{Outcome, plan, refused}
use Rattle.reader.specs.Print.{print}
use Rattle.table.specs.Table.{Table, table_of}
use Rattle.table.specs.Reading.{verdict, head_after}
use Rattle.table.specs.Lent.{leaves_from, row_after}
use Rattle.table.proofs.Lent.{length_leaves}
use Rattle.table.proofs.Theorems as table
use Rattle.rolsipay.specs.Lent.{table_in}
use Rattle.rolsipay.specs.Reading.{answer_of}
use Rattle.rolsipay.proofs.Theorems.{read_back, read_again}
use Rattle.demands.specs.Delivered.{Memory, read_answer, after_read, ReadAs}
use Rattle.demands.specs.Rules.{Ruled, TableOf}
use Rattle.demands.specs.Tables.{Numbers}
use Rattle.demands.proofs.Texts.{text_exactly}

-- The table in the memory, as number lists.
abbrev pub table_held : Memory → Table
table_held m = table_in m.row m.head

-- What reading leaves, by what it finds.
left : Outcome → Memory → Memory
left o m = record { row = row_after o m.row; head = head_after o m.head }

left_as : (text : List ℕ) (m : Memory) (p : Plan) → ReadAs text m p → after_read text m ≡ left (plan p) m
unfolding left
left_as text m p e = ap (λ o. left o m) e

-- A plan's own text is read as the plan.
pub own_text : (p : Plan) (m : Memory) → TableOf p m → ReadAs (print p) m p
own_text p m o = (table.read_as_plan (length m.row) (print p) p).1 (refl, o.accepted, o.fits)

-- What is left holds the plan's table.
left_holds : (p : Plan) → Accepted p → (m : Memory) → table_held (left (plan p) m) ≡ table_of p
unfolding left
left_holds p a m = read_back p a m.row

-- From the rules' sentence to the numbers, and back.
pub numbers_held : (p : Plan) (m : Memory) → TableOf p m → table_held m ≡ table_of p
numbers_held p m o = subst (λ x. table_held x ≡ table_of p) (sym (left_as (print p) m p (own_text p m o)) ∙ o.unchanged) (left_holds p o.accepted m)

pub table_found : (p : Plan) → Accepted p → (m : Memory) → table_held m ≡ table_of p → TableOf p m
unfolding left
table_found p a m e =
    let (fits, same_row, same_head) = read_again p a m.row m.head e in
    let r : ReadAs (print p) m p = (table.read_as_plan (length m.row) (print p) p).1 (refl, a, fits) in
    record { accepted = a; fits = fits; unchanged = left_as (print p) m p r ∙ (λ j. record { row = same_row j; head = same_head j }) }

-- After a text was read as a plan the memory holds the plan's table.
pub read_holds : (text : List ℕ) (m : Memory) (p : Plan) → ReadAs text m p → TableOf p (after_read text m)
read_holds text m p e =
    let a = ((table.read_as_plan (length m.row) text p).0 e).1 in
    table_found p a (after_read text m) (ap table_held (left_as text m p e) ∙ left_holds p a m)

-- WHAT READING ANSWERS

-- The answer tells the verdict: a refusal and its line, an acceptance that there is a plan.
refusal_told : (o : Outcome) (k : Refusal) (j : ℕ) → answer_of o ≡ Err (record { refusal = k; line = j }) → o ≡ refused k j
refusal_told (plan p) k j e = cc
refusal_told (refused k' j') k j e =
    let q : ◌≡◌ {A = RefusedAt} (record { refusal = k'; line = j' }) (record { refusal = k; line = j }) = cc in ap (λ r. refused r.refusal r.line) q

plan_told : (o : Outcome) → answer_of o ≡ Ok tt → (p : Plan) × (o ≡ plan p)
plan_told (plan p) e = (p, refl)
plan_told (refused k j) e = cc

-- It is refused by k at line j exactly when the rules say so.
pub text_refused : (text : List ℕ) (m : Memory) (k : Refusal) (j : ℕ) → (read_answer text m ≡ Err (record { refusal = k; line = j })) ↔ Ruled (length m.row) text k j
text_refused text m k j = (
  (λ e. (text_exactly (length m.row) text k j).0 (refusal_told (verdict (length m.row) text) k j e)),
  λ w. ap answer_of ((text_exactly (length m.row) text k j).1 w),
)

-- It is accepted exactly when it is read as a plan.
pub text_accepted : (text : List ℕ) (m : Memory) → (read_answer text m ≡ Ok tt) ↔ ((p : Plan) × ReadAs text m p)
text_accepted text m = (plan_told (verdict (length m.row) text), λ (p, e). ap answer_of e)

-- A refusal leaves the memory.
pub refused_leaves : (text : List ℕ) (m : Memory) (k : Refusal) (j : ℕ) → read_answer text m ≡ Err (record { refusal = k; line = j }) → after_read text m ≡ m
unfolding left
refused_leaves text m k j e = ap (λ o. left o m) (refusal_told (verdict (length m.row) text) k j e)

-- An accepted plan leaves the records past its last leaf.
pub later_records : (text : List ℕ) (m : Memory) (p : Plan) → ReadAs text m p → drop (sizes p.functions) (after_read text m).row ≡ drop (sizes p.functions) m.row
unfolding left
later_records text m p e =
    let n : ℕ = sizes p.functions in
    ap (λ x. drop n x.row) (left_as text m p e) ∙ drop_at (leaves_from (table_of p) 0 n) (drop n m.row) n (length_leaves (table_of p) 0 n)

-- ONE TABLE, ONE PLAN

-- A memory holds the table of one plan at most.
pub one_plan : (p q : Plan) (m : Memory) → TableOf p m → TableOf q m → p ≡ q
one_plan p q m o u =
    let x = (table.plan_of_table (table_held m) p).1 (o.accepted, numbers_held p m o) in
    let y = (table.plan_of_table (table_held m) q).1 (u.accepted, numbers_held q m u) in
    cc

-- WHAT THE TABLE SAYS

pub table_numbers : (p : Plan) (m : Memory) → TableOf p m → Numbers p m
table_numbers p m o =
    let e = numbers_held p m o in
    record {
      deadline = ap (λ (t : Table). t.head.deadline) e;
      switch = ap (λ (t : Table). t.head.switch) e;
      edition = ap (λ (t : Table). t.head.edition) e;
      resume = ap (λ (t : Table). t.head.resume) e;
      total = subst (Total (main p)) (sym (ap (λ (t : Table). t.head.total) e)) (model.total_is_largest p).0;
      max_load_total = subst (MaxLoadTotal (main p)) (sym (ap (λ (t : Table). t.head.max_load_total) e)) (model.total_is_largest p).1;
    }
