-- The theorems of the reader, to be read; each is proved in a file beside this one. The definitions to believe are in specs/: Machine (what the
-- reader makes of a text), Print (the one text of a plan), Records (its row); and in the model's specs: Plan, Acceptance (`Formed`, `Fits`).
use Prim.Native.Nat.{ℕ, ◌*◌, ◌≤◌, ◌<◌}
use mathlib.Core.Path.{◌≡◌, sym, ap, ◌∙◌}
use mathlib.Core.List.{List}
use mathlib.Core.Logic.{◌↔◌}
use native.Mathlib.Omega.{arith}
use lib.ListN.{length, get_or}
use Rattle.model.specs.declared.Refusal.{Refusal}
use Rattle.model.specs.Plan.{Plan}
use Rattle.model.specs.Acceptance.{sizes, Formed, Fits}
use Rattle.reader.specs.Machine.{outcome}
use Rattle.reader.specs.Outcome.{plan, refused}
use Rattle.reader.specs.Print.{print}
use Rattle.rows.specs.Records.{row_of, bounds_of}
use Rattle.reader.specs.Records.{leveled_leaves, Shows, no_leaf}
use Rattle.reader.proofs.Length as lengths
use Rattle.reader.proofs.Complete as completeness
use Rattle.reader.proofs.Sound as soundness
use Rattle.rows.proofs.Records as counts
use Rattle.reader.proofs.Records as rows
use Rattle.reader.proofs.OneRow as one_row

-- A text in which the reader finds a plan is the text of this plan, which keeps the rules 3 to 7 and 19 and fits the lent row.
pub sound : (row : ℕ) (text : List ℕ) (p : Plan) → outcome row text ≡ plan p → (text ≡ print p) × Formed p × Fits row p
sound = soundness.sound

-- In the text of a plan that keeps the rules 3 to 7 and 19 and fits the lent row the reader finds this plan.
pub complete : (row : ℕ) (p : Plan) → Formed p → Fits row p → outcome row (print p) ≡ plan p
complete = completeness.complete

-- The two as one: the reader finds p in exactly one text, and only if p keeps the rules 3 to 7 and 19 and fits the lent row.
pub accepted : (row : ℕ) (text : List ℕ) (p : Plan) → (outcome row text ≡ plan p) ↔ ((text ≡ print p) × Formed p × Fits row p)
accepted row text p = (sound row text p, λ (e, w, h). ap (outcome row) e ∙ complete row p w h)

-- The text of a plan has 20,630 bytes at most.
pub print_bound : (p : Plan) → Formed p → length (print p) ≤ 20630
print_bound = lengths.print_bound

-- So no plan's text is oversize (1).
pub print_short : (p : Plan) → Formed p → length (print p) ≤ 65536
print_short p w = omega (arith, print_bound p w)

-- Two plans with one text are one plan.
pub print_one : (p q : Plan) → Formed p → Formed q → print p ≡ print q → p ≡ q
print_one p q v w e =
    let a : plan p ≡ plan q = sym (complete 512 p v v.few_leaves) ∙ (ap (outcome 512) e ∙ complete 512 q w w.few_leaves) in
    cc

-- A refused text is that of no plan that keeps the rules 3 to 7 and 19 and fits the lent row.
pub refused_none : (row : ℕ) (text : List ℕ) (k : Refusal) (j : ℕ) → outcome row text ≡ refused k j → (p : Plan) → Formed p → Fits row p → text ≡ print p → ⊥
refused_none row text k j e p w fit q =
    let a : plan p ≡ refused k j = sym (complete row p w fit) ∙ (ap (outcome row) (sym q) ∙ e) in
    cc

-- The row of a plan has eight numbers for each leaf.
pub row_length : (p : Plan) → length (row_of p) ≡ 8 * sizes p.functions
row_length p = counts.records_all_length 0 p.functions

-- Leaf number i of a plan stands at position i among its leaves, and record number i of the row is its own.
pub row_leaf : (p : Plan) → Formed p → (i : ℕ) → i < sizes p.functions →
    ((get_or (leveled_leaves p.functions) i no_leaf).block.number ≡ i) × Shows (row_of p) i (get_or (leveled_leaves p.functions) i no_leaf)
row_leaf = rows.row_leaf

-- A row is that of one plan: two plans with the same deadline, switch cost, edition, row and function bounds are one.
pub row_one : (p q : Plan) → Formed p → Formed q → p.deadline ≡ q.deadline → p.switch ≡ q.switch → p.edition ≡ q.edition → row_of p ≡ row_of q → bounds_of p ≡ bounds_of q → p ≡ q
row_one = one_row.row_one
