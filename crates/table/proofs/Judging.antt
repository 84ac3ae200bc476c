-- Reading a plan whole: what the tests behind the lines find is what `judged` says. Assumes nothing.
use mathlib.Core.Bool.{Bool, true, false}
use mathlib.Core.List.{List, []}
use mathlib.Core.Logic.{◌↔◌}
use mathlib.Core.Path.{◌≡◌, refl, ap, sym, ◌∙◌, subst}
use Prim.Native.Nat.{ℕ, ◌-◌, ◌*◌, ◌≤◌}
use native.Mathlib.Omega.{arith}
use lib.ListN.{length, take, length-take}
use Rattle.std.specs.Prelude.{Result, Ok, Err}
use Rattle.model.specs.declared.Refusal.{Refusal}
use Rattle.model.specs.declared.Refusal.TheVariants.{Unseen, Uncalled, Long}
use Rattle.model.specs.Plan.{Lines, resume_cost, Plan}
use Rattle.model.specs.Acceptance.{sizes, SeenAll, Called}
use Rattle.model.specs.Words.{edition_number}
use Rattle.reader.specs.declared.Raw.{Raw}
use Rattle.reader.specs.declared.RefusedAt.{RefusedAt}
use Rattle.reader.specs.Outcome.{Outcome, plan, refused}
use Rattle.rows.specs.declared.Leaf.{Leaf}
use Rattle.rows.specs.Leaves.{numbers}
use Rattle.rows.specs.Records.{row_of, bounds_of}
use Rattle.rows.proofs.Leaves.{numbers_length, numbers_take}
use Rattle.reader.proofs.Theorems.{row_length}
use Rattle.reader.specs.Raw.{raw_of, raw_with, padded}
use Rattle.reader.specs.Records.{heights_of}
use Rattle.rows.specs.Plans.{PlanOf}
use Rattle.table.specs.declared.Head.{Head}
use Rattle.table.specs.declared.Derived.{Derived}
use Rattle.table.specs.Accepting.{seen_all?, called_from?, short?}
use Rattle.table.specs.Table.{table_of, head_of}
use Rattle.table.specs.Reading.{judged, after_lines, result_of, RawOf, ColumnsWritten}
use Rattle.table.specs.Private.{DerivedNumbers, headed}
use Rattle.table.proofs.Accepting.{seen_all_exactly, called_exactly}
use Rattle.table.proofs.Plans.{head_whole}
use Rattle.table.proofs.Bridge.{formed_plan}

-- A test whose claim does not hold fails.
fails : {A : Type 0} (b : Bool) → (b ≡ true) ↔ A → (A → ⊥) → b ≡ false
fails true k h = absurd (h (k.0 refl))
fails false k h = refl

-- RULES 8, 9 AND 10

pub judged_unseen : (p : Plan) → (SeenAll [] p.functions → ⊥) → judged p ≡ refused Unseen 0
judged_unseen p h = rw (fails (seen_all? [] p.functions) (seen_all_exactly [] p.functions) h)

pub judged_uncalled : (p : Plan) → SeenAll [] p.functions → (Called p.functions → ⊥) → judged p ≡ refused Uncalled 0
judged_uncalled p s h =
    rw ((seen_all_exactly [] p.functions).1 s, fails (called_from? p.functions 0 (length p.functions - 1)) (called_exactly p.functions) h)

pub judged_long : (p : Plan) → SeenAll [] p.functions → Called p.functions → short? p ≡ false → judged p ≡ refused Long 0
judged_long p s c e = rw ((seen_all_exactly [] p.functions).1 s, (called_exactly p.functions).1 c, e)

pub judged_accepted : (p : Plan) → SeenAll [] p.functions → Called p.functions → short? p ≡ true → judged p ≡ plan p
judged_accepted p s c e = rw ((seen_all_exactly [] p.functions).1 s, (called_exactly p.functions).1 c, e)

-- THE PLAN THAT THE LINES GAVE

-- The row and the bounds of the plan that the lines gave are those at hand.
pub record Given (p : Plan) (raw : Raw) (row : List Leaf) : Type 0 where
  pub read : PlanOf (numbers (take raw.leaves row)) raw.bounds raw.functions
  pub same : p.functions ≡ read.functions
  pub count : raw.leaves ≡ sizes p.functions
  pub held : raw.leaves ≤ length row

-- The numbers of the plan.
pub raw_numbers : (p : Plan) {raw : Raw} → Ok raw ≡ raw_of (plan p) →
    raw ≡ raw_with p.deadline p.switch p.edition (sizes p.functions) (length p.functions) (padded 17 (bounds_of p)) (padded 16 (heights_of p))
raw_numbers p e = cc

pub given : {p : Plan} {raw : Raw} {row : List Leaf} → RawOf (plan p) (Ok raw) row → Given p raw row
given {p} {raw} {row} c =
    let e = raw_numbers p c.raw_is in
    let n = ap (λ (r : Raw). r.leaves) e in
    let w : numbers (take raw.leaves row) ≡ row_of p = numbers_take raw.leaves row ∙ (ap (λ (k : ℕ). take (k * 8) (numbers row)) n ∙ c.row_is p refl) in
    let q = formed_plan p (c.formed p refl) in
    let read : (q : PlanOf (numbers (take raw.leaves row)) raw.bounds raw.functions) × (q.functions ≡ p.functions) =
    rw (w, ap (λ (r : Raw). r.bounds) e, ap (λ (r : Raw). r.functions) e) q in
    record {
      read = read.0;
      same = sym read.1;
      count = n;
      held = omega (arith, n, ap length (c.row_is p refl), row_length p, length-take (sizes p.functions * 8) (numbers row), numbers_length row);
    }

-- Lines that gave raw numbers gave those of a plan.
pub of_plan : (o : Outcome) {lines : Result Raw RefusedAt} {raw : Raw} {row : List Leaf} → lines ≡ Ok raw → RawOf o lines row
    → (p : Plan) × (after_lines o ≡ judged p) × RawOf (plan p) (Ok raw) row
of_plan (plan p) i k = (p, refl, rw i at k)
of_plan (refused x j) i k = let e = k.raw_is in cc

-- The rules that a structured row keeps are kept by the plan that was read.
pub plan_seen : {p : Plan} {raw : Raw} {row : List Leaf} (g : Given p raw row) → SeenAll [] g.read.functions → SeenAll [] p.functions
plan_seen g s = subst (λ (ls : List Lines). SeenAll [] ls) (sym g.same) s

pub plan_called : {p : Plan} {raw : Raw} {row : List Leaf} (g : Given p raw row) → Called g.read.functions → Called p.functions
plan_called g s = subst (λ (ls : List Lines). Called ls) (sym g.same) s

pub seen_plan : {p : Plan} {raw : Raw} {row : List Leaf} (g : Given p raw row) → SeenAll [] p.functions → SeenAll [] g.read.functions
seen_plan g s = subst (λ (ls : List Lines). SeenAll [] ls) g.same s

pub called_plan : {p : Plan} {raw : Raw} {row : List Leaf} (g : Given p raw row) → Called p.functions → Called g.read.functions
called_plan g s = subst (λ (ls : List Lines). Called ls) g.same s

-- WHAT IS ANSWERED

-- Nothing is asked of the columns of a refused plan.
pub nothing_filled : (o : Outcome) {k : Refusal} {j : ℕ} {t u v : List ℕ} → o ≡ refused k j → ColumnsWritten o t u v
nothing_filled o e = record { turns_are = λ p x. no_plan (sym e ∙ x); tails_are = λ p x. no_plan (sym e ∙ x); max_load_turns_are = λ p x. no_plan (sym e ∙ x) }
  where
    no_plan : {A : Type 0} {k : Refusal} {j : ℕ} {p : Plan} → refused k j ≡ plan p → A
    no_plan e = cc

-- A refusal behind the lines.
pub refuses : {o : Outcome} {k : Refusal} {r : RefusedAt} → o ≡ refused k 0 → r ≡ record { refusal = k; line = 0 } → Err r ≡ result_of o
refuses e x = ap (λ (r : RefusedAt). Err r) x ∙ ap (λ (y : Outcome). result_of y) (sym e)

-- An acceptance: the head is the plan's,
head_given : (p : Plan) (raw : Raw) (d : Derived) {t u v : List ℕ} → Ok raw ≡ raw_of (plan p) → DerivedNumbers p d t u v → headed raw d ≡ head_of p
head_given p raw d c n =
    let e = raw_numbers p c in
    head_whole (headed raw d) (head_of p) (
      (ap (λ (r : Raw). r.deadline) e, ap (λ (r : Raw). r.switch) e, ap (λ (r : Raw). edition_number r.edition) e, ap (λ (r : Raw). resume_cost r.edition) e),
      (n.total, n.max_load_total, ap (λ (r : Raw). r.leaves) e, ap (λ (r : Raw). r.functions) e),
      (ap (λ (r : Raw). r.bounds) e, n.totals, n.max_load_totals),
    )

pub accepts : {o : Outcome} {p : Plan} {raw : Raw} {row : List Leaf} (c : RawOf (plan p) (Ok raw) row) (k : Head) {d : Derived} {t u v : List ℕ} → o ≡ plan p
    → DerivedNumbers p d t u v → k ≡ headed raw d → Ok k ≡ result_of o
accepts {p = p} {raw} c k {d} e n x = ap (λ (y : Head). Ok y) (x ∙ head_given p raw d c.raw_is n) ∙ ap (λ (y : Outcome). result_of y) (sym e)

-- and its columns are filled.
pub accepts_filled : {o : Outcome} {p : Plan} {d : Derived} {t u v : List ℕ} → o ≡ plan p → DerivedNumbers p d t u v → ColumnsWritten o t u v
accepts_filled {o} {p} {d} {t} {u} {v} e n =
    record {
      turns_are = λ q x. subst (λ (y : Plan). take (sizes y.functions) t ≡ (table_of y).turns) (one_plan (sym e ∙ x)) n.turns_are;
      tails_are = λ q x. subst (λ (y : Plan). take (sizes y.functions) u ≡ (table_of y).tails) (one_plan (sym e ∙ x)) n.tails_are;
      max_load_turns_are = λ q x. subst (λ (y : Plan). take (sizes y.functions) v ≡ (table_of y).max_load_turns) (one_plan (sym e ∙ x)) n.max_load_turns_are;
    }
  where
    one_plan : {p q : Plan} → plan p ≡ plan q → p ≡ q
    one_plan e = cc
