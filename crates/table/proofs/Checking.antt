-- The check of a lent table: each of its tests holds of every table of an accepted plan, and together they say that it is one. Assumes nothing.
use mathlib.Core.Bool.{Bool, true, false}
use mathlib.Core.List.{List}
use mathlib.Core.Option.{Option, none, some}
use mathlib.Core.Path.{◌≡◌, refl, ap, sym, ◌∙◌, subst}
use Prim.Native.Nat.{◌*◌, ◌^◌}
use native.Mathlib.Omega.{arith}
use lib.ListN.{length, get_or, take, length-take}
use lib.Seq.{take_all}
use Rattle.model.specs.Plan.{C, M, Lines, resume_cost, Plan}
use Rattle.model.specs.Forms.{main}
use Rattle.model.specs.Total.{total}
use Rattle.model.specs.Acceptance.{sizes, Accepted}
use Rattle.model.specs.Words.{edition_number}
use Rattle.model.proofs.Limits.{short_total}
use Rattle.reader.proofs.Theorems.{row_length}
use Rattle.rows.specs.Answers.{Says}
use Rattle.structure.specs.Plans.{Structured}
use Rattle.rows.proofs.Plans.{plan_leaves, plan_unique}
use Rattle.rows.proofs.Answers.{same_answer}
use Rattle.rows.specs.declared.Leaf.{Leaf}
use Rattle.rows.specs.Leaves.{numbers}
use Rattle.rows.proofs.Leaves.{numbers_length, numbers_take}
use Rattle.table.specs.declared.Head.{Head}
use Rattle.table.specs.Table.{Table, table_of, head_of, edition_of, plan_of, found, good}
use Rattle.table.specs.Lent.{table_with}
use Rattle.table.specs.Private.{HeadRanged, Agrees}
use Rattle.table.proofs.Tests.{leb_exactly, both}
use Rattle.table.proofs.Plans.{edition_said, head_whole, same_whole, plan_of_exactly}
use Rattle.rows.proofs.Storing.{plan_row}
use Rattle.table.proofs.Lent.{table_of_own}
use Rattle.table.proofs.Bridge.{plan_bounds, accepted_structured, structured_accepted}

-- A table of an accepted plan.
abbrev pub OfPlan : Table → Type 0
OfPlan t = (p : Plan) × Accepted p × (t ≡ table_of p)

-- A test that says whether the table is one has the right answer.
pub good_exactly : (r : Bool) (t : Table) → Says r (OfPlan t) → r ≡ good t
good_exactly true t (p, a, e) = ap (λ o. found o) (sym ((plan_of_exactly t p).1 (a, e)))
good_exactly false t h = none_found (plan_of t) (λ p e. h (p, ((plan_of_exactly t p).0 e).0, ((plan_of_exactly t p).0 e).1))
  where
    none_found : (o : Option Plan) → ((p : Plan) → o ≡ some p → ⊥) → false ≡ found o
    none_found none k = refl
    none_found (some p) k = absurd (k p refl)

module _ (ls : List Leaf) (h : Head) where
  -- The leaves that the head says are used.
  abbrev used : List Leaf
  used = take h.leaves ls

  -- The table of an accepted plan is in range,
  pub plan_ranged : OfPlan (table_with ls h) → HeadRanged (length ls) h
  plan_ranged (p, a, e) =
      let k = ap (λ t. t.head) e in
      let f = a.formed in
      let n = ap (λ (x : Head). x.leaves) k in
      record {
        deadline_low = omega (arith, ap (λ (x : Head). x.deadline) k, f.deadline_low);
        deadline_high = omega (arith, ap (λ (x : Head). x.deadline) k, f.deadline_high);
        switch = omega (arith, ap (λ (x : Head). x.switch) k, f.switch_range);
        resume_range = omega (arith, ap (λ (x : Head). x.resume) k, f.resume_range);
        edition = ap (λ (x : Head). x.edition) k ∙ sym (ap edition_number (edition_said h p k));
        resume = ap (λ (x : Head). x.resume) k ∙ sym (ap resume_cost (edition_said h p k));
        few = omega (arith, n, f.few_leaves);
        held = omega (arith, n, numbers_length ls, length-take (h.leaves * 8) (numbers ls), ap (λ t. length t.row) e, row_length p);
      }

  -- keeps rules 3 to 9 and 19,
  pub plan_structured : (t : OfPlan (table_with ls h)) → (q : Structured (numbers used) h.bounds h.functions) × (q.plan.functions ≡ t.0.functions)
  plan_structured (p, a, e) =
      rw (← numbers_take h.leaves ls) at
      (subst (λ (t : Table). (q : Structured t.row t.head.bounds t.head.functions) × (q.plan.functions ≡ p.functions)) (sym e) (accepted_structured p a))

  -- has its last bound at the number of leaves,
  pub plan_end : OfPlan (table_with ls h) → get_or h.bounds h.functions 0 ≡ h.leaves
  plan_end t =
      let (q, z) = plan_structured t in
      plan_leaves q.plan ∙ (ap (λ (ls : List Lines). sizes ls) z ∙ sym (ap (λ (u : Table). u.head.leaves) t.2))

  -- Consider used leaves that keep rules 3 to 9 and 19, with the plan that they stand for.
  module _ (q : Structured (numbers used) h.bounds h.functions) where
    abbrev pub stands_for : Plan
    stands_for = record { deadline = h.deadline; switch = h.switch; edition = edition_of h.edition h.resume; functions = q.plan.functions }

    -- A plan that has this table is that one.
    only_plan : (t : OfPlan (table_with ls h)) → t.0 ≡ stands_for
    only_plan t =
        let (q', z) = plan_structured t in
        let k = ap (λ (u : Table). u.head) t.2 in
        let d : t.0.deadline ≡ h.deadline = sym (ap (λ (x : Head). x.deadline) k) in
        let w : t.0.switch ≡ h.switch = sym (ap (λ (x : Head). x.switch) k) in
        let f : t.0.functions ≡ q.plan.functions = sym z ∙ plan_unique q'.plan q.plan in
        let r : t.0.edition ≡ edition_of h.edition h.resume = sym (edition_said h t.0 k) in
        λ i. record { deadline = d i; switch = w i; edition = r i; functions = f i }

    -- The derived numbers of the table of an accepted plan agree,
    pub plan_agrees : OfPlan (table_with ls h) → Agrees stands_for used h
    plan_agrees t =
        let a : Accepted stands_for = subst Accepted (only_plan t) t.1 in
        let e : table_with used h ≡ table_of stands_for = table_of_own ls h ∙ (t.2 ∙ ap (λ (p : Plan). table_of p) (only_plan t)) in
        let k = ap (λ (u : Table). u.head) e in
        record {
          fits = (both _ _ (leb_exactly _ _) (leb_exactly _ _)).1 ((short_total C (main stands_for) (2 ^ 40)).0 a.short, (short_total M (main stands_for) (2 ^ 40)).0 a.short_loaded);
          total = ap (λ (x : Head). x.total) k;
          max_load_total = ap (λ (x : Head). x.max_load_total) k;
          totals = ap (λ (x : Head). x.totals) k;
          max_load_totals = ap (λ (x : Head). x.max_load_totals) k;
          turns_are = ap (λ (u : Table). u.turns) e;
          tails_are = ap (λ (u : Table). u.tails) e;
          max_load_turns_are = ap (λ (u : Table). u.max_load_turns) e;
        }

    -- and where all of this holds, it is one.
    pub agrees_plan : HeadRanged (length ls) h → length h.bounds ≡ 17 → get_or h.bounds h.functions 0 ≡ h.leaves → Agrees stands_for used h → OfPlan (table_with ls h)
    agrees_plan r wide end g =
        let (c, m) = (both _ _ (leb_exactly (total C (main stands_for)) _) (leb_exactly (total M (main stands_for)) _)).0 g.fits in
        let held : length (numbers used) ≡ h.leaves * 8 = omega (arith, numbers_length used, length-take h.leaves ls, r.held) in (
          stands_for,
          structured_accepted q stands_for refl r.deadline_low r.deadline_high r.switch (omega (arith, r.resume, r.resume_range)) c m,
          sym (table_of_own ls h) ∙ same_whole (table_with used h) (table_of stands_for) (
            take_all (h.leaves * 8) (numbers used) (omega (arith, held)) ∙ plan_row q.plan (omega (arith, held, end)),
            g.turns_are,
            g.tails_are,
            g.max_load_turns_are,
            head_whole h (head_of stands_for) (
              (refl, refl, r.edition, r.resume),
              (g.total, g.max_load_total, sym end ∙ plan_leaves q.plan, sym q.plan.count),
              (plan_bounds q.plan wide, g.totals, g.max_load_totals),
            ),
          ),
        )

    -- Where the last bound is there, a test of the derived numbers says whether it is one.
    pub tested :
        {r : Bool} → HeadRanged (length ls) h → length h.bounds ≡ 17 → get_or h.bounds h.functions 0 ≡ h.leaves
        → ((p : Plan) (v : Structured (numbers used) h.bounds h.functions) → p.functions ≡ v.plan.functions → sizes p.functions ≡ h.leaves → Says r (Agrees p used h))
        → r ≡ good (table_with ls h)
    tested {r} ranged wide end says =
        good_exactly r (table_with ls h)
        (same_answer r (agrees_plan ranged wide end) plan_agrees (says stands_for q refl (sym (plan_leaves q.plan) ∙ end)))
