-- The marked cases hold: the plan is found from its table, and the answers are computed on it.
use mathlib.Core.List.{List, [], ◌∷◌, map}
use mathlib.Core.Path.{◌≡◌, refl, ap, sym, ◌∙◌, subst}
use native.Mathlib.Omega.{arith}
use Rattle.model.specs.Plan.{Plan, all_leaves}
use Rattle.model.specs.Forms.{forms, linked, last, ◌⊕◌}
use Rattle.model.specs.Total.{total}
use Rattle.model.specs.Stretch.{silence, rounds_silence, visit_stretch, stretch, rounds_stretch, stretch_of}
use Rattle.model.specs.Acceptance.{Accepted}
use Rattle.model.specs.Places.{passes, seek, onward, can_end, no_more, no_further}
use Rattle.model.specs.Stack.{behind, below, whole, kept, seek_at, onward_at, suffix, turned, inside_of, decode}
use Rattle.model.specs.Histories.{Exchange, Answered}
use Rattle.model.specs.Controller.{is_point, respond}
use Rattle.model.specs.Worked.{plan_A, returning_A, plan_B, smallest}
use Rattle.model.proofs.Worked.{plan_A_accepted, plan_B_accepted, smallest_accepted}
use Rattle.table.specs.Table.{table_of, same_numbers}
use Rattle.table.proofs.Plans.{plan_of_exactly}
use Rattle.model.specs.Plan as plans
use Rattle.place.specs.Stack.{frames}
use Rattle.control.specs.declared.State.{State}
use Rattle.control.specs.State.{fresh, points?}
use Rattle.control.specs.Calls.{read_state, on_state, on_plan, call_on, controller_of}
use Rattle.control.specs.Cases.{Case, on_A, worst_of_A, faster_on_A, cases, worst_of_returning_A, two_returns, two_stays, returns, CaseHolds, CasesHold}

-- The same calls on the plan itself.
AnsweredOn : Plan → State → List Exchange → Type 0
AnsweredOn p s [] = Unit
AnsweredOn p s (x ∷ xs) = ((on_state p s x.call (read_state p s)).answer ≡ x.answer) × AnsweredOn p (on_state p s x.call (read_state p s)).state xs

on_plans : (p : Plan) → Accepted p → (s : State) (xs : List Exchange) → AnsweredOn p s xs → Answered (controller_of (table_of p)) s xs
unfolding Answered AnsweredOn call_on
on_plans p a s [] u = tt
on_plans p a s (x ∷ xs) (e, u) =
    let i : call_on (table_of p) s x.call ≡ on_state p s x.call (read_state p s) =
    ap (λ o. on_plan s x.call o) ((plan_of_exactly (table_of p) p).1 (a, refl)) in (
      ap (λ r. r.answer) i ∙ e,
      subst (λ r. Answered (controller_of (table_of p)) r.state xs) (sym i) (on_plans p a (on_state p s x.call (read_state p s)).state xs u),
    )

right : (c : Case) → Accepted c.plan → (table_of c.plan).head.total ≡ c.total → (table_of c.plan).head.max_load_total ≡ c.max_total → map (stretch_of c.plan) (all_leaves c.plan.functions) ≡ c.stretches →
    AnsweredOn c.plan fresh c.exchanges → CaseHolds c
right c a t m s e = record { accepted = a; total_is = t; max_total_is = m; stretches_are = s; answered = on_plans c.plan a fresh c.exchanges e }

-- Plan A with U 3 is accepted as plan A is: only the range of U is new.
pub returning_A_accepted : Accepted returning_A
unfolding returning_A
returning_A_accepted =
    let a = plan_A_accepted in
    let f = a.formed in
    record {
      formed = record {
        deadline_low = omega arith;
        deadline_high = omega arith;
        switch_range = omega arith;
        resume_range = omega arith;
        some_function = f.some_function;
        few_functions = f.few_functions;
        few_leaves = f.few_leaves;
        each = f.each;
      };
      seen = a.seen;
      called = a.called;
      short = a.short;
      short_loaded = a.short_loaded;
    }

pub cases_right : CasesHold cases
unfolding cases worst_of_A CasesHold AnsweredOn plan_A plan_B smallest plans.leaves all_leaves forms linked last total silence rounds_silence visit_stretch stretch rounds_stretch passes seek onward can_end no_more no_further behind below whole kept seek_at onward_at suffix turned inside_of decode is_point respond frames points? same_numbers ◌⊕◌
cases_right = (
  right _ plan_A_accepted refl refl refl (refl, (refl, (refl, (refl, (refl, (refl, (refl, tt))))))),
  (
    right _ plan_A_accepted refl refl refl (refl, (refl, (refl, tt))),
    (
      right _ plan_A_accepted refl refl refl (refl, (refl, (refl, tt))),
      (
        right _ plan_A_accepted refl refl refl (refl, (refl, (refl, (refl, (refl, (refl, (refl, tt))))))),
        (
          right _ plan_A_accepted refl refl refl (refl, (refl, (refl, (refl, (refl, (refl, tt)))))),
          (
            right _ plan_B_accepted refl refl refl (refl, (refl, (refl, (refl, (refl, tt))))),
            (
              right _ plan_B_accepted refl refl refl (refl, (refl, (refl, (refl, (refl, tt))))),
              (
                right _ (smallest_accepted 9 (omega arith) (omega arith)) refl refl refl (refl, tt),
                (
                  right _ (smallest_accepted 10 (omega arith) (omega arith)) refl refl refl (refl, tt),
                  (right _ (smallest_accepted 18 (omega arith) (omega arith)) refl refl refl (refl, tt), (right _ (smallest_accepted 19 (omega arith) (omega arith)) refl refl refl (refl, tt), tt)),
                ),
              ),
            ),
          ),
        ),
      ),
    ),
  ),
)

-- The cases of edition 2 hold too.
pub returns_right : CasesHold returns
unfolding returns worst_of_returning_A two_returns two_stays CasesHold AnsweredOn returning_A plan_A plans.leaves all_leaves forms linked last total silence rounds_silence visit_stretch stretch rounds_stretch passes seek onward can_end no_more no_further behind below whole kept seek_at onward_at suffix turned inside_of decode is_point respond frames points? same_numbers ◌⊕◌
returns_right = (
  right _ returning_A_accepted refl refl refl (refl, (refl, (refl, (refl, (refl, (refl, (refl, tt))))))),
  (
    right _ returning_A_accepted refl refl refl (refl, (refl, (refl, (refl, (refl, (refl, (refl, tt))))))),
    (
      right _ returning_A_accepted refl refl refl (refl, (refl, (refl, (refl, (refl, (refl, (refl, tt))))))),
      (
        right _ returning_A_accepted refl refl refl (refl, (refl, (refl, (refl, (refl, (refl, (refl, tt))))))),
        (right _ returning_A_accepted refl refl refl (refl, (refl, (refl, (refl, (refl, (refl, (refl, tt))))))), tt),
      ),
    ),
  ),
)

-- So does the faster run of plan A.
pub faster_right : CaseHolds (on_A faster_on_A)
unfolding faster_on_A AnsweredOn plan_A plans.leaves all_leaves forms linked last total silence rounds_silence visit_stretch stretch rounds_stretch passes seek onward can_end no_more no_further behind below whole kept seek_at onward_at suffix turned inside_of decode is_point respond frames points? same_numbers ◌⊕◌
faster_right = right _ plan_A_accepted refl refl refl (refl, (refl, (refl, (refl, (refl, (refl, (refl, tt)))))))
