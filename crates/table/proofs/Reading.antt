-- A text is read as the plan p exactly when it is the one text of p, p is accepted and the lent row holds it; and so a table is that of an accepted
-- plan exactly when some text is read with it.
use mathlib.Core.Bool.{Bool, true, false, ◌&&◌}
use mathlib.Core.List.{List, []}
use mathlib.Core.Logic.{◌↔◌}
use mathlib.Core.Path.{◌≡◌, refl, ap, ◌∙◌, subst}
use Prim.Native.Nat.{ℕ, ◌-◌, ◌^◌}
use lib.Dec.{leb}
use lib.ListN.{length}
use Rattle.model.specs.declared.Refusal.{Refusal}
use Rattle.model.specs.declared.Refusal.TheVariants.{Unseen, Uncalled, Long}
use Rattle.model.specs.Plan.{C, M, Plan}
use Rattle.model.specs.Forms.{main}
use Rattle.model.specs.Total.{total}
use Rattle.model.specs.Acceptance.{Formed, Fits, Accepted}
use Rattle.model.specs.Places.{pick}
use Rattle.reader.specs.Machine.{outcome}
use Rattle.reader.specs.Outcome.{Outcome, plan, refused}
use Rattle.reader.specs.Print.{print}
use Rattle.reader.proofs.Theorems as reading
use Rattle.table.specs.Accepting.{formed?, seen_all?, called_from?}
use Rattle.table.specs.Reading.{judged, after_lines, verdict}
use Rattle.table.proofs.Tests.{four}
use Rattle.table.proofs.Accepting.{accepted_exactly, formed_exactly}

not_plan : {k : Refusal} {j : ℕ} {q : Plan} {A : Type 0} → refused k j ≡ plan q → A
not_plan e = cc

-- The tests behind the lines.
judged_plan : (a b c : Bool) (p q : Plan) → pick a (pick b (pick c (plan p) (refused Long 0)) (refused Uncalled 0)) (refused Unseen 0) ≡ plan q →
    (a ≡ true) × (b ≡ true) × (c ≡ true) × (p ≡ q)
judged_plan true true true p q e = (refl, refl, refl, cc)
judged_plan true true false p q e = not_plan e
judged_plan true false c p q e = not_plan e
judged_plan false b c p q e = not_plan e

-- Lines that are read as a plan are that plan's.
pub after_plan : (o : Outcome) (q : Plan) → after_lines o ≡ plan q → (o ≡ plan q) × (judged q ≡ plan q)
after_plan (refused k j) q e = not_plan e
after_plan (plan p) q e =
    let (a, b, c, z) = judged_plan (seen_all? [] p.functions) (called_from? p.functions 0 (length p.functions - 1))
    (leb (total C (main p)) (2 ^ 40) && leb (total M (main p)) (2 ^ 40)) p q e in
    (ap (λ x. plan x) z, subst (λ x. judged x ≡ plan q) z e)

same : {A : Type 0} → A ↔ A
same = ((λ q. q), λ q. q)

judged_accepted : (p : Plan) → Formed p → judged p ≡ plan p → Accepted p
judged_accepted p f e =
    let (a, b, c, z) = judged_plan (seen_all? [] p.functions) (called_from? p.functions 0 (length p.functions - 1))
    (leb (total C (main p)) (2 ^ 40) && leb (total M (main p)) (2 ^ 40)) p p e in
    (accepted_exactly p).0 ((four (formed? p) (seen_all? [] p.functions) (called_from? p.functions 0 (length p.functions - 1))
    (leb (total C (main p)) (2 ^ 40) && leb (total M (main p)) (2 ^ 40)) same same same same).1 ((formed_exactly p).1 f, a, b, c))

accepted_judged : (p : Plan) → Accepted p → judged p ≡ plan p
accepted_judged p a =
    let (f, x, y, z) = (four (formed? p) (seen_all? [] p.functions) (called_from? p.functions 0 (length p.functions - 1))
    (leb (total C (main p)) (2 ^ 40) && leb (total M (main p)) (2 ^ 40)) same same same same).0 ((accepted_exactly p).1 a) in
    rw (x, y, z)

pub read_exactly : (row : ℕ) (text : List ℕ) (p : Plan) → (verdict row text ≡ plan p) ↔ ((text ≡ print p) × Accepted p × Fits row p)
read_exactly row text p = (
  (λ e.
      let (o, j) = after_plan (outcome row text) p e in
      let (t, f, r) = reading.sound row text p o in
      (t, judged_accepted p f j, r)),
  λ (t, a, r). ap (λ o. after_lines o) (ap (λ x. outcome row x) t ∙ reading.complete row p a.formed r) ∙ accepted_judged p a,
)
