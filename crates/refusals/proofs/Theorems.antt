-- The theorems of refusals 2 to 7 and 19, to be read; the first three are proved in `Refusal` beside this file. The definitions to believe are in specs/Refusal
-- (which line breaks which rule, with no reader in it), and in the reader's specs: Machine (`outcome`, what the reader makes of a text) and Print.
use Prim.Native.Nat.{ℕ, ◌≤◌}
use mathlib.Core.List.{List}
use mathlib.Core.Logic.{◌⊎◌, ◌↔◌, inl, inr}
use mathlib.Core.Path.{◌≡◌, refl, sym, subst}
use lib.ListN.{length}
use Rattle.model.specs.declared.Refusal.{Refusal}
use Rattle.model.specs.Refusals.{number_of}
use Rattle.model.specs.Plan.{Plan}
use Rattle.model.specs.Acceptance.{Formed, Fits}
use Rattle.reader.specs.Outcome.{Outcome, plan, refused}
use Rattle.reader.specs.Machine.{outcome}
use Rattle.reader.specs.Print.{print}
use Rattle.reader.proofs.Theorems as reader
use Rattle.refusals.specs.Refusal.{RefusedAt}
use Rattle.refusals.proofs.Refusal as refusals

-- Consider any text of at most 65,536 bytes. The reader refuses it by k at line j exactly when the rules say so of its lines: none of the lines before
-- line j breaks one of the rules 2 to 7 and 19, and k is the first that line j breaks; or the text ends early (2).
pub refused_exactly : (row : ℕ) (text : List ℕ) (k : Refusal) (j : ℕ) → length text ≤ 65536 → (outcome row text ≡ refused k j) ↔ RefusedAt row text k j
refused_exactly = refusals.refused_exactly

-- The rules refuse a text, of any length, by one number and at one line at most ..
pub refused_once : {row : ℕ} {text : List ℕ} {k k' : Refusal} {j j' : ℕ} → RefusedAt row text k j → RefusedAt row text k' j' → (k ≡ k') × (j ≡ j')
refused_once = refusals.refused_once

-- .. and the number is one of 2 to 7, or 19.
pub refused_rule : {row : ℕ} {text : List ℕ} {k : Refusal} {j : ℕ} → RefusedAt row text k j → ((2 ≤ number_of k) × (number_of k ≤ 7)) ⊎ (number_of k ≡ 19)
refused_rule = refusals.refused_rule

-- A text of at most 65,536 bytes is the text of a plan that keeps rules 3 to 7 and 19 and whose leaves the lent row holds, or the rules refuse it at a line ..
pub plan_or_refused : (row : ℕ) (text : List ℕ) → length text ≤ 65536 →
    ((p : Plan) × ((text ≡ print p) × Formed p × Fits row p)) ⊎ ((k : Refusal) × (j : ℕ) × RefusedAt row text k j)
plan_or_refused row text h = by (outcome row text) refl
  where
    by : (o : Outcome) → outcome row text ≡ o → ((p : Plan) × ((text ≡ print p) × Formed p × Fits row p)) ⊎ ((k : Refusal) × (j : ℕ) × RefusedAt row text k j)
    by (plan p) e = inl (p, reader.sound row text p e)
    by (refused k j) e = inr (k, j, (refused_exactly row text k j h).0 e)

-- .. and never both.
pub plan_not_refused : {row : ℕ} {text : List ℕ} {k : Refusal} {j : ℕ} (p : Plan) → text ≡ print p → Formed p → Fits row p → ¬ RefusedAt row text k j
plan_not_refused {row} {text} {k} {j} p e w f r =
    let h : length text ≤ 65536 = subst (λ x. length x ≤ 65536) (sym e) (reader.print_short p w) in
    reader.refused_none row text k j ((refused_exactly row text k j h).1 r) p w f e
