-- A text is refused by the reader exactly as the rules say.
use mathlib.Core.Bool.{Bool, true, false, ◌&&◌}
use mathlib.Core.List.{List, []}
use mathlib.Core.Logic.{◌⊎◌, ◌↔◌, inl, inr}
use mathlib.Core.Path.{◌≡◌, refl, ap, sym, ◌∙◌, subst}
use Prim.Native.Nat.{ℕ, ◌-◌, ◌^◌, ◌<◌}
use native.Mathlib.Omega.{arith}
use native.Mathlib.Decide.{dec_le}
use lib.Dec.{leb}
use lib.ListN.{length}
use borrow.Author.Tests.{leb-false, lt-leb}
use Rattle.model.specs.declared.Refusal.{Refusal}
use Rattle.model.specs.declared.Refusal.TheVariants.{Oversize, Unseen, Uncalled, Long}
use Rattle.model.specs.Plan.{C, M, Plan}
use Rattle.model.specs.Forms.{main}
use Rattle.model.specs.Runs.{Run, visits, sum}
use Rattle.model.specs.Total.{total}
use Rattle.model.specs.Places.{pick}
use Rattle.model.proofs.Theorems as model
use Rattle.reader.specs.Outcome.{Outcome, plan, refused}
use Rattle.reader.specs.Machine.{outcome}
use Rattle.reader.proofs.Theorems as reader
use Rattle.refusals.proofs.Theorems as refusals
use Rattle.table.specs.Accepting.{seen_all?, called_from?, short?}
use Rattle.table.specs.Reading.{judged, after_lines, verdict}
use Rattle.table.proofs.Accepting.{seen_all_exactly, called_exactly}
use Rattle.demands.specs.Rules.{Read, Ruled, oversize, line_refused, unseen, uncalled, long}
use Rattle.demands.proofs.Tests.{failed, fails}

-- FROM THE RULES TO THE READER

-- A text over 65,536 bytes is refused by 1.
outcome_long : (capacity : ℕ) (text : List ℕ) → 65536 < length text → outcome capacity text ≡ refused Oversize 0
unfolding outcome
outcome_long capacity text h = rw (lt-leb (length text) 65536 h)

-- What the tests for rules 8, 9 and 10 say, in this order.
abbrev Tests : Plan → Bool → Bool → Bool → Outcome
Tests p seen called short = pick seen (pick called (pick short (plan p) (refused Long 0)) (refused Uncalled 0)) (refused Unseen 0)

-- Behind the lines of a plan that keeps rules 3 to 7 and 19 these tests decide.
read_outcome : (capacity : ℕ) (text : List ℕ) (p : Plan) → Read capacity text p → verdict capacity text ≡ judged p
read_outcome capacity text p r = ap (λ o. after_lines o) ((reader.accepted capacity text p).1 (r.text_is, r.formed, r.fits))

-- A run's sum over 2^40 fails the test of the totals.
not_short : (p : Plan) (r : Run (main p)) → (2 ^ 40 < sum C (visits r)) ⊎ (2 ^ 40 < sum M (visits r)) → short? p ≡ false
not_short p r (inl h) =
    rw (lt-leb (total C (main p)) (2 ^ 40) (omega (arith, h, (model.total_is_largest p).0.bound r)))
not_short p r (inr h) =
    let e = lt-leb (total M (main p)) (2 ^ 40) (omega (arith, h, (model.total_is_largest p).1.bound r)) in
    by (leb (total C (main p)) (2 ^ 40)) e
  where
    by : (b : Bool) → leb (total M (main p)) (2 ^ 40) ≡ false → (b && leb (total M (main p)) (2 ^ 40)) ≡ false
    by true e = e
    by false e = refl

-- What the rules refuse the reader refuses.
ruled_verdict : (capacity : ℕ) (text : List ℕ) (k : Refusal) (j : ℕ) → Ruled capacity text k j → verdict capacity text ≡ refused k j
ruled_verdict capacity text k j (oversize h) = rw (outcome_long capacity text h)
ruled_verdict capacity text k j (line_refused h x) = ap (λ o. after_lines o) ((refusals.refused_exactly capacity text k j h).1 x)
ruled_verdict capacity text k j (unseen {p = p} r f) =
    read_outcome capacity text p r ∙ rw (fails (seen_all? [] p.functions) (seen_all_exactly [] p.functions) f)
ruled_verdict capacity text k j (uncalled {p = p} r a f) =
    read_outcome capacity text p r ∙
    rw ((seen_all_exactly [] p.functions).1 a, fails (called_from? p.functions 0 (length p.functions - 1)) (called_exactly p.functions) f)
ruled_verdict capacity text k j (long {p = p} r a b x h) =
    read_outcome capacity text p r ∙ rw ((seen_all_exactly [] p.functions).1 a, (called_exactly p.functions).1 b, not_short p x h)

-- FROM THE READER TO THE RULES

-- A run whose sum is over 2^40, where a total is.
over : (p : Plan) → short? p ≡ false → (r : Run (main p)) × ((2 ^ 40 < sum C (visits r)) ⊎ (2 ^ 40 < sum M (visits r)))
over p e = by (leb (total C (main p)) (2 ^ 40)) refl (leb (total M (main p)) (2 ^ 40)) refl e
  where
    by : (x : Bool) → leb (total C (main p)) (2 ^ 40) ≡ x → (y : Bool) → leb (total M (main p)) (2 ^ 40) ≡ y → (x && y) ≡ false →
        (r : Run (main p)) × ((2 ^ 40 < sum C (visits r)) ⊎ (2 ^ 40 < sum M (visits r)))
    by true d true h e = absurd (let z : ◌≡◌ {A = ℕ} 0 1 = cc in omega arith)
    by true d false h e = let (r, q) = (model.total_is_largest p).1.met in (r, inr (omega (arith, q, leb-false (total M (main p)) (2 ^ 40) h)))
    by false d y h e = let (r, q) = (model.total_is_largest p).0.met in (r, inl (omega (arith, q, leb-false (total C (main p)) (2 ^ 40) d)))

-- What is found is a plan, or a refusal that the rules say.
abbrev Found : ℕ → List ℕ → Outcome → Type 0
Found capacity text (plan p) = Unit
Found capacity text (refused k j) = Ruled capacity text k j

-- What the tests refuse rules 8, 9 and 10 refuse.
judged_ruled : (capacity : ℕ) (text : List ℕ) (p : Plan) → Read capacity text p → Found capacity text (judged p)
judged_ruled capacity text p r =
    by (seen_all? [] p.functions) refl (called_from? p.functions 0 (length p.functions - 1)) refl (short? p) refl
  where
    by : (x : Bool) → seen_all? [] p.functions ≡ x → (y : Bool) → called_from? p.functions 0 (length p.functions - 1) ≡ y →
        (z : Bool) → short? p ≡ z → Found capacity text (Tests p x y z)
    by true d true h true i = tt
    by true d true h false i =
        let (q, w) = over p i in
        long r ((seen_all_exactly [] p.functions).0 d) ((called_exactly p.functions).0 h) q w
    by true d false h z i = uncalled r ((seen_all_exactly [] p.functions).0 d) (failed _ (called_exactly p.functions) h)
    by false d y h z i = unseen r (failed _ (seen_all_exactly [] p.functions) d)

-- A refusal by the reader is by 1, of an oversize text, or by one of 2 to 7 and 19.
reader_ruled : (capacity : ℕ) (text : List ℕ) (k : Refusal) (j : ℕ) → outcome capacity text ≡ refused k j → Ruled capacity text k j
reader_ruled capacity text k j e =
    elim (dec_le (length text) 65536) [
      | yes h ↦ line_refused h ((refusals.refused_exactly capacity text k j h).0 e)
      | no h ↦
          let l : 65536 < length text = omega arith in
          subst (Found capacity text) (sym (outcome_long capacity text l) ∙ e) (oversize l)
    ]

-- What the reader refuses the rules refuse.
outcome_ruled : (capacity : ℕ) (text : List ℕ) (o : Outcome) → outcome capacity text ≡ o → Found capacity text (after_lines o)
outcome_ruled capacity text (refused k j) e = reader_ruled capacity text k j e
outcome_ruled capacity text (plan p) e =
    let (x, f, h) = reader.sound capacity text p e in
    judged_ruled capacity text p (record { text_is = x; formed = f; fits = h })

-- A text is refused by k at line j exactly when the rules say so.
pub text_exactly : (capacity : ℕ) (text : List ℕ) (k : Refusal) (j : ℕ) → (verdict capacity text ≡ refused k j) ↔ Ruled capacity text k j
text_exactly capacity text k j =
    ((λ e. subst (Found capacity text) e (outcome_ruled capacity text (outcome capacity text) refl)), ruled_verdict capacity text k j)
