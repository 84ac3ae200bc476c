-- What is noted of a visit, a call and the rounds of a loop. Plain mathematics: no code is named here. Assumes nothing.
use mathlib.Core.Path.{◌≡◌, refl, sym, ap}
use mathlib.Core.Bool.{Bool, true, false}
use mathlib.Core.List.{List}
use Prim.Native.Nat.{ℕ, ◌+◌, ◌*◌, ◌≤◌, ◌<◌}
use native.Mathlib.Omega.{arith}
use lib.ListN.{get_or}
use mathlib.Core.Logic.{inl, inr}
use Rattle.std.proofs.lemmas.Bool.{cases_eq}
use Rattle.model.specs.Plan.{Block}
use Rattle.model.specs.Forms.{Forms, done}
use Rattle.model.specs.Total.{total}
use Rattle.model.specs.Places.{pick}
use Rattle.rows.specs.Costs.{limit}
use Rattle.rows.specs.Rows.{block_at}
use Rattle.stretch_visits.specs.declared.Notes.{Notes}
use Rattle.stretch_visits.specs.Private.{dot, notes_worth, Noted, Grown}
use Rattle.stretch_visits.specs.Worth.{Within, worth}
use Rattle.stretch_visits.proofs.Valuing.{worth_below}

-- A choice between equals.
pub pick_same : (b : Bool) (x : ℕ) → pick b x x ≡ x
pick_same true x = refl
pick_same false x = refl

module _ {k : Block → ℕ} {w : List ℕ} {G : List Forms} where
  -- Nothing was noted, and nothing leads on.
  pub noted_shut : (v : (Block → ℕ) → ℕ → ℕ) {c times few : ℕ} {z : Notes} → ((m : Block → ℕ) → Within k m → (x : ℕ) → v m x ≡ 0) →
      Noted k w G v c times few z z false
  noted_shut v {times = times} {z = z} h =
      record { says = λ m y x. ap (λ a. notes_worth k m w G z + times * a) (sym (h m y x)); low = omega arith; kept = λ f l. refl; runnable = λ r. r }

  -- As often again, where what is behind it is left.
  pub noted_rounds : (n : ℕ) {v : (Block → ℕ) → ℕ → ℕ} {c times few : ℕ} {old new : Notes} {through : Bool} →
      Noted k w G v c (times * n) few old new through → Noted k w G (λ m x. n * v m 0 + x) (n * c) times few old new true
  noted_rounds n {v} {c} {times} {through = through} a =
      record {
        says = λ m y x. omega (arith, rw (pick_same through 0) at (a.says m y 0));
        low = omega (arith, a.low);
        kept = a.kept;
        runnable = a.runnable;
      }

  -- Visits of a leaf.
  pub noted_visit : {i times few : ℕ} {old new : Notes} → Grown i times (k (block_at w i)) old.leaves new.leaves → new.calls ≡ old.calls →
      Noted k w G (λ m x. m (block_at w i) + x) (k (block_at w i)) times few old new true
  noted_visit {i} {times} {few} {old} {new} g e =
      record {
        says = λ m y x. omega (arith, g.says (λ j. m (block_at w j)) (y (block_at w i)), ap (λ (c : List ℕ). dot c (λ f. worth k m (get_or G f done) 0 0)) e);
        low = omega (arith, g.says (λ j. k (block_at w j)) (omega arith), ap (λ (c : List ℕ). dot c (λ f. total k (get_or G f done))) e);
        kept = λ f l. ap (λ (c : List ℕ). get_or c f 0) e;
        runnable = λ r f. rw e (r f);
      }

  -- Calls of a function.
  pub noted_enter : {f t times few : ℕ} {old new : Notes} → Grown f times t old.calls new.calls → new.leaves ≡ old.leaves
      → t ≡ total k (get_or G f done) → t ≤ limit → f < few
      → Noted k w G (λ m x. worth k m (get_or G f done) 0 0 + x) (total k (get_or G f done)) times few old new true
  noted_enter {f} {t} {times} {few} {old} {new} g e s le lt =
      record {
        says = λ m y x.
            let u = worth_below k m y (get_or G f done) 0 0 in
            omega (arith, g.says (λ j. worth k m (get_or G j done) 0 0) (omega arith), ap (λ (c : List ℕ). dot c (λ i. m (block_at w i))) e);
        low = omega (arith, g.says (λ j. total k (get_or G j done)) (omega arith), ap (λ (c : List ℕ). dot c (λ i. k (block_at w i))) e);
        kept = λ j l. g.others j (λ z. omega arith);
        runnable = λ r j p. elim (cases_eq j f) [
          | inl z ↦ rw z (omega arith)
          | inr z ↦ r j (rw (g.others j z) at p)
        ];
      }
