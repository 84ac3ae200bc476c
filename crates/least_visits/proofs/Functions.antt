-- The functions of a table one after the other: those that are noted stay so, since a later function lies behind them. Assumes nothing.
use mathlib.Core.Path.{◌≡◌, sym, ap, ◌∙◌}
use mathlib.Core.List.{List}
use mathlib.Core.Logic.{inl, inr}
use Prim.Native.Nat.{ℕ, zero, suc, ◌+◌, ◌-◌, ◌≤◌, ◌<◌}
use Rattle.std.proofs.Math.Nat.{add-zero}
use native.Mathlib.Omega.{arith}
use lib.ListN.{length, get_or, set, length-set}
use Rattle.std.proofs.lemmas.Bool.{cases_eq}
use Rattle.std.proofs.lemmas.List.{get_or-set_same, get_or-set_other}
use Rattle.model.specs.Forms.{done}
use Rattle.short_runs.specs.Listing.{least}
use Rattle.rows.specs.declared.Code.{Code}
use Rattle.rows.specs.Leaves.{numbers}
use Rattle.rows.proofs.Shape.{rep_le}
use Rattle.place.specs.Stack.{FunctionTable}
use Rattle.place.specs.Lent.{CodeTable}
use Rattle.place.proofs.Lent.{leaves_held}
use Rattle.least_visits.specs.declared.Notes.{Notes}
use Rattle.least_visits.specs.Least.{held_visits, HasLeasts}
use Rattle.least_visits.specs.Private.{Linked, NotesPart}
use Rattle.least_visits.proofs.Noting.{noted_same}

-- The first f functions are noted, and their least numbers of visits.
pub record Done {w starts : List ℕ} {n : ℕ} (h : FunctionTable w starts n) (f : ℕ) (z : Notes) : Type 0 where
  pub noted : (g : ℕ) (l : g < n) → g < f → HasLeasts w h.funs z.leasts (get_or starts g 0) (h.each g l).piece.part.lines
  pub leasts : (g : ℕ) → g < f → get_or z.functions g 0 ≡ held_visits (least (get_or h.funs g done))
  pub places : length z.functions ≡ 16

pub done_none : {w starts : List ℕ} {n : ℕ} (h : FunctionTable w starts n) {z : Notes} → length z.functions ≡ 16 → Done h 0 z
done_none h e = record { places = e; noted = λ g l lt. absurd (omega arith); leasts = λ g lt. absurd (omega arith) }

-- Functions lie one behind the other.
ascends : {w starts : List ℕ} {n : ℕ} → FunctionTable w starts n → (g k : ℕ) → g + k ≤ n → get_or starts g 0 ≤ get_or starts (g + k) 0
ascends {starts = starts} h g zero le = omega (arith, ap (λ (i : ℕ). get_or starts i 0) (add-zero g))
ascends {w} {starts} {n} h g (suc k) le =
    let lt : g + k < n = omega arith in
    let s = h.each (g + k) lt in
    let z : g + suc k ≡ g + k + 1 = omega arith in
    let step = rep_le w s.piece.level (get_or starts (g + k) 0) (get_or starts (g + k + 1) 0) s.piece.part.lines s.piece.part.rep in
    rw z (omega (arith, ascends h g k (omega arith)))

pub before : {w starts : List ℕ} {n : ℕ} → FunctionTable w starts n → (g f : ℕ) → g ≤ f → f ≤ n → get_or starts g 0 ≤ get_or starts f 0
before h g f lo hi = let z : f ≡ g + (f - g) = omega arith in rw z (ascends h g (f - g) (omega arith))

module _ (c : Code) (h : CodeTable c) (within : get_or c.bounds.now c.functions 0 ≤ 512) where
  abbrev start : ℕ → ℕ
  start f = get_or c.bounds.now f 0

  -- The next function calls those.
  abbrev pub linked_function : {f : ℕ} {z : Notes} → Done h f z → f < c.functions → Linked c z.functions (start f) (start (f + 1))
  linked_function {f} d lt =
      let s = h.each f lt in
      record {
        left = 62;
        piece = s.piece;
        functions = h.funs;
        leasts = λ g l. d.leasts g (omega (arith, s.few));
        room = leaves_held c.row.now s.room;
        within = omega (arith, before h (f + 1) c.functions (omega arith) (omega arith));
      }

  -- It is noted as well.
  pub done_more : {f r : ℕ} {z new : Notes} → Done h f z → f < c.functions → c.functions ≤ 16 → NotesPart c z new (start f) (start (f + 1)) r →
      Done h (f + 1) (record { leasts = new.leasts; functions = set new.functions f r })
  done_more {f} {r} {z} {new} d lt few n =
      let long : length new.functions ≡ 16 = ap (λ (ts : List ℕ). length ts) n.functions ∙ d.places in
      let there : f < length new.functions = omega arith in
      record {
        places = length-set new.functions f r ∙ long;
        noted = λ g l u. elim (cases_eq g f) [
          | inl e ↦ let m = rw (← e) at n in m.noted (linked_function {z = z} (rw e d) l)
          | inr e ↦
              let q = (h.each g l).piece in
              noted_same (numbers c.row.now) h.funs z.leasts new.leasts q.level (start g) (start (g + 1)) q.part.lines q.part.rep
              (λ j lo hi. n.others j (inl (omega (arith, before h (g + 1) f (omega arith) (omega arith))))) (d.noted g l (omega arith))
        ];
        leasts = λ g u. elim (cases_eq g f) [
          | inl e ↦ rw e (get_or-set_same new.functions f r 0 there ∙ n.sum (linked_function d lt) ∙ ap held_visits (ap least (sym (h.each f lt).same)))
          | inr e ↦ get_or-set_other new.functions f g r 0 e ∙ ap (λ (ts : List ℕ). get_or ts g 0) n.functions ∙ d.leasts g (omega arith)
        ];
      }
