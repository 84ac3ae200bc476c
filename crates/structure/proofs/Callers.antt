-- Calls among lines, and among the records of a row. Assumes nothing.
use mathlib.Core.Path.{◌≡◌, refl, ap, ◌∙◌}
use mathlib.Core.Bool.{Bool, true, false}
use mathlib.Core.List.{List, [], ◌∷◌}
use mathlib.Core.Logic.{inl, inr, ⊎_elim}
use Prim.Native.Nat.{ℕ, suc, ◌+◌, ◌≤◌, ◌<◌}
use native.Mathlib.Omega.{arith}
use native.Mathlib.Decide.{dec_le, dec_lt}
use lib.ListN.{length, get_or}
use Rattle.model.specs.Plan.{Lines, close, leaf_line, call_line, loop_line, if_line}
use Rattle.model.specs.Acceptance.{Names, Called}
use Rattle.rows.specs.Rows.{kind_at, detail_at, other_at, after_at, Rep}
use Rattle.rows.proofs.Shape.{rep_le}
use Rattle.rows.specs.Answers.{Says}
use Rattle.rows.proofs.Answers.{said_true, said_false}
use Rattle.rows.specs.Plans.{Lies, PlanOf}
use Rattle.structure.proofs.Found.{found, found_sound}
use Rattle.rows.proofs.Measures.{function_part}
use Rattle.rows.proofs.Plans.{function_kept, bound_le, plan_rep}

-- A record from i up to e is a call of f.
pub record Caller (w : List ℕ) (f i e : ℕ) : Type 0 where
  pub place : ℕ
  pub low : i ≤ place
  pub high : place < e
  pub kind : kind_at w place ≡ 1
  pub target : detail_at w place ≡ f

-- A caller in a part is one in the whole.
pub wider : {w : List ℕ} {f i e a b : ℕ} → Caller w f i e → a ≤ i → e ≤ b → Caller w f a b
wider c x y = record { place = c.place; low = omega (arith, c.low); high = omega (arith, c.high); kind = c.kind; target = c.target }

module _ (w : List ℕ) (f : ℕ) where
  -- A call among the lines is a record that calls.
  names_caller : (ls : Lines) (l i e : ℕ) → Rep w l i e ls → Names f ls → Caller w f i e
  unfolding Rep Names
  names_caller close l i e h n = absurd n
  names_caller (leaf_line b r) l i e h n = wider (names_caller r l (after_at w i) e h.4 n) (omega arith) (omega arith)
  names_caller (call_line b g r) l i e h n =
      let k = rep_le w l (after_at w i) e r h.4 in
      ⊎_elim (λ x. record { place = i; low = omega arith; high = omega arith; kind = h.0.0; target = h.1 ∙ x })
      (λ x. wider (names_caller r l (after_at w i) e h.4 x) (omega arith) (omega arith)) n
  names_caller (loop_line b m body r) l i e h n =
      let k = rep_le w (suc l) (i + 1) (after_at w i) body h.3 in
      let o = rep_le w l (after_at w i) e r h.4 in
      ⊎_elim (λ x. wider (names_caller body (suc l) (i + 1) (after_at w i) h.3 x) (omega arith) o)
      (λ x. wider (names_caller r l (after_at w i) e h.4 x) (omega arith) (omega arith)) n
  names_caller (if_line b t s r) l i e h n =
      let k = rep_le w l (i + 1) (other_at w i) t h.2 in
      let o = rep_le w l (other_at w i) (after_at w i) s h.3 in
      let p = rep_le w l (after_at w i) e r h.4 in
      ⊎_elim (λ x. wider (names_caller t l (i + 1) (other_at w i) h.2 x) (omega arith) (omega arith))
      (λ y. ⊎_elim (λ x. wider (names_caller s l (other_at w i) (after_at w i) h.3 x) (omega arith) p)
      (λ x. wider (names_caller r l (after_at w i) e h.4 x) (omega arith) (omega arith)) y) n

  -- And back.
  caller_names : (ls : Lines) (l i e : ℕ) → Rep w l i e ls → (j : ℕ) → i ≤ j → j < e → kind_at w j ≡ 1 → detail_at w j ≡ f → Names f ls
  unfolding Rep Names
  caller_names close l i e h j a b k t = absurd (omega arith)
  caller_names (leaf_line x r) l i e h j a b k t =
      elim (dec_le j i) [
        | yes z ↦ let q : j ≡ i = omega arith in absurd (omega (arith, ap (λ (y : ℕ). kind_at w y) q))
        | no z ↦ caller_names r l (after_at w i) e h.4 j (omega arith) b k t
      ]
  caller_names (call_line x g r) l i e h j a b k t =
      elim (dec_le j i) [
        | yes z ↦ let q : j ≡ i = omega arith in inl (omega (arith, ap (λ (y : ℕ). detail_at w y) q))
        | no z ↦ inr (caller_names r l (after_at w i) e h.4 j (omega arith) b k t)
      ]
  caller_names (loop_line x m body r) l i e h j a b k t =
      elim (dec_le j i) [
        | yes z ↦ let q : j ≡ i = omega arith in absurd (omega (arith, ap (λ (y : ℕ). kind_at w y) q))
        | no z ↦
            elim (dec_lt j (after_at w i)) [
              | yes y ↦ inl (caller_names body (suc l) (i + 1) (after_at w i) h.3 j (omega arith) y k t)
              | no y ↦ inr (caller_names r l (after_at w i) e h.4 j (omega arith) b k t)
            ]
      ]
  caller_names (if_line x u s r) l i e h j a b k t =
      elim (dec_le j i) [
        | yes z ↦ let q : j ≡ i = omega arith in absurd (omega (arith, ap (λ (y : ℕ). kind_at w y) q))
        | no z ↦
            elim (dec_lt j (other_at w i)) [
              | yes y ↦ inl (caller_names u l (i + 1) (other_at w i) h.2 j (omega arith) y k t)
              | no y ↦
                  elim (dec_lt j (after_at w i)) [
                    | yes v ↦ inr (inl (caller_names s l (other_at w i) (after_at w i) h.3 j (omega arith) v k t))
                    | no v ↦ inr (inr (caller_names r l (after_at w i) e h.4 j (omega arith) b k t))
                  ]
            ]
      ]

-- The record j is one of the function k.
pub record Inside (s : List ℕ) (n j : ℕ) : Type 0 where
  pub function : ℕ
  pub below : function < n
  pub low : get_or s function 0 ≤ j
  pub high : j < get_or s (function + 1) 0

lies_find :
    (w s : List ℕ) (ls : List Lines) (f : ℕ) → Lies w s f ls → (j : ℕ) → get_or s f 0 ≤ j → j < get_or s (f + length ls) 0
    → (k : ℕ) × (k < f + length ls) × (get_or s k 0 ≤ j) × (j < get_or s (k + 1) 0)
unfolding Lies
lies_find w s [] f h j a b = let q : f + 0 ≡ f = omega arith in absurd (omega (arith, ap (λ (x : ℕ). get_or s x 0) q))
lies_find w s (l ∷ ls) f h j a b =
    let q : f + suc (length ls) ≡ f + 1 + length ls = omega arith in
    elim (dec_lt j (get_or s (f + 1) 0)) [
      | yes z ↦ (f, omega arith, a, z)
      | no z ↦ let x = lies_find w s ls (f + 1) h.1 j (omega arith) (rw q at b) in (x.0, omega (arith, x.1), x.2, x.3)
    ]

-- Every leaf is in a function.
pub inside : {w s : List ℕ} {n : ℕ} (p : PlanOf w s n) (j : ℕ) → j < get_or s n 0 → Inside s n j
inside {w} {s} {n} p j lt =
    let q : 0 + length p.functions ≡ n = omega (arith, p.count) in
    let x = lies_find w s p.functions 0 p.lie j (omega (arith, p.bounds.first)) (rw q lt) in
    record { function = x.0; below = omega (arith, x.1); low = x.2; high = x.3 }

-- A call of a plan names one of sixteen functions.
pub call_few : {w s : List ℕ} {n : ℕ} (p : PlanOf w s n) (j : ℕ) → j < get_or s n 0 → kind_at w j ≡ 1 → detail_at w j ≤ 15
call_few {w} {s} {n} p j lt kind =
    let i = inside p j lt in
    let k : i.function < length p.functions = omega (arith, p.count, i.below) in
    let q =
    function_part (get_or p.functions i.function close) (plan_rep p i.below)
    (function_kept p.functions [] 0 i.function p.kept k) refl
    in
    ((found_sound (found q j i.low i.high)).call kind).few

-- Every function but the last is called exactly if a record of the row calls it.
pub called_callers : {w s : List ℕ} {n : ℕ} (p : PlanOf w s n) → Called p.functions → (f : ℕ) → f + 1 < n → Caller w f 0 (get_or s n 0)
called_callers {w} {s} {n} p h f lt =
    let x = h f (omega (arith, p.count)) in
    let k : x.0 < n = omega (arith, p.count, x.1) in
    let c = names_caller w f (get_or p.functions x.0 close) 1 (get_or s x.0 0) (get_or s (x.0 + 1) 0) (plan_rep p k) x.2 in
    wider c (omega arith) (bound_le p k)

pub callers_called : {w s : List ℕ} {n : ℕ} (p : PlanOf w s n) → ((f : ℕ) → f + 1 < n → Caller w f 0 (get_or s n 0)) → Called p.functions
callers_called {w} {s} {n} p h f lt =
    let c = h f (omega (arith, p.count)) in
    let i = inside p c.place c.high in
    let r = plan_rep p i.below in (
      i.function,
      omega (arith, p.count, i.below),
      caller_names w f (get_or p.functions i.function close) 1 (get_or s i.function 0) (get_or s (i.function + 1) 0) r c.place i.low i.high
          c.kind c.target,
    )

-- The flags of the functions that records before i call.
pub record Marked (w : List ℕ) (named : List Bool) (i : ℕ) : Type 0 where
  pub count : length named ≡ 16
  pub marks : (f : ℕ) → f < 16 → Says (get_or named f false) (Caller w f 0 i)

-- What a flag says once all records before e are read.
pub marked_yes : {w : List ℕ} {named : List Bool} {i e : ℕ} (f : ℕ) → Marked w named i → f < 16 → i ≡ e → get_or named f false ≡ true → Caller w f 0 e
marked_yes {w} {named} {i} f m lt q y = rw q at (said_true {A = Caller w f 0 i} _ y (m.marks f lt))

pub marked_no : {w : List ℕ} {named : List Bool} {i e : ℕ} (f : ℕ) → Marked w named i → f < 16 → i ≡ e → get_or named f false ≡ false → Caller w f 0 e → ⊥
marked_no {w} {named} {i} f m lt q y c = said_false {A = Caller w f 0 i} _ y (m.marks f lt) (rw q c)
