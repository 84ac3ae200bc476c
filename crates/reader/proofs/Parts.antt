-- Reading into the first leaves of a row, as many of them as are used, is reading into the row. Assumes nothing.
use Prim.Native.Nat.{ℕ, ◌≤◌, min}
use mathlib.Core.Path.{◌≡◌, refl, sym, ap, subst, ◌∙◌}
use mathlib.Core.List.{List, ◌++◌, map}
use native.Mathlib.Omega.{arith}
use lib.ListN.{length, take, drop}
use lib.Seq.{sets, length-take-le}
use lib.Dec.{leb}
use Rattle.std.specs.Prelude.{Result, Ok, Err}
use Rattle.std.proofs.lemmas.List.{map-append, take-append-drop}
use Rattle.model.specs.declared.Refusal.{Refusal}
use Rattle.model.specs.Plan.{Plan}
use Rattle.model.specs.Places.{pick}
use Rattle.text.specs.Text.{lines}
use Rattle.rows.specs.declared.Leaf.{Leaf}
use Rattle.rows.specs.Leaves.{numbers}
use Rattle.rows.specs.Records.{row_of}
use Rattle.rows.proofs.Leaves.{numbers_append, numbers_length}
use Rattle.reader.specs.declared.RefusedAt.{RefusedAt}
use Rattle.reader.specs.declared.Raw.{Raw}
use Rattle.reader.specs.Machine.{start, run, outcome}
use Rattle.reader.specs.Outcome.{Outcome, plan, refused}
use Rattle.reader.specs.Raw.{raw_of, row_left, Written, derived}
use Rattle.reader.proofs.Stores.{sets_first}
use Rattle.reader.proofs.Theorems.{sound, row_length}

-- A column whose first n numbers stay, stays.
column_behind : (f : Leaf → ℕ) (n : ℕ) (ls ms : List Leaf) → map f ms ≡ map f (take n ls) → map f (ms ++ drop n ls) ≡ map f ls
column_behind f n ls ms e =
    map-append f ms (drop n ls) ∙
    (ap (λ (x : List ℕ). x ++ map f (drop n ls)) e ∙ (sym (map-append f (take n ls) (drop n ls)) ∙ ap (λ (x : List Leaf). map f x) (take-append-drop n ls)))

-- So what is derived of the leaves stays where it stays of the first n.
pub derived_behind : (n : ℕ) (ls ms : List Leaf) → derived ms ≡ derived (take n ls) → derived (ms ++ drop n ls) ≡ derived ls
derived_behind n ls ms e =
    λ j. (
      column_behind (λ (l : Leaf). l.turn) n ls ms (ap (λ (x : List ℕ × List ℕ × List ℕ). x.0) e) j,
      column_behind (λ (l : Leaf). l.tail) n ls ms (ap (λ (x : List ℕ × List ℕ × List ℕ). x.1) e) j,
      column_behind (λ (l : Leaf). l.max_load_turn) n ls ms (ap (λ (x : List ℕ × List ℕ × List ℕ). x.2) e) j,
    )

-- No more than 512 records are used.
capped : (row : ℕ) (text : List ℕ) → outcome (min 512 row) text ≡ outcome row text
unfolding outcome
capped row text =
    let e : min 512 (min 512 row) ≡ min 512 row = omega arith in
    ap (λ (n : ℕ). pick (leb (length text) 65536) (run n start 0 1 (lines text)) (refused Refusal.Oversize 0)) e

-- The records of a plan that the first n leaves have room for.
written_behind : (o : Outcome) (n : ℕ) (ls ms : List Leaf) → ((p : Plan) → o ≡ plan p → length (row_of p) ≤ length (numbers (take n ls)))
    → Written o (numbers (take n ls)) (numbers ms) → Written o (numbers ls) (numbers (ms ++ drop n ls))
written_behind (refused k j) n ls ms h w = tt
written_behind (plan p) n ls ms h w =
    let whole : numbers (take n ls) ++ numbers (drop n ls) ≡ numbers ls =
    sym (numbers_append (take n ls) (drop n ls)) ∙ ap (λ (x : List Leaf). numbers x) (take-append-drop n ls) in
    numbers_append ms (drop n ls) ∙
    (ap (λ (x : List ℕ). x ++ numbers (drop n ls)) w ∙
    (sym (sets_first (row_of p) (numbers (take n ls)) (numbers (drop n ls)) 0 (omega (arith, h p refl))) ∙ ap (λ (x : List ℕ). sets x 0 (row_of p)) whole))

-- What is answered and written of a text.
pub read_behind : {r : Result Raw RefusedAt} (text : List ℕ) (capacity n : ℕ) (ls ms : List Leaf) → n ≡ min 512 capacity → n ≤ length ls
    → r ≡ raw_of (outcome (length (take n ls)) text) → Written (outcome (length (take n ls)) text) (numbers (take n ls)) (numbers ms)
    → (r ≡ raw_of (outcome capacity text)) × Written (outcome capacity text) (numbers ls) (numbers (ms ++ drop n ls))
read_behind text capacity n ls ms e h a w =
    let wide : length (take n ls) ≡ n = length-take-le n ls h in
    let o : outcome (length (take n ls)) text ≡ outcome capacity text = ap (λ (x : ℕ). outcome x text) (wide ∙ e) ∙ capped capacity text in
    let fits : (p : Plan) → outcome (length (take n ls)) text ≡ plan p → length (row_of p) ≤ length (numbers (take n ls)) =
    λ p q. let s = sound (length (take n ls)) text p q in omega (arith, s.2, row_length p, numbers_length (take n ls)) in
    (a ∙ ap raw_of o, subst (λ (x : Outcome). Written x (numbers ls) (numbers (ms ++ drop n ls))) o (written_behind (outcome (length (take n ls)) text) n ls ms fits w))

-- Of an accepted plan what is written is what is left, and a refusal leaves all.
pub left_accepted : (o : Outcome) (R₀ R : List ℕ) {raw : Raw} → Ok raw ≡ raw_of o → Written o R₀ R → R ≡ row_left o R₀
left_accepted (plan p) R₀ R e w = w
left_accepted (refused k j) R₀ R e w = cc

pub left_refused : (o : Outcome) (R₀ : List ℕ) {x : RefusedAt} → Err x ≡ raw_of o → R₀ ≡ row_left o R₀
left_refused (plan p) R₀ e = cc
left_refused (refused k j) R₀ e = refl
