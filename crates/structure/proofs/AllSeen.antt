-- Rule 8 of all functions, one after the other. Assumes nothing.
use mathlib.Core.Path.{◌≡◌, refl}
use mathlib.Core.Bool.{Bool, true, false}
use mathlib.Core.List.{List, [], ◌∷◌, ◌++◌}
use Prim.Native.Nat.{ℕ, zero, suc, ◌+◌, ◌≤◌, ◌<◌}
use native.Mathlib.Omega.{arith}
use native.Mathlib.Decide.{dec_lt}
use native.Mathlib.Nat.{not-suc-le-zero, le_of_suc-le-suc}
use native.Mathlib.Numerals.{add-one}
use lib.ListN.{length, get_or, take, set, length-append, length-set, get_or-append}
use lib.Seq.{length-take-le, take-suc, take-suc-set, take_all, get_or_at}
use Rattle.model.specs.Plan.{Lines, close}
use Rattle.model.specs.Forms.{Forms, done, forms, linked}
use Rattle.model.specs.Levels.{heights}
use Rattle.model.specs.Acceptance.{Seen, SeenAll}
use Rattle.rows.specs.Answers.{Says}
use Rattle.rows.proofs.Answers.{said_true, said_false}
use Rattle.rows.specs.Plans.{PlanOf}
use Rattle.structure.specs.Private.{Text, Pointed, Flags}
use Rattle.rows.proofs.Plans.{function_kept, length_heights, plan_rep}

linked_more : (ls : List Lines) (l : Lines) (fs : List Forms) → linked fs (ls ++ (l ∷ [])) ≡ linked fs ls ++ (forms (linked fs ls) l ∷ [])
unfolding linked
linked_more [] l fs = refl
linked_more (x ∷ ls) l fs = linked_more ls l (fs ++ (forms fs x ∷ []))

seen_all_more : (ls : List Lines) (l : Lines) (fs : List Forms) → SeenAll fs ls → Seen (forms (linked fs ls) l) → SeenAll fs (ls ++ (l ∷ []))
unfolding linked SeenAll
seen_all_more [] l fs h s = (s, tt)
seen_all_more (x ∷ ls) l fs h s = (h.0, seen_all_more ls l (fs ++ (forms fs x ∷ [])) h.1 s)

seen_all_at : (ls : List Lines) (fs : List Forms) (k : ℕ) → SeenAll fs ls → k < length ls → Seen (forms (linked fs (take k ls)) (get_or ls k close))
unfolding linked SeenAll
seen_all_at [] fs k h lt = absurd (not-suc-le-zero lt)
seen_all_at (x ∷ ls) fs zero h lt = h.0
seen_all_at (x ∷ ls) fs (suc k) h lt = seen_all_at ls (fs ++ (forms fs x ∷ [])) k h.1 (le_of_suc-le-suc lt)

flags_more : {has : List Bool} {fs : List Forms} (x : Bool) (g : Forms) → Flags has fs → Says x (Pointed g) → Flags (has ++ (x ∷ [])) (fs ++ (g ∷ []))
flags_more {has} {fs} x g h s =
    let c = h.count in
    record {
      count = omega (arith, length-append has (x ∷ []), length-append fs (g ∷ []));
      flags = λ f lt.
          elim (dec_lt f (length fs)) [
            | yes z ↦
                rw (get_or-append has (x ∷ []) false f (omega arith), get_or-append fs (g ∷ []) done f z) (h.flags f z)
            | no z ↦
                let k : length fs ≡ f = omega (arith, length-append fs (g ∷ [])) in
                rw (get_or_at has x [] false f (omega arith), get_or_at fs g [] done f k) s
          ];
    }

-- A function of a plan, with its number.
abbrev pub plan_text : {w s : List ℕ} {n f k from to : ℕ} (p : PlanOf w s n) → f < n → from ≡ get_or s f 0 → to ≡ get_or s (f + 1) 0 → k ≡ f → Text w k from to
plan_text {w} {s} {n} {f} {k} p lt hf ht hk =
    let x : f < length p.functions = omega (arith, p.count) in
    let y : length (heights [] (take f p.functions)) ≡ k = omega (arith, length_heights (take f p.functions) [], length-take-le f p.functions (omega arith)) in
    record {
      lines = get_or p.functions f close;
      rep = rw (hf, ht) (plan_rep p lt);
      ranged = rw y at (function_kept p.functions [] 0 f p.kept x).ranged;
    }

-- The first f functions of a plan keep the rule, and these are the flags of their points.
pub record SeenUpTo (w s : List ℕ) (n : ℕ) (has : List Bool) (f : ℕ) : Type 0 where
  pub room : length has ≡ 16
  pub flags : (p : PlanOf w s n) → Flags (take f has) (linked [] (take f p.functions))
  pub seen : (p : PlanOf w s n) → SeenAll [] (take f p.functions)

pub up_to_none : {w s : List ℕ} {n : ℕ} (has : List Bool) → length has ≡ 16 → SeenUpTo w s n has 0
unfolding linked SeenAll
up_to_none has h = record { room = h; flags = λ p. record { count = refl; flags = λ f lt. absurd (not-suc-le-zero lt) }; seen = λ p. tt }

-- What the code learns of the function f.
abbrev pub Tested : List ℕ → List Bool → ℕ → ℕ → ℕ → (Forms → Type 0) → Bool → Type 0
Tested w has f from to P r = (fs : List Forms) → Flags (take f has) fs → (t : Text w (length (take f has)) from to) → Says r (P (forms fs t.lines))

module _
    {w s : List ℕ}
    {n f from to : ℕ}
    {has : List Bool}
    (h : SeenUpTo w s n has f)
    (lt : f < n)
    (few : n ≤ 16)
    (hf : from ≡ get_or s f 0)
    (ht : to ≡ get_or s (f + 1) 0)
  where
    numbered : length (take f has) ≡ f
    numbered = length-take-le f has (omega (arith, h.room))

    pub its_text : PlanOf w s n → Text w (length (take f has)) from to
    its_text p = plan_text p lt hf ht numbered

    pub not_seen : (r : Bool) → r ≡ false → Tested w has f from to Seen r → (p : PlanOf w s n) → SeenAll [] p.functions → ⊥
    not_seen r e q p a =
        said_false {A = Seen (forms (linked [] (take f p.functions)) (get_or p.functions f close))} r e
        (q (linked [] (take f p.functions)) (h.flags p) (plan_text p lt hf ht numbered))
        (seen_all_at p.functions [] f a (omega (arith, p.count)))

    pub up_to_more : (x r : Bool) → r ≡ true → Tested w has f from to Seen r → Tested w has f from to Pointed x → SeenUpTo w s n (set has f x) (f + 1)
    up_to_more x r e q o =
        record {
          room = simp length-set h.room;
          flags = λ p.
              let fs = linked [] (take f p.functions) in
              let l = get_or p.functions f close in
              rw (
                add-one f,
                take-suc-set has f x (omega (arith, h.room)),
                take-suc p.functions f close (omega (arith, p.count)),
                linked_more (take f p.functions) l [],
              )
              (flags_more x (forms fs l) (h.flags p) (o fs (h.flags p) (plan_text p lt hf ht numbered)));
          seen = λ p.
              let fs = linked [] (take f p.functions) in
              let l = get_or p.functions f close in
              rw (add-one f, take-suc p.functions f close (omega (arith, p.count)))
              (seen_all_more (take f p.functions) l [] (h.seen p)
              (said_true {A = Seen (forms fs l)} r e (q fs (h.flags p) (plan_text p lt hf ht numbered))));
        }

pub up_to_all : {w s : List ℕ} {n : ℕ} {has : List Bool} → SeenUpTo w s n has n → (p : PlanOf w s n) → SeenAll [] p.functions
up_to_all {w} {s} {n} h p = rw (take_all n p.functions (omega (arith, p.count))) at (h.seen p)
