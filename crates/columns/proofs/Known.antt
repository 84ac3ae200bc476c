-- Only the totals of functions that may be called count, in tails; and the totals at hand are those of the plan's functions.
-- Assumes nothing.
use mathlib.Core.Logic.{inl, inr}
use mathlib.Core.Path.{◌≡◌, refl, sym, ap, ◌∙◌}
use mathlib.Core.List.{List, [], ◌∷◌}
use Prim.Native.Nat.{ℕ, zero, suc, ◌+◌, ◌-◌, ◌*◌, ◌≤◌, ◌<◌}
use native.Mathlib.Nat.{not-suc-le-zero}
use native.Mathlib.Decide.{dec_lt}
use native.Mathlib.Omega.{arith}
use lib.ListN.{length, get_or}
use Rattle.model.specs.Plan.{Block, C, Lines, close, leaf_line, call_line, loop_line, if_line}
use Rattle.model.specs.Total.{tally, tallies}
use Rattle.model.specs.Tail.{tail}
use Rattle.model.specs.Acceptance.{Names}
use Rattle.model.proofs.Targets.{Below, Turning}
use Rattle.rows.specs.Rows.{Rules}
use Rattle.rows.specs.Plans.{PlanOf, lines_of}
use Rattle.rows.proofs.Plans.{plan_rules, heights_before}
use Rattle.rows.specs.Costs.{limit}
use Rattle.columns.specs.Whole.{known, Measured, Exact}
use Rattle.columns.proofs.Sizes.{round_le}
use Rattle.columns.proofs.Functions.{tally_same, known_at, fun_below}

-- The totals ts and us of the first n functions are the same.
abbrev pub Agree : List ℕ → List ℕ → ℕ → Type 0
Agree ts us n = (j : ℕ) → j < n → get_or ts j 0 ≡ get_or us j 0

pub tail_same : (ts us : List ℕ) (n x : ℕ) → Agree ts us n → (l : Lines) (s : ℕ) → Below n l → tail ts x l s ≡ tail us x l s
unfolding tail Below
tail_same ts us n x e close s b = refl
tail_same ts us n x e (leaf_line y r) s b = rw (tally_same C ts us n e (leaf_line y r) b, tail_same ts us n x e r s b)
tail_same ts us n x e (call_line y f r) s b = rw (tally_same C ts us n e (call_line y f r) b, tail_same ts us n x e r s b.1)
tail_same ts us n x e (loop_line y m body r) s b =
    let c = C y + (m - 1) * (tally C us body + C y) + tally C us r + s in
    rw (tally_same C ts us n e (loop_line y m body r) b, tally_same C ts us n e body b.0, tally_same C ts us n e r b.1, tail_same ts us n x e body c b.0, tail_same ts us n x e r s b.1)
tail_same ts us n x e (if_line y t f r) s b =
    let c = tally C us r + s in
    rw (tally_same C ts us n e (if_line y t f r) b, tally_same C ts us n e r b.2, tail_same ts us n x e t c b.0, tail_same ts us n x e f c b.1, tail_same ts us n x e r s b.2)

-- Exact totals are the totals of the functions, one after the other.
exact_at : {k : Block → ℕ} {w starts ts o : List ℕ} {n : ℕ} (v : PlanOf w starts n) → Exact k (lines_of v) starts n ts o → (m f : ℕ) → f < m → f < n
    → get_or ts f 0 ≡ tally k (known k (lines_of v) f) (lines_of v f)
exact_at v q zero f h lt = absurd (not-suc-le-zero h)
exact_at {k} {w} {starts} {ts} {o} {n} v q (suc m) f h lt =
    let F = lines_of v in
    q.total f lt ∙
    tally_same k ts (known k F f) f (λ j i. exact_at v q m j (omega arith) (omega arith) ∙ sym (known_at k F f j i)) (F f) (fun_below v f lt)

pub exact_known : {k : Block → ℕ} {w starts ts o : List ℕ} {n : ℕ} (v : PlanOf w starts n) → Exact k (lines_of v) starts n ts o → Agree ts (known k (lines_of v) n) n
exact_known {k} {w} {starts} {ts} {o} {n} v q j h = exact_at v q n j h h ∙ sym (known_at k (lines_of v) n j h)

-- And they are as `measure` gives them.
pub exact_measured : {k : Block → ℕ} {w starts ts o : List ℕ} {n : ℕ} (v : PlanOf w starts n) → Exact k (lines_of v) starts n ts o → Measured k (lines_of v) starts n ts o
exact_measured v q = record { totals = λ f h. omega (arith, exact_known v q f h, q.small f h); rounds = q.rounds }

-- The totals of a list of functions are these.
known_on : (k : Block → ℕ) (F : ℕ → Lines) (m : ℕ) (ls : List Lines) → ((f : ℕ) → f < length ls → F (m + f) ≡ get_or ls f close)
    → tallies k (known k F m) ls ≡ known k F (m + length ls)
unfolding tallies known
known_on k F m [] e = let z : m + 0 ≡ m = omega arith in rw z
known_on k F m (l ∷ ls) e =
    let z : m + 0 ≡ m = omega arith in
    let h : F m ≡ l = rw z at (e 0 (omega arith)) in
    let y : m + suc (length ls) ≡ suc m + length ls = omega arith in
    rw (y, ← h) (known_on k F (suc m) ls (λ f i. let x : m + suc f ≡ suc m + f = omega arith in rw x at (e (suc f) (omega arith))))

pub known_tallies : (k : Block → ℕ) (F : ℕ → Lines) (ls : List Lines) → ((f : ℕ) → f < length ls → F f ≡ get_or ls f close) → tallies k [] ls ≡ known k F (length ls)
unfolding known
known_tallies k F ls e =
    let y : 0 + length ls ≡ length ls = omega arith in
    rw y at (known_on k F 0 ls (λ f i. let x : 0 + f ≡ f = omega arith in rw x (e f i)))

-- A function that others call, in loops of at least one round, has no larger total than they.
rules_turning : (hs : List ℕ) (left v : ℕ) (l : Lines) → Rules hs left v l → Turning l
unfolding Rules Turning
rules_turning hs left v close q = tt
rules_turning hs left v (leaf_line b r) q = rules_turning hs left v r q.2
rules_turning hs left v (call_line b f r) q = rules_turning hs left v r q.4
rules_turning hs left v (loop_line b n body r) q = (q.1, rules_turning hs (left - 1) (suc v) body q.5, rules_turning hs left v r q.6)
rules_turning hs left v (if_line b t e r) q = (rules_turning hs (left - 2) v t q.3, rules_turning hs (left - 2) v e q.4, rules_turning hs left v r q.5)

named_le : (k : Block → ℕ) (ts : List ℕ) (f : ℕ) (l : Lines) → Turning l → Names f l → get_or ts f 0 ≤ tally k ts l
unfolding Turning Names tally
named_le k ts f close t u = absurd u
named_le k ts f (leaf_line b r) t u = omega (arith, named_le k ts f r t u)
named_le k ts f (call_line b g r) t (inl e) = omega (arith, ap (λ y. get_or ts y 0) e)
named_le k ts f (call_line b g r) t (inr u) = omega (arith, named_le k ts f r t u)
named_le k ts f (loop_line b n body r) t (inl u) = omega (arith, named_le k ts f body t.1 u, round_le n (tally k ts body) (k b) t.0)
named_le k ts f (loop_line b n body r) t (inr u) = omega (arith, named_le k ts f r t.2 u)
named_le k ts f (if_line b t e r) q (inl u) = omega (arith, named_le k ts f t q.0 u)
named_le k ts f (if_line b t e r) q (inr (inl u)) = omega (arith, named_le k ts f e q.1 u)
named_le k ts f (if_line b t e r) q (inr (inr u)) = omega (arith, named_le k ts f r q.2 u)

names_below : (f k : ℕ) (l : Lines) → Below k l → Names f l → f < k
unfolding Below Names
names_below f k close b u = absurd u
names_below f k (leaf_line y r) b u = names_below f k r b u
names_below f k (call_line y g r) b (inl e) = omega (arith, b.0)
names_below f k (call_line y g r) b (inr u) = names_below f k r b.1 u
names_below f k (loop_line y n body r) b (inl u) = names_below f k body b.0 u
names_below f k (loop_line y n body r) b (inr u) = names_below f k r b.1 u
names_below f k (if_line y t e r) b (inl u) = names_below f k t b.0 u
names_below f k (if_line y t e r) b (inr (inl u)) = names_below f k e b.1 u
names_below f k (if_line y t e r) b (inr (inr u)) = names_below f k r b.2 u

-- Every function but the last is called (rule 9).
abbrev pub Named : (ℕ → Lines) → ℕ → Type 0
Named F n = (f : ℕ) → suc f < n → (k : ℕ) × (k < n) × Names f (F k)

pub main_most : {w starts : List ℕ} {n : ℕ} (k : Block → ℕ) (v : PlanOf w starts n) → Named (lines_of v) n → (d f : ℕ) → n ≤ f + d → f < n
    → get_or (known k (lines_of v) n) f 0 ≤ get_or (known k (lines_of v) n) (n - 1) 0
main_most k v c zero f h lt = absurd (omega arith)
main_most {w} {starts} {n} k v c (suc d) f h lt =
    elim (dec_lt (suc f) n) [
      | yes i ↦
          let (g, b, u) = c f i in
          let F = lines_of v in
          let a = names_below f g (F g) (fun_below v g b) u in
          let x = named_le k (known k F g) f (F g) (rules_turning (heights_before v g) 62 1 (F g) (plan_rules v g b)) u in
          omega (arith, x, known_at k F g f a, known_at k F n f lt, known_at k F n g b, main_most k v c d g (omega arith) b)
      | no i ↦ let e : f ≡ n - 1 = omega arith in rw e (omega arith)
    ]

-- So where the main function's held total is within the limit, all are.
pub all_low : {k : Block → ℕ} {w starts ts o : List ℕ} {n : ℕ} (v : PlanOf w starts n) → Named (lines_of v) n → Measured k (lines_of v) starts n ts o
    → get_or ts (n - 1) 0 ≤ limit → (f : ℕ) → f < n → get_or ts f 0 ≤ limit
all_low {k} {w} {starts} {ts} {o} {n} v c q h f lt =
    omega (arith, h, q.totals f lt, q.totals (n - 1) (omega arith), main_most k v c n f (omega arith) lt)
