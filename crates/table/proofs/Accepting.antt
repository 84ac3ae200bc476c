-- The test for rules 3 to 10 and 19 holds exactly for accepted plans.
use mathlib.Core.Bool.{true, false, ◌||◌, not}
use mathlib.Core.List.{List, [], ◌∷◌, ◌++◌}
use mathlib.Core.Logic.{◌↔◌, inl, inr}
use mathlib.Core.Path.{◌≡◌, refl, subst}
use Prim.Native.Nat.{ℕ, zero, suc, ◌+◌, ◌-◌, ◌^◌, ◌≤◌, ◌<◌}
use native.Mathlib.Omega.{arith}
use native.Mathlib.Decide.{dec_le}
use lib.Dec.{leb}
use lib.ListN.{length, get_or}
use Rattle.model.specs.Plan.{Block, C, M, Lines, close, leaf_line, call_line, loop_line, if_line, resume_cost, Plan}
use Rattle.model.specs.Forms.{Forms, done, leaf, call, loop, cond, forms, main, Is, Has, NoPoint}
use Rattle.model.specs.Total.{total}
use Rattle.model.specs.Levels.{height}
use Rattle.model.specs.Acceptance.{size, sizes, depth, Numbered, Costs, Ranged, Function, Functions, Formed, Seen, SeenAll, Names, Called, Accepted}
use Rattle.model.specs.Places.{bit}
use Rattle.model.proofs.Bits.{bit_below}
use Rattle.model.proofs.Limits.{short_total}
use Rattle.table.specs.Accepting.{costs?, numbered?, ranged?, function?, functions?, formed?, pointed?, seen?, seen_all?, names?, named?, called_from?, accepted?}
use Rattle.table.proofs.Tests.{leb_exactly, ltb_exactly, eqb_exactly, no_truth, yes_always, no_never, both, three, four, five, either, unless_point}

costs_exactly : (b : Block) → (costs? b ≡ true) ↔ Costs b
costs_exactly b =
    let k = four (leb (C b) (2 ^ 20)) (leb (M b) (2 ^ 20)) (leb (C b) (M b)) (leb (bit b.point) (C b)) (leb_exactly (C b) (2 ^ 20))
    (leb_exactly (M b) (2 ^ 20)) (leb_exactly (C b) (M b)) (leb_exactly (bit b.point) (C b)) in
    let p = bit_below b.point (C b) in (
      (λ e. let (x, y, z, w) = k.0 e in record { isolated_range = x; max_load_range = y; load = z; point_cost = p.1 w }),
      λ c. k.1 (c.isolated_range, c.max_load_range, c.load, p.0 c.point_cost),
    )

numbered_exactly : (n : ℕ) (l : Lines) → (numbered? n l ≡ true) ↔ Numbered n l
unfolding numbered? Numbered
numbered_exactly n close = yes_always
numbered_exactly n (leaf_line b rest) = both _ _ (eqb_exactly b.number n) (numbered_exactly (n + 1) rest)
numbered_exactly n (call_line b f rest) = both _ _ (eqb_exactly b.number n) (numbered_exactly (n + 1) rest)
numbered_exactly n (loop_line b m body rest) =
    three _ _ _ (eqb_exactly b.number n) (numbered_exactly (n + 1) body) (numbered_exactly (n + 1 + size body) rest)
numbered_exactly n (if_line b then else rest) =
    four _ _ _ _ (eqb_exactly b.number n) (numbered_exactly (n + 1) then) (numbered_exactly (n + 1 + size then) else)
    (numbered_exactly (n + 1 + size then + size else) rest)

ranged_exactly : (i : ℕ) (l : Lines) → (ranged? i l ≡ true) ↔ Ranged i l
unfolding ranged? Ranged
ranged_exactly i close = yes_always
ranged_exactly i (leaf_line b rest) = both _ _ (costs_exactly b) (ranged_exactly i rest)
ranged_exactly i (call_line b f rest) = four _ _ _ _ (costs_exactly b) (leb_exactly f 15) (ltb_exactly f i) (ranged_exactly i rest)
ranged_exactly i (loop_line b n body rest) =
    five _ _ _ _ _ (costs_exactly b) (leb_exactly 1 n) (leb_exactly n 65535) (ranged_exactly i body) (ranged_exactly i rest)
ranged_exactly i (if_line b then else rest) = four _ _ _ _ (costs_exactly b) (ranged_exactly i then) (ranged_exactly i else) (ranged_exactly i rest)

function_exactly : (hs : List ℕ) (n : ℕ) (l : Lines) → (function? hs n l ≡ true) ↔ Function hs n l
function_exactly hs n l =
    let k = four (numbered? n l) (ranged? (length hs) l) (leb (height hs l) 32) (leb (2 + depth l) 64) (numbered_exactly n l) (ranged_exactly (length hs) l)
    (leb_exactly (height hs l) 32) (leb_exactly (2 + depth l) 64) in (
      (λ e. let (x, y, z, w) = k.0 e in record { numbered = x; ranged = y; levels = z; brackets = w }),
      λ f. k.1 (f.numbered, f.ranged, f.levels, f.brackets),
    )

functions_exactly : (hs : List ℕ) (n : ℕ) (ls : List Lines) → (functions? hs n ls ≡ true) ↔ Functions hs n ls
unfolding functions? Functions
functions_exactly hs n [] = yes_always
functions_exactly hs n (l ∷ ls) = both _ _ (function_exactly hs n l) (functions_exactly (hs ++ (height hs l ∷ [])) (n + size l) ls)

pub formed_exactly : (p : Plan) → (formed? p ≡ true) ↔ Formed p
formed_exactly p =
    let fs = p.functions in
    let inner = four (leb 1 (length fs)) (leb (length fs) 16) (leb (sizes fs) 512) (functions? [] 0 fs) (leb_exactly 1 (length fs)) (leb_exactly (length fs) 16)
    (leb_exactly (sizes fs) 512) (functions_exactly [] 0 fs) in
    let k = five (leb 1 p.deadline) (leb p.deadline (2 ^ 40)) (leb p.switch (2 ^ 20)) (leb (resume_cost p.edition) (2 ^ 20)) _ (leb_exactly 1 p.deadline)
    (leb_exactly p.deadline (2 ^ 40)) (leb_exactly p.switch (2 ^ 20)) (leb_exactly (resume_cost p.edition) (2 ^ 20)) inner in (
      (λ e.
          let (x, y, z, u, w) = k.0 e in
          record {
            deadline_low = x;
            deadline_high = y;
            switch_range = z;
            resume_range = u;
            some_function = w.0;
            few_functions = w.1;
            few_leaves = w.2;
            each = w.3;
          }),
      λ f. k.1 (f.deadline_low, f.deadline_high, f.switch_range, f.resume_range, (f.some_function, f.few_functions, f.few_leaves, f.each)),
    )

same : {A : Type 0} → A ↔ A
same = ((λ q. q), λ q. q)

-- Rule 8.
abbrev Pointed : Forms → Type 0
Pointed fs = (n : ℕ) × Has n fs

point_here : (b : Block) → (b.point ≡ true) ↔ ((n : ℕ) × Is b n)
point_here b = ((λ e. (b.number, (e, refl))), λ (n, i). i.0)

pointed_yes : (fs : Forms) → pointed? fs ≡ true → Pointed fs
unfolding pointed? Has
pointed_yes done e = no_truth e
pointed_yes (leaf b rest) e =
    elim ((either b.point (pointed? rest) (point_here b) same).0 e) [ inl i ↦ (i.0, inl i.1) | inr q ↦ let (n, h) = pointed_yes rest q in (n, inr h) ]
pointed_yes (call b fun rest) e =
    elim ((either b.point (pointed? fun || pointed? rest) (point_here b) same).0 e) [
      | inl i ↦ (i.0, inl i.1)
      | inr q ↦ elim ((either (pointed? fun) (pointed? rest) same same).0 q) [
        | inl u ↦ let (n, h) = pointed_yes fun u in (n, inr (inl h))
        | inr u ↦ let (n, h) = pointed_yes rest u in (n, inr (inr h))
      ]
    ]
pointed_yes (loop b m body rest) e =
    elim ((either b.point (pointed? body || pointed? rest) (point_here b) same).0 e) [
      | inl i ↦ (i.0, inl i.1)
      | inr q ↦ elim ((either (pointed? body) (pointed? rest) same same).0 q) [
        | inl u ↦ let (n, h) = pointed_yes body u in (n, inr (inl h))
        | inr u ↦ let (n, h) = pointed_yes rest u in (n, inr (inr h))
      ]
    ]
pointed_yes (cond b then else rest) e =
    elim ((either b.point (pointed? then || (pointed? else || pointed? rest)) (point_here b) same).0 e) [
      | inl i ↦ (i.0, inl i.1)
      | inr q ↦ elim ((either (pointed? then) (pointed? else || pointed? rest) same same).0 q) [
        | inl u ↦ let (n, h) = pointed_yes then u in (n, inr (inl h))
        | inr u ↦ elim ((either (pointed? else) (pointed? rest) same same).0 u) [
          | inl v ↦ let (n, h) = pointed_yes else v in (n, inr (inr (inl h)))
          | inr v ↦ let (n, h) = pointed_yes rest v in (n, inr (inr (inr h)))
        ]
      ]
    ]

has_pointed : (n : ℕ) (fs : Forms) → Has n fs → pointed? fs ≡ true
unfolding pointed? Has
has_pointed n done h = absurd h
has_pointed n (leaf b rest) h =
    (either b.point (pointed? rest) same same).1 (elim h [ inl i ↦ inl i.0 | inr i ↦ inr (has_pointed n rest i) ])
has_pointed n (call b fun rest) h =
    (either b.point (pointed? fun || pointed? rest) same (either (pointed? fun) (pointed? rest) same same)).1
    (elim h [ inl i ↦ inl i.0 | inr i ↦ inr (elim i [ inl j ↦ inl (has_pointed n fun j) | inr j ↦ inr (has_pointed n rest j) ]) ])
has_pointed n (loop b m body rest) h =
    (either b.point (pointed? body || pointed? rest) same (either (pointed? body) (pointed? rest) same same)).1
    (elim h [ inl i ↦ inl i.0 | inr i ↦ inr (elim i [ inl j ↦ inl (has_pointed n body j) | inr j ↦ inr (has_pointed n rest j) ]) ])
has_pointed n (cond b then else rest) h =
    (either b.point (pointed? then || (pointed? else || pointed? rest)) same
    (either (pointed? then) (pointed? else || pointed? rest) same (either (pointed? else) (pointed? rest) same same))).1
    (elim h [
      | inl i ↦ inl i.0
      | inr i ↦ inr (elim i [
        | inl j ↦ inl (has_pointed n then j)
        | inr j ↦ inr (elim j [ inl k ↦ inl (has_pointed n else k) | inr k ↦ inr (has_pointed n rest k) ])
      ])
    ])

pointed_exactly : (fs : Forms) → (pointed? fs ≡ true) ↔ Pointed fs
pointed_exactly fs = (pointed_yes fs, λ (n, h). has_pointed n fs h)

-- A silent block has nothing with a point inside.
silent_exactly : (b : Block) (fs : Forms) → ((b.point || not (pointed? fs)) ≡ true) ↔ (b.point ≡ false → NoPoint fs)
silent_exactly b fs =
    let k = unless_point b.point (pointed? fs) (pointed_exactly fs) in
    ((λ e q n h. k.0 e q (n, h)), λ u. k.1 (λ q (n, h). u q n h))

seen_exactly : (fs : Forms) → (seen? fs ≡ true) ↔ Seen fs
unfolding seen? Seen
seen_exactly done = yes_always
seen_exactly (leaf b rest) = seen_exactly rest
seen_exactly (call b fun rest) = both _ _ (silent_exactly b fun) (seen_exactly rest)
seen_exactly (loop b n body rest) = three _ _ _ (silent_exactly b body) (seen_exactly body) (seen_exactly rest)
seen_exactly (cond b then else rest) = three _ _ _ (seen_exactly then) (seen_exactly else) (seen_exactly rest)

pub seen_all_exactly : (fs : List Forms) (ls : List Lines) → (seen_all? fs ls ≡ true) ↔ SeenAll fs ls
unfolding seen_all? SeenAll
seen_all_exactly fs [] = yes_always
seen_all_exactly fs (l ∷ ls) = both _ _ (seen_exactly (forms fs l)) (seen_all_exactly (fs ++ (forms fs l ∷ [])) ls)

-- Rule 9.
names_exactly : (f : ℕ) (l : Lines) → (names? f l ≡ true) ↔ Names f l
unfolding names? Names
names_exactly f close = no_never
names_exactly f (leaf_line b rest) = names_exactly f rest
names_exactly f (call_line b g rest) = either _ _ (eqb_exactly g f) (names_exactly f rest)
names_exactly f (loop_line b n body rest) = either _ _ (names_exactly f body) (names_exactly f rest)
names_exactly f (if_line b then else rest) = either _ _ (names_exactly f then) (either _ _ (names_exactly f else) (names_exactly f rest))

abbrev Named : ℕ → List Lines → Type 0
Named f ls = (k : ℕ) × (k < length ls) × Names f (get_or ls k close)

named_yes : (f : ℕ) (ls : List Lines) → named? f ls ≡ true → Named f ls
unfolding named?
named_yes f [] e = no_truth e
named_yes f (l ∷ ls) e =
    elim ((either (names? f l) (named? f ls) (names_exactly f l) same).0 e) [
      | inl i ↦ (0, omega arith, i)
      | inr q ↦ let (k, h, i) = named_yes f ls q in (suc k, omega arith, i)
    ]

named_no : (f : ℕ) (ls : List Lines) (k : ℕ) → k < length ls → Names f (get_or ls k close) → named? f ls ≡ true
unfolding named?
named_no f [] k h i = absurd (omega arith)
named_no f (l ∷ ls) zero h i = (either (names? f l) (named? f ls) (names_exactly f l) same).1 (inl i)
named_no f (l ∷ ls) (suc k) h i = (either (names? f l) (named? f ls) (names_exactly f l) same).1 (inr (named_no f ls k (omega arith) i))

named_exactly : (f : ℕ) (ls : List Lines) → (named? f ls ≡ true) ↔ Named f ls
named_exactly f ls = (named_yes f ls, λ (k, h, i). named_no f ls k h i)

abbrev CalledFrom : List Lines → ℕ → ℕ → Type 0
CalledFrom ls f k = (g : ℕ) → f ≤ g → g < f + k → Named g ls

called_step : (ls : List Lines) (f k : ℕ) → Named f ls → CalledFrom ls (suc f) k → CalledFrom ls f (suc k)
called_step ls f k a b g x y =
    elim (dec_le g f) [
      | yes h ↦ let e : f ≡ g = omega arith in subst (λ m. Named m ls) e a
      | no h ↦ b g (omega arith) (omega arith)
    ]

called_from_exactly : (ls : List Lines) (f k : ℕ) → (called_from? ls f k ≡ true) ↔ CalledFrom ls f k
unfolding called_from?
called_from_exactly ls f zero = ((λ e g x y. absurd (omega arith)), λ u. refl)
called_from_exactly ls f (suc k) =
    let q = both (named? f ls) (called_from? ls (suc f) k) (named_exactly f ls) (called_from_exactly ls (suc f) k) in (
      (λ e. let (a, b) = q.0 e in called_step ls f k a b),
      λ u. q.1 (u f (omega arith) (omega arith), λ g x y. u g (omega arith) (omega arith)),
    )

pub called_exactly : (ls : List Lines) → (called_from? ls 0 (length ls - 1) ≡ true) ↔ Called ls
called_exactly ls =
    let k = called_from_exactly ls 0 (length ls - 1) in
    ((λ e f h. k.0 e f (omega arith) (omega arith)), λ u. k.1 (λ g x y. u g (omega arith)))

-- The test for all the rules.
pub accepted_exactly : (p : Plan) → (accepted? p ≡ true) ↔ Accepted p
accepted_exactly p =
    let k = five (formed? p) (seen_all? [] p.functions) (called_from? p.functions 0 (length p.functions - 1)) (leb (total C (main p)) (2 ^ 40))
    (leb (total M (main p)) (2 ^ 40)) (formed_exactly p) (seen_all_exactly [] p.functions) (called_exactly p.functions)
    (leb_exactly (total C (main p)) (2 ^ 40)) (leb_exactly (total M (main p)) (2 ^ 40)) in (
      (λ e.
          let (a, b, c, d, f) = k.0 e in
          record {
            formed = a;
            seen = b;
            called = c;
            short = (short_total C (main p) (2 ^ 40)).1 d;
            short_loaded = (short_total M (main p) (2 ^ 40)).1 f;
          }),
      λ a. k.1 (a.formed, a.seen, a.called, (short_total C (main p) (2 ^ 40)).0 a.short, (short_total M (main p) (2 ^ 40)).0 a.short_loaded),
    )
