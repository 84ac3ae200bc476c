-- What the delivered calls mean: after a plan is read the row and the head hold its table, and a call on them is the controller's call on that table.
-- Assumes nothing.
use mathlib.Core.Bool.{Bool, true, false, not}
use mathlib.Core.List.{List, [], ◌∷◌, ◌++◌, map}
use mathlib.Core.Path.{◌≡◌, refl, ap, sym, ◌∙◌}
use Prim.Native.Nat.{ℕ, ◌+◌, ◌-◌, ◌*◌, ◌≤◌}
use native.Mathlib.Omega.{arith}
use lib.Dec.{eqb}
use Rattle.std.proofs.lemmas.List.{take-map}
use lib.ListN.{length, get_or, take, drop, length-take, take-append-drop}
use lib.Seq.{take_all, take-take, take-append-add, length-take-le}
use Rattle.model.specs.Plan.{Plan}
use Rattle.model.specs.Acceptance.{sizes, Accepted}
use Rattle.model.specs.Places.{pick, bit}
use Rattle.model.specs.declared.Call.{Call}
use Rattle.model.specs.declared.Word.{Word}
use Rattle.model.specs.declared.Word.TheVariants.{Go, Suspend, Stay, Resume}
use Rattle.model.specs.declared.Ending.TheVariants.{Resumed, Ended}
use Rattle.model.specs.declared.Answer.{Answer}
use Rattle.model.specs.declared.Answer.TheVariants.{Refused, Decided, Closed}
use Rattle.model.specs.declared.Refusal.{Refusal}
use Rattle.model.specs.declared.Refusal.TheVariants.{Oversize, Form, Range, Count, Load, Target, Depth, Unseen, Uncalled, Long, Broken, Busy, Unfit, Idle, Stranger, Backward, Astray, Garbled, Costless}
use Rattle.model.specs.Refusals.{number_of}
use Rattle.model.specs.declared.Others.{Others}
use Rattle.model.specs.declared.Others.TheVariants.{Running, Suspended}
use Rattle.model.specs.Calls as calls
use Rattle.rows.specs.declared.Leaf.{Leaf}
use Rattle.rows.specs.Leaves.{numbers}
use Rattle.rows.proofs.Leaves.{numbers_length}
use Rattle.reader.specs.Outcome.{plan}
use Rattle.reader.proofs.Theorems.{row_length}
use Rattle.table.specs.declared.Head.{Head}
use Rattle.table.specs.Table.{Table, table_of, head_of}
use Rattle.table.specs.Lent.{table_with, leaf_of, leaves_from, row_after}
use Rattle.table.proofs.Tests.{no_truth}
use Rattle.table.proofs.Lent.{length_leaves, numbers_from, column_from, table_back}
use Rattle.table.proofs.Written.{turns_size, tails_size, max_load_turns_size}
use Rattle.control.specs.declared.State as control
use Rattle.control.specs.declared.State.TheVariants as state
use Rattle.control.specs.Calls.{call_on}
use Rattle.control.proofs.Keeping.{refused_keeps}
use Rattle.rolsipay.specs.declared.State.{State}
use Rattle.rolsipay.specs.declared.Reply.{Reply}
use Rattle.rolsipay.specs.Lent.{table_in}
use Rattle.rolsipay.specs.Calling.{others_of, others_number, state_of, lent, refusing, called}
use Rattle.rolsipay.specs.Face.{reply_from, is_end}
use Rattle.rolsipay.proofs.Answers.{Gives, called_gives}
use Rattle.rolsipay.proofs.Lending.{table_of_first}

-- THE TABLE READ BACK

-- After an accepted plan is read, the row and the head hold its table, whatever the row held before.
pub read_back : (p : Plan) → Accepted p → (ls : List Leaf) → table_in (row_after (plan p) ls) (head_of p) ≡ table_of p
read_back p a ls =
    let n : ℕ = sizes p.functions in
    let us : List Leaf = leaves_from (table_of p) 0 n in
    let z : 512 ≡ length us + (512 - n) = omega (arith, length_leaves (table_of p) 0 n, a.formed.few_leaves) in
    let first : take 512 (row_after (plan p) ls) ≡ us ++ take (512 - n) (drop n ls) =
    ap (λ (k : ℕ). take k (us ++ drop n ls)) z ∙ take-append-add us (drop n ls) (512 - n) in
    ap (λ (u : List Leaf). table_with u (head_of p)) first ∙ table_back p (take (512 - n) (drop n ls))

-- Leaves with the same raw row and the same columns are the same.
same_leaves : (us vs : List Leaf) → numbers us ≡ numbers vs → map (λ (l : Leaf). l.turn) us ≡ map (λ (l : Leaf). l.turn) vs →
    map (λ (l : Leaf). l.tail) us ≡ map (λ (l : Leaf). l.tail) vs → map (λ (l : Leaf). l.max_load_turn) us ≡ map (λ (l : Leaf). l.max_load_turn) vs → us ≡ vs
same_leaves [] [] e f g h = refl
same_leaves [] (v ∷ vs) e f g h = let z : ◌≡◌ {A = ℕ} 0 1 = cc in absurd (omega arith)
same_leaves (u ∷ us) [] e f g h = let z : ◌≡◌ {A = ℕ} 0 1 = cc in absurd (omega arith)
same_leaves (u ∷ us) (v ∷ vs) e f g h =
    let kind : u.kind ≡ v.kind = cc in
    let point : u.point ≡ v.point = cc in
    let isolated : u.isolated ≡ v.isolated = cc in
    let load : u.max_load ≡ v.max_load = cc in
    let detail : u.detail ≡ v.detail = cc in
    let other : u.other ≡ v.other = cc in
    let after : u.after ≡ v.after = cc in
    let level : u.level ≡ v.level = cc in
    let turn : u.turn ≡ v.turn = cc in
    let tail : u.tail ≡ v.tail = cc in
    let load_turn : u.max_load_turn ≡ v.max_load_turn = cc in
    let rest : us ≡ vs = same_leaves us vs (cc) (cc) (cc) (cc) in
    λ j. record {
      kind = kind j;
      point = point j;
      isolated = isolated j;
      max_load = load j;
      detail = detail j;
      other = other j;
      after = after j;
      level = level j;
      turn = turn j;
      tail = tail j;
      max_load_turn = load_turn j;
    } ∷ rest j

-- A column of the first leaves of a row.
column_held : (f : Leaf → ℕ) (n : ℕ) (ls : List Leaf) → n ≤ 512 → take n (map f (take 512 ls)) ≡ map f (take n ls)
column_held f n ls h = take-map f n (take 512 ls) ∙ ap (map f) (take-take n 512 ls h)

-- The other way round: where row and head hold the table of a plan, the row has its leaves, and to write them again changes nothing.
pub read_again : (p : Plan) → Accepted p → (ls : List Leaf) (h : Head) → table_in ls h ≡ table_of p →
    (sizes p.functions ≤ length ls) × (row_after (plan p) ls ≡ ls) × (head_of p ≡ h)
read_again p a ls h e =
    let n : ℕ = sizes p.functions in
    let g : h ≡ head_of p = ap (λ (t : Table). t.head) e in
    let count : h.leaves ≡ n = ap (λ (k : Head). k.leaves) g in
    let raw : length (take (h.leaves * 8) (numbers (take 512 ls))) ≡ 8 * n = ap (λ (t : Table). length t.row) e ∙ row_length p in
    let few : n ≤ length (take 512 ls) = omega (arith, count, raw, length-take (h.leaves * 8) (numbers (take 512 ls)), numbers_length (take 512 ls)) in
    let room : n ≤ length ls = omega (arith, few, length-take 512 ls) in
    let us : List Leaf = take n ls in
    let wide : length us ≡ n = length-take-le n ls room in
    let same : table_with us h ≡ table_of p =
    ap (λ (u : List Leaf). table_with u h) (sym (take-take n 512 ls a.formed.few_leaves)) ∙ (table_of_first (take 512 ls) h n (omega (arith, count, few)) ∙ e) in
    let vs : List Leaf = leaves_from (table_of p) 0 n in
    let column : (f : Leaf → ℕ) (col : List ℕ) → ((i : ℕ) → f (leaf_of (table_of p) i) ≡ get_or col i 0) → length col ≡ n → take h.leaves (map f (take 512 ls)) ≡ col → map f us ≡ map f vs =
    λ f col k w z. sym (column_held f n ls a.formed.few_leaves) ∙ (ap (λ (i : ℕ). take i (map f (take 512 ls))) (sym count) ∙ (z ∙
    sym (column_from (table_of p) f col k 0 n (omega arith) ∙ take_all n col (omega arith)))) in
    let numbered : numbers us ≡ numbers vs =
    sym (take_all (h.leaves * 8) (numbers us) (omega (arith, numbers_length us, wide, count))) ∙ (ap (λ (t : Table). t.row) same ∙
    sym (numbers_from (table_of p) 0 n (omega (arith, row_length p)) ∙ take_all (n * 8) (table_of p).row (omega (arith, row_length p)))) in
    let leaves_are : us ≡ vs =
    same_leaves us vs numbered
    (column (λ (x : Leaf). x.turn) (table_of p).turns (λ i. refl) (turns_size p) (ap (λ (t : Table). t.turns) e))
    (column (λ (x : Leaf). x.tail) (table_of p).tails (λ i. refl) (tails_size p) (ap (λ (t : Table). t.tails) e))
    (column (λ (x : Leaf). x.max_load_turn) (table_of p).max_load_turns (λ i. refl) (max_load_turns_size p) (ap (λ (t : Table). t.max_load_turns) e)) in
    (room, ap (λ (u : List Leaf). u ++ drop n ls) (sym leaves_are) ∙ take-append-drop n ls, sym g)

-- A CALL IS THE CONTROLLER'S

-- An answer that is a refusal says which.
refused_by : (a : Answer) → refusing a ≡ true → (k : Refusal) × (a ≡ Refused k)
refused_by (Refused n) e = (n, refl)
refused_by (Decided w r m late) e = no_truth e
refused_by (Closed w late) e = no_truth e

-- The state of a lent state is the controller's again.
others_back : (o : Others) → others_of (others_number o) ≡ o
others_back Running = refl
others_back Suspended = refl

lent_back : (s : control.State) → state_of (lent s) ≡ s
lent_back state.Idle = refl
lent_back (state.Open o) =
    λ j. state.Open (record { others = others_back o.others j; reading = o.reading; place = o.place; times = o.times })

-- The answer of a delivered call is the controller's on the table in the row, and the state that it leaves stands for the controller's.
pub call_answer : (ls : List Leaf) (h : Head) (s : State) (c : Call) → (called ls h s c).answer ≡ (call_on (table_in ls h) (state_of s) c).answer
unfolding called
call_answer ls h s c = refl

pub call_state : (ls : List Leaf) (h : Head) (s : State) (c : Call) → state_of (called ls h s c).state ≡ (call_on (table_in ls h) (state_of s) c).state
unfolding called
call_state ls h s c = by (refusing r.answer) refl
  where
    r : calls.Reply control.State
    r = call_on (table_in ls h) (state_of s) c

    by : (b : Bool) → refusing r.answer ≡ b → state_of (pick b s (lent r.state)) ≡ r.state
    by true e = let (k, x) = refused_by r.answer e in sym (refused_keeps (table_in ls h) (state_of s) c k x)
    by false e = lent_back r.state

-- An accepted call leaves the lent form of the controller's state, every number of it: all zeros where no release is open then.
pub accepted_leaves : (ls : List Leaf) (h : Head) (s : State) (c : Call) → refusing (called ls h s c).answer ≡ false
    → (called ls h s c).state ≡ lent (call_on (table_in ls h) (state_of s) c).state
unfolding called
accepted_leaves ls h s c e = ap (λ (b : Bool). pick b s (lent (call_on (table_in ls h) (state_of s) c).state)) e

-- THE FLAT ANSWERS

-- The refusal of a number.
refusal_in : ℕ → Refusal
refusal_in n =
    get_or (Costless ∷ Oversize ∷ Form ∷ Range ∷ Count ∷ Load ∷ Target ∷ Depth ∷ Unseen ∷ Uncalled ∷
    Long ∷ Broken ∷ Busy ∷ Unfit ∷ Idle ∷ Stranger ∷ Backward ∷ Astray ∷ Garbled ∷ []) n Costless

refusal_back : (k : Refusal) → refusal_in (number_of k) ≡ k
unfolding refusal_in
refusal_back Oversize = refl
refusal_back Form = refl
refusal_back Range = refl
refusal_back Count = refl
refusal_back Load = refl
refusal_back Target = refl
refusal_back Depth = refl
refusal_back Unseen = refl
refusal_back Uncalled = refl
refusal_back Long = refl
refusal_back Broken = refl
refusal_back Busy = refl
refusal_back Unfit = refl
refusal_back Idle = refl
refusal_back Stranger = refl
refusal_back Backward = refl
refusal_back Astray = refl
refusal_back Garbled = refl
refusal_back Costless = refl

-- So no two refusals have one number.
pub number_tells : (k l : Refusal) → number_of k ≡ number_of l → k ≡ l
number_tells k l e = sym (refusal_back k) ∙ (ap refusal_in e ∙ refusal_back l)

-- And none has 0.
pub numbered_from_1 : (k : Refusal) → ¬ (number_of k ≡ 0)
unfolding refusal_in
numbered_from_1 k e = let z : number_of k ≡ 19 = ap number_of (sym (refusal_back k) ∙ ap refusal_in e) in omega arith

-- The answer that flat numbers stand for, by whether the call is an end.
word_in : ℕ → Word
word_in n = pick (eqb n 1) Go (pick (eqb n 2) Suspend (pick (eqb n 3) Stay Resume))

answer_in : Bool → Reply → Answer
answer_in end r =
    let late : Bool = not (eqb r.late 0) in
    pick (eqb r.word 0) (Refused (refusal_in r.number))
    (pick end (Closed (pick (eqb r.word 4) Resumed Ended) late) (Decided (word_in r.word) r.remaining r.margin late))

-- It is the one that they were made of, where a call of that kind can give it.
bit_back : (b : Bool) → not (eqb (bit b) 0) ≡ b
bit_back true = refl
bit_back false = refl

answer_back : (end : Bool) (a : Answer) → Gives end a → answer_in end (reply_from a) ≡ a
unfolding answer_in word_in
answer_back end (Refused k) g = ap (λ x. Refused x) (refusal_back k)
answer_back true (Decided w r m late) g = absurd g
answer_back false (Decided Go r m late) g = ap (λ b. Decided Go r m b) (bit_back late)
answer_back false (Decided Suspend r m late) g = ap (λ b. Decided Suspend r m b) (bit_back late)
answer_back false (Decided Stay r m late) g = ap (λ b. Decided Stay r m b) (bit_back late)
answer_back false (Decided Resume r m late) g = ap (λ b. Decided Resume r m b) (bit_back late)
answer_back true (Closed Resumed late) g = ap (λ b. Closed Resumed b) (bit_back late)
answer_back true (Closed Ended late) g = ap (λ b. Closed Ended b) (bit_back late)
answer_back false (Closed w late) g = absurd g

-- So what the calls return under C names tells the answer to the caller, who knows which call was made: consider two calls, both ends or neither, each on any
-- lent row, head and state. If they return the same numbers, they have the same answer. (Word 4 is resume at a report as at an end. That a report's remaining
-- is never 0, since a point costs a tick at least, tells the two apart as well; it is not used here.)
pub reply_tells : (c d : Call) → is_end c ≡ is_end d → (ls ms : List Leaf) (h k : Head) (s r : State) →
    reply_from (called ls h s c).answer ≡ reply_from (called ms k r d).answer → (called ls h s c).answer ≡ (called ms k r d).answer
reply_tells c d same ls ms h k s r e =
    let f : answer_in (is_end d) (reply_from (called ms k r d).answer) ≡ (called ms k r d).answer =
    answer_back (is_end d) (called ms k r d).answer (called_gives ms k r d) in
    sym (answer_back (is_end c) (called ls h s c).answer (called_gives ls h s c)) ∙ (ap (λ end. answer_in end (reply_from (called ls h s c).answer)) same ∙ (ap (answer_in (is_end d)) e ∙ f))
