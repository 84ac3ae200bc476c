-- The reader accepts the text of every plan, and finds that plan.
use Prim.Native.Nat.{ℕ, ◌+◌, ◌≤◌, min}
use mathlib.Core.Path.{◌≡◌, refl, sym, ap, ◌∙◌, subst}
use mathlib.Core.List.{List, [], ◌∷◌, ◌++◌, append_assoc, append-nil, map}
use native.Mathlib.Omega.{arith}
use lib.ListN.{length, length-append}
use borrow.Author.Tests.{le-leb}
use Rattle.text.specs.Text.{lines}
use Rattle.text.specs.Spelling.{spell}
use Rattle.text.specs.declared.Form.{Form}
use Rattle.text.specs.declared.Form.TheVariants.{Task, Fun, Then, Else, Close}
use Rattle.text.specs.Grammar.{form}
use Rattle.model.specs.Plan.{Block, Lines, close, leaf_line, call_line, loop_line, if_line, Plan}
use Rattle.model.specs.Levels.{height, heights}
use Rattle.model.specs.Acceptance.{size, sizes, Functions, Formed, Fits}
use Rattle.reader.specs.Machine.{◌⧺◌, Around, in_fun, in_loop, in_then, in_else, ParserState, start, task, body, await_then, await_else, await_close, done, brackets_in, brackets, level_in, level, functions_of, to, closed_task, with_function, block, next, counted, Turn, stop, go, line_turn, finish, onwards, run, outcome}
use Rattle.reader.specs.Outcome.{Outcome, plan}
use Rattle.reader.specs.Print.{leaf_form, call_form, loop_form, if_form, forms_in, forms_all, forms_of, print}
use Rattle.text.proofs.Theorems.{reads_spelled}
use Rattle.reader.proofs.Appended.{⧺-assoc, ⧺-close, heights_snoc, heights_length}
use Rattle.reader.proofs.Texts.{lines_spell}
use Rattle.reader.proofs.Length.{print_bound}
use Rattle.reader.proofs.Allowed.{Allowed, no_fault, Good, GoodAll, good}

-- THE MACHINE OVER FORMS: as `run`, from forms instead of lines.
unfoldable pub follow : ℕ → ParserState → ℕ → ℕ → List Form → Outcome
follow room S n i [] = finish S i
follow room S n i (f ∷ fs) = onwards (line_turn room S n (form f)) i (λ S' n'. follow room S' n' (i + 1) fs)

onwards_same : (t : Turn) (i : ℕ) (f g : ParserState → ℕ → Outcome) → ((S : ParserState) (n : ℕ) → f S n ≡ g S n) → onwards t i f ≡ onwards t i g
onwards_same (stop k) i f g h = refl
onwards_same (go S n) i f g h = h S n

run_follow : (room : ℕ) (fs : List Form) (S : ParserState) (n i : ℕ) → run room S n i (map spell fs) ≡ follow room S n i fs
unfolding run follow
run_follow room [] S n i = refl
run_follow room (f ∷ fs) S n i = rw (reads_spelled f) (onwards_same (line_turn room S n (form f)) i _ _ (λ S' n'. run_follow room fs S' n' (i + 1)))

-- The machine comes from one state to another by some lines.
pub record Leads (room : ℕ) (S : ParserState) (n : ℕ) (fs : List Form) (S' : ParserState) (n' : ℕ) (gs : List Form) : Type 0 where
  pub led : (i : ℕ) → (j : ℕ) × (follow room S n i fs ≡ follow room S' n' j gs)

module _ {room : ℕ} where
  stay : {S S' : ParserState} {n n' : ℕ} {gs : List Form} → S ≡ S' → n ≡ n' → Leads room S n gs S' n' gs
  stay {gs = gs} p q = record { led = λ i. (i, λ j. follow room (p j) (q j) i gs) }

  along : {S S' S'' : ParserState} {n n' n'' : ℕ} {fs gs hs : List Form} → Leads room S n fs S' n' gs → Leads room S' n' gs S'' n'' hs → Leads room S n fs S'' n'' hs
  along a b = record { led = λ i. let (j, p) = a.led i in let (k, q) = b.led j in (k, p ∙ q) }

  respell : {S S' : ParserState} {n n' : ℕ} {fs fs' gs : List Form} → fs ≡ fs' → Leads room S n fs' S' n' gs → Leads room S n fs S' n' gs
  respell {S} {S'} {n} {n'} {gs = gs} e a = subst (λ x. Leads room S n x S' n' gs) (sym e) a

  one : (S S' : ParserState) (n : ℕ) (f : Form) (gs : List Form) → next S n f ≡ to S' → Allowed room (brackets S) (level S) n (heights [] (functions_of S)) f →
      Leads room S n (f ∷ gs) S' (counted n f) gs
  one S S' n f gs e a = record { led = λ i. (i + 1, here i) }
    where
      here : (i : ℕ) → follow room S n i (f ∷ gs) ≡ follow room S' (counted n f) (i + 1) gs
      here i = unfold follow in rw (e, no_fault room (brackets S) (level S) n (heights [] (functions_of S)) f a)

-- FORMS OF A BODY
block_same : (b : Block) (n : ℕ) → b.number ≡ n → block n b.point b.isolated b.max_load ≡ b
block_same b n e = λ j. record { number = sym e j; point = b.point; isolated = b.isolated; max_load = b.max_load }

-- The machine reads good forms in any body.
pub followed : (room : ℕ) (l : Lines) (p : Plan) (K : Around) (fs : Lines) (n : ℕ) (gs : List Form) → Good room (heights [] p.functions) (brackets_in K) (level_in K) n l →
    Leads room (body p K fs) n (forms_in l ++ gs) (body p K (fs ⧺ l)) (n + size l) gs
unfolding Good forms_in size brackets level functions_of brackets_in level_in ◌⧺◌
followed room close p K fs n gs g = stay (ap (body p K) (sym (⧺-close fs))) (omega arith)
followed room (leaf_line b rest) p K fs n gs (q, a, g) =
    let e = block_same b n q in
    along (one (body p K fs) _ n (leaf_form b) (forms_in rest ++ gs) refl a)
    (along (followed room rest p K _ (n + 1) gs g)
    (stay (ap (body p K) (⧺-assoc fs _ rest ∙ ap (λ x. fs ⧺ leaf_line x rest) e)) (omega arith)))
followed room (call_line b f rest) p K fs n gs (q, a, g) =
    let e = block_same b n q in
    along (one (body p K fs) _ n (call_form b f) (forms_in rest ++ gs) refl a)
    (along (followed room rest p K _ (n + 1) gs g)
    (stay (ap (body p K) (⧺-assoc fs _ rest ∙ ap (λ x. fs ⧺ call_line x f rest) e)) (omega arith)))
followed room (loop_line b m inner rest) p K fs n gs (q, a, g, h) =
    let e = block_same b n q in
    let c = block n b.point b.isolated b.max_load in
    respell (ap (λ x. loop_form b m ∷ x) (append_assoc (forms_in inner) (Close ∷ forms_in rest) gs))
    (along (one (body p K fs) _ n (loop_form b m) (forms_in inner ++ (Close ∷ (forms_in rest ++ gs))) refl a)
    (along (followed room inner p (in_loop c m fs K) close (n + 1) (Close ∷ (forms_in rest ++ gs)) g)
    (along (one (body p (in_loop c m fs K) inner) _ (n + 1 + size inner) Close (forms_in rest ++ gs) refl tt)
    (along (followed room rest p K _ (n + 1 + size inner) gs h)
    (stay (ap (body p K) (⧺-assoc fs _ rest ∙ ap (λ x. fs ⧺ loop_line x m inner rest) e)) (omega arith))))))
followed room (if_line b then else rest) p K fs n gs (q, a, o, g, h, i) =
    let e = block_same b n q in
    let c = block n b.point b.isolated b.max_load in
    let tail = forms_in rest ++ gs in
    let elses = forms_in else ++ (Close ∷ Close ∷ tail) in
    respell (ap (λ x. if_form b ∷ Then ∷ x) (append_assoc (forms_in then) (Close ∷ Else ∷ (forms_in else ++ (Close ∷ Close ∷ forms_in rest))) gs
    ∙ ap (λ x. forms_in then ++ (Close ∷ Else ∷ x)) (append_assoc (forms_in else) (Close ∷ Close ∷ forms_in rest) gs)))
    (along (one (body p K fs) _ n (if_form b) (Then ∷ (forms_in then ++ (Close ∷ Else ∷ elses))) refl a)
    (along (one (await_then p K c fs) _ (n + 1) Then (forms_in then ++ (Close ∷ Else ∷ elses)) refl o)
    (along (followed room then p (in_then c fs K) close (n + 1) (Close ∷ Else ∷ elses) g)
    (along (one (body p (in_then c fs K) then) _ (n + 1 + size then) Close (Else ∷ elses) refl tt)
    (along (one (await_else p K c then fs) _ (n + 1 + size then) Else elses refl o)
    (along (followed room else p (in_else c then fs K) close (n + 1 + size then) (Close ∷ Close ∷ tail) h)
    (along (one (body p (in_else c then fs K) else) _ (n + 1 + size then + size else) Close (Close ∷ tail) refl tt)
    (along (one (await_close p K c then else fs) _ (n + 1 + size then + size else) Close tail refl tt)
    (along (followed room rest p K _ (n + 1 + size then + size else) gs i)
    (stay (ap (body p K) (⧺-assoc fs _ rest ∙ ap (λ x. fs ⧺ if_line x then else rest) e)) (omega arith)))))))))))

-- FUNCTIONS
abbrev extended : Plan → List Lines → Plan
extended p ls = record { deadline = p.deadline; switch = p.switch; edition = p.edition; functions = p.functions ++ ls }

abbrev having : Plan → List Lines → Plan
having p ls = record { deadline = p.deadline; switch = p.switch; edition = p.edition; functions = ls }

same_functions : (p : Plan) (ls ks : List Lines) → ls ≡ ks → having p ls ≡ having p ks
same_functions p ls ks e = ap (having p) e

followed_all : (room : ℕ) (ls : List Lines) (p : Plan) (n : ℕ) (gs : List Form) → GoodAll room (heights [] p.functions) n ls → length p.functions + length ls ≤ 16 →
    Leads room (task p) n (forms_all ls ++ gs) (task (extended p ls)) (n + sizes ls) gs
unfolding GoodAll forms_all sizes brackets level functions_of ◌⧺◌ brackets_in level_in
followed_all room [] p n gs g h = stay (ap task (same_functions p _ _ (sym (append-nil p.functions)))) (omega arith)
followed_all room (l ∷ ls) p n gs (g, k) h =
    let e : heights [] (p.functions ++ (l ∷ [])) ≡ heights [] p.functions ++ (height (heights [] p.functions) l ∷ []) = heights_snoc [] p.functions l in
    respell (ap (λ x. Fun ∷ x) (append_assoc (forms_in l) (Close ∷ forms_all ls) gs))
    (along (one (task p) _ n Fun (forms_in l ++ (Close ∷ (forms_all ls ++ gs))) refl (omega (arith, heights_length [] p.functions)))
    (along (followed room l p in_fun close n (Close ∷ (forms_all ls ++ gs)) g)
    (along (one (body p in_fun l) _ (n + size l) Close (forms_all ls ++ gs) refl tt)
    (along (followed_all room ls (with_function p l) (n + size l) gs (rw e k) (omega (arith, length-append p.functions (l ∷ []))))
    (stay (ap task (same_functions p _ _ (append_assoc p.functions (l ∷ []) ls))) (omega arith))))))

functions_good : (room : ℕ) (ls : List Lines) (hs : List ℕ) (n : ℕ) → Functions hs n ls → n + sizes ls ≤ room → GoodAll room hs n ls
unfolding Functions GoodAll sizes
functions_good room [] hs n f h = tt
functions_good room (l ∷ ls) hs n (f, g) h =
    (good room hs l 2 1 n f.numbered f.ranged (omega arith) (omega (arith, f.levels)) f.brackets, functions_good room ls (hs ++ (height hs l ∷ [])) (n + size l) g (omega arith))

-- A task that holds a function closes.
pub closes_task : (p : Plan) (n : ℕ) → 1 ≤ length p.functions → next (task p) n Close ≡ to (done p)
closes_task p n h = here p.functions h
  where
    here : (ls : List Lines) → 1 ≤ length ls → closed_task p ls ≡ to (done p)
    here [] h = absurd (omega arith)
    here (l ∷ ls) h = refl

leads_through : (row : ℕ) (p : Plan) → Formed p → Fits row p → Leads (min 512 row) start 0 (forms_of p) (done p) (sizes p.functions) []
unfolding forms_of brackets level functions_of heights
leads_through row p w fit =
    along (one start (task (having p [])) 0 (Task p.deadline p.switch p.edition) (forms_all p.functions ++ (Close ∷ [])) refl (omega (arith, w.deadline_low, w.deadline_high, w.switch_range, w.resume_range)))
    (along (followed_all (min 512 row) p.functions (having p []) 0 (Close ∷ []) (functions_good (min 512 row) p.functions [] 0 w.each (omega (arith, w.few_leaves, fit))) (omega (arith, w.few_functions)))
    (along (one (task p) (done p) (0 + sizes p.functions) Close [] (closes_task p (0 + sizes p.functions) w.some_function) tt)
    (stay refl (omega arith))))

-- In the text of a plan the reader finds this plan.
pub complete : (row : ℕ) (p : Plan) → Formed p → Fits row p → outcome row (print p) ≡ plan p
unfolding outcome
complete row p w fit =
    let e : length (print p) ≤ 65536 = omega (arith, print_bound p w) in
    rw (le-leb (length (print p)) 65536 e) (read ∙ (((leads_through row p w fit).led 1).1 ∙ last))
  where
    read : run (min 512 row) start 0 1 (lines (print p)) ≡ follow (min 512 row) start 0 1 (forms_of p)
    read = unfold print in rw (lines_spell (forms_of p)) (run_follow (min 512 row) (forms_of p) start 0 1)

    last : follow (min 512 row) (done p) (sizes p.functions) ((leads_through row p w fit).led 1).0 [] ≡ plan p
    last = unfold follow in refl
