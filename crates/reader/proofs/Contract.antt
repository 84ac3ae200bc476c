-- The contract of a recursion that reads forms, and one law for each kind of line. Such a recursion holds no stack: everything is said for all that
-- may be open around (p, K) and for all forms before (fs). It holds the heights hs of the closed functions, d open brackets, the level L, n leaves and
-- the line number i; it gives back the leaves m, the line j, the height h and the records rs of what it read, and the lines ks that are left.
use Prim.Native.Nat.{ℕ, ◌+◌, ◌≤◌, ◌<◌, max}
use mathlib.Core.Path.{◌≡◌, refl, sym, ap, ap₂, ◌∙◌}
use mathlib.Core.List.{List, [], ◌∷◌, ◌++◌, append-nil}
use mathlib.Core.Bool.{Bool}
use native.Mathlib.Omega.{arith}
use lib.ListN.{length, get_or}
use Rattle.std.specs.Prelude.{None, Some}
use Rattle.model.specs.declared.Refusal.{Refusal}
use Rattle.text.specs.declared.Form.{Form}
use Rattle.text.specs.declared.Form.TheVariants.{Task, Fun, Then, Else, Close, Leaf, Call, Loop, If}
use Rattle.text.specs.Grammar.{no_form, form, line_form}
use Rattle.model.specs.declared.Edition.{Edition}
use Rattle.model.specs.Plan.{Block, Lines, close, leaf_line, call_line, loop_line, if_line, Plan}
use Rattle.model.specs.Levels.{height, heights}
use Rattle.model.specs.Acceptance.{size, sizes}
use Rattle.reader.specs.Machine.{◌⧺◌, Around, in_fun, in_loop, in_then, in_else, ParserState, start, task, body, await_then, await_else, await_close, done, brackets_in, brackets, level_in, level, functions_of, stuck, to, closed, with_function, block, next, fault, counted, Turn, line_turn, onwards, run}
use Rattle.reader.specs.Outcome.{refused}
use Rattle.rows.specs.Records.{entry, records, records_all, bounds}
use Rattle.reader.proofs.Complete.{closes_task}
use Rattle.reader.proofs.Appended.{⧺-assoc, ⧺-close, size-⧺, height-⧺, sizes_snoc, heights_snoc}
use Rattle.reader.proofs.Allowed.{no_fault}
use Rattle.reader.proofs.Capped.{Held, turn_held}
use Rattle.rows.proofs.Records.{records_all_snoc, bounds_snoc}
use Rattle.reader.proofs.Records.{records-⧺}

-- ONE LINE, in any state: us are the lines that are left, l is the first of them

judge : (room : ℕ) (S : ParserState) (n i : ℕ) {us : List (List ℕ)} {l : List ℕ} {ks : List (List ℕ)} (f : Form) → us ≡ l ∷ ks → Held l f →
    run room S n i us ≡ onwards (line_turn room S n (form f)) i (λ S' n'. run room S' n' (i + 1) ks)
unfolding run
judge room S n i {us} {l} {ks} f z a = ap (run room S n i) z ∙ ap (λ (t : Turn). onwards t i (λ S' n'. run room S' n' (i + 1) ks)) (turn_held room S n l f a)

-- A form that may stand there and meets none of the refusals 3 to 7 and 19 is taken.
pub taken : (room : ℕ) (S S' : ParserState) (n i : ℕ) {us : List (List ℕ)} {l : List ℕ} {ks : List (List ℕ)} (f : Form) → us ≡ l ∷ ks → Held l f → next S n f ≡ to S' →
    fault room (brackets S) (level S) n (heights [] (functions_of S)) f ≡ None → run room S n i us ≡ run room S' (counted n f) (i + 1) ks
taken room S S' n i f z a b c = judge room S n i f z a ∙ rw (b, c)

-- A form that may stand there and meets one of them is refused by it, at its line.
pub broken : (room : ℕ) (S S' : ParserState) (n i : ℕ) (k : Refusal) {us : List (List ℕ)} {l : List ℕ} {ks : List (List ℕ)} (f : Form) → us ≡ l ∷ ks → Held l f → next S n f ≡ to S' →
    fault room (brackets S) (level S) n (heights [] (functions_of S)) f ≡ Some k → run room S n i us ≡ refused k i
broken room S S' n i k f z a b c = judge room S n i f z a ∙ rw (b, c)

-- A form that may not stand there is refused by 2.
pub misplaced : (room : ℕ) (S : ParserState) (n i : ℕ) {us : List (List ℕ)} {l : List ℕ} {ks : List (List ℕ)} (f : Form) → us ≡ l ∷ ks → Held l f → next S n f ≡ stuck →
    run room S n i us ≡ refused Refusal.Form i
misplaced room S n i f z a b = judge room S n i f z a ∙ rw b

-- A line that is no form is refused by 2.
pub no_line : (room : ℕ) (S : ParserState) (n i : ℕ) {us : List (List ℕ)} {l : List ℕ} {ks : List (List ℕ)} → us ≡ l ∷ ks → line_form l ≡ no_form → run room S n i us ≡ refused Refusal.Form i
unfolding run
no_line room S n i z a = ap (run room S n i) z ∙ rw a

-- THE CONTRACT

-- The closed functions have the heights hs, d brackets are open and the level is L.
pub record Stands (p : Plan) (K : Around) (hs : List ℕ) (d L : ℕ) : Type 0 where
  pub known : heights [] p.functions ≡ hs
  pub opened : brackets_in K ≡ d
  pub floor : level_in K ≡ L

-- In a body, so far: the forms read, and the machine answers from the beginning of the body as it does from here.
pub record Forming (room : ℕ) (hs : List ℕ) (d L n i : ℕ) (ls : List (List ℕ)) (m j h : ℕ) (rs : List ℕ) (us : List (List ℕ)) : Type 0 where
  pub forms : Lines
  pub sized : m ≡ n + size forms
  pub tall : h ≡ height hs forms
  pub rows : rs ≡ records L forms n
  pub same : (p : Plan) (K : Around) (fs : Lines) → Stands p K hs d L → run room (body p K fs) n i ls ≡ run room (body p K (fs ⧺ forms)) m j us

-- Behind the body's closing bracket: the same.
pub record Enclosed (room : ℕ) (hs : List ℕ) (d L n i : ℕ) (ls : List (List ℕ)) (m j h : ℕ) (rs : List ℕ) (us : List (List ℕ)) : Type 0 where
  pub forms : Lines
  pub sized : m ≡ n + size forms
  pub tall : h ≡ height hs forms
  pub rows : rs ≡ records L forms n
  pub same : (p : Plan) (K : Around) (fs : Lines) → Stands p K hs d L → run room (body p K fs) n i ls ≡ run room (closed p K (fs ⧺ forms)) m j us

-- THE WAY THROUGH A LOOP AND AN IF, in any body

-- A loop's body has one bracket and one level more.
pub in_loop_stands : {hs : List ℕ} {d L : ℕ} (p : Plan) (K : Around) (b : Block) (m : ℕ) (fs : Lines) → Stands p K hs d L → Stands p (in_loop b m fs K) hs (d + 1) (L + 1)
unfolding brackets_in level_in
in_loop_stands p K b m fs st = record { known = st.known; opened = ap (λ x. x + 1) st.opened; floor = ap (λ x. x + 1) st.floor }

-- A then or an else part has two brackets more.
pub in_then_stands : {hs : List ℕ} {d L : ℕ} (p : Plan) (K : Around) (b : Block) (fs : Lines) → Stands p K hs d L → Stands p (in_then b fs K) hs (d + 2) L
unfolding brackets_in level_in
in_then_stands p K b fs st = record { known = st.known; opened = ap (λ x. x + 2) st.opened; floor = st.floor }

pub in_else_stands : {hs : List ℕ} {d L : ℕ} (p : Plan) (K : Around) (b : Block) (ts fs : Lines) → Stands p K hs d L → Stands p (in_else b ts fs K) hs (d + 2) L
unfolding brackets_in level_in
in_else_stands p K b ts fs st = record { known = st.known; opened = ap (λ x. x + 2) st.opened; floor = st.floor }

module _ (room : ℕ) {hs : List ℕ} {d L : ℕ} (n i : ℕ) {us : List (List ℕ)} {l : List ℕ} {ks : List (List ℕ)} (z : us ≡ l ∷ ks) (p : Plan) (K : Around) (fs : Lines) (st : Stands p K hs d L) where
  -- A loop's line leads into its body.
  pub loop_opens : (k : Bool) (b c v : ℕ) → Held l (Loop k b c v) → fault room d L n hs (Loop k b c v) ≡ None →
      run room (body p K fs) n i us ≡ run room (body p (in_loop (block n k c v) b fs K) close) (n + 1) (i + 1) ks
  unfolding brackets level functions_of
  loop_opens k b c v a e = taken room (body p K fs) _ n i (Loop k b c v) z a refl (rw (st.known, st.opened, st.floor) e)

  module _ (k : Bool) (c v : ℕ) (a : Held l (If k c v)) (e : fault room d L n hs (If k c v) ≡ None) where
    -- An if's line leads to where its then part must come.
    pub if_opens : run room (body p K fs) n i us ≡ run room (await_then p K (block n k c v) fs) (n + 1) (i + 1) ks
    unfolding brackets level functions_of
    if_opens = taken room (body p K fs) _ n i (If k c v) z a refl (rw (st.known, st.opened, st.floor) e)

    module _ (o : d + 1 < 64) {l₁ : List ℕ} {ks₁ : List (List ℕ)} (z₁ : ks ≡ l₁ ∷ ks₁) (a₁ : Held l₁ Then) where
      -- `(then` leads into the then part.
      pub then_opens : run room (body p K fs) n i us ≡ run room (body p (in_then (block n k c v) fs K) close) (n + 1) (i + 1 + 1) ks₁
      unfolding brackets level functions_of
      then_opens =
          if_opens
          ∙ taken room (await_then p K (block n k c v) fs) _ (n + 1) (i + 1) Then z₁ a₁ refl
          (no_fault room (brackets_in K + 1) (level_in K) (n + 1) (heights [] p.functions) Then (omega (arith, st.opened)))

      module _ {m₁ j₁ h₁ : ℕ} {rs₁ : List ℕ} {us₂ : List (List ℕ)} (got₁ : Enclosed room hs (d + 2) L (n + 1) (i + 1 + 1) ks₁ m₁ j₁ h₁ rs₁ us₂) where
        -- The then part leads to where the else part must come.
        pub then_closes : run room (body p K fs) n i us ≡ run room (await_else p K (block n k c v) got₁.forms fs) m₁ j₁ us₂
        unfolding ◌⧺◌
        then_closes =
            then_opens
            ∙ got₁.same p (in_then (block n k c v) fs K) close (in_then_stands p K (block n k c v) fs st)

        module _ {l₂ : List ℕ} {ks₂ : List (List ℕ)} (z₂ : us₂ ≡ l₂ ∷ ks₂) (a₂ : Held l₂ Else) where
          -- `(else` leads into the else part.
          pub else_opens : run room (body p K fs) n i us ≡ run room (body p (in_else (block n k c v) got₁.forms fs K) close) m₁ (j₁ + 1) ks₂
          unfolding brackets level functions_of
          else_opens =
              then_closes
              ∙ taken room (await_else p K (block n k c v) got₁.forms fs) _ m₁ j₁ Else z₂ a₂ refl
              (no_fault room (brackets_in K + 1) (level_in K) m₁ (heights [] p.functions) Else (omega (arith, st.opened)))

          -- The else part leads to where the if must close.
          pub else_closes : {m₂ j₂ h₂ : ℕ} {rs₂ : List ℕ} {us₃ : List (List ℕ)} (got₂ : Enclosed room hs (d + 2) L m₁ (j₁ + 1) ks₂ m₂ j₂ h₂ rs₂ us₃) →
              run room (body p K fs) n i us ≡ run room (await_close p K (block n k c v) got₁.forms got₂.forms fs) m₂ j₂ us₃
          unfolding ◌⧺◌
          else_closes got₂ =
              else_opens
              ∙ got₂.same p (in_else (block n k c v) got₁.forms fs K) close (in_else_stands p K (block n k c v) got₁.forms fs st)

-- ONE MORE FORM of a body

module _ {room : ℕ} {hs : List ℕ} {d L : ℕ} where
  -- At the beginning of a body.
  pub forming_start : (n i : ℕ) (ls : List (List ℕ)) → Forming room hs d L n i ls n i 0 [] ls
  unfolding size height records
  forming_start n i ls =
      record { forms = close; sized = omega arith; tall = refl; rows = refl; same = λ p K fs st. ap (λ x. run room (body p K x) n i ls) (sym (⧺-close fs)) }

  module _ {n i : ℕ} {ls : List (List ℕ)} {m j h : ℕ} {rs : List ℕ} {us : List (List ℕ)} (g : Forming room hs d L n i ls m j h rs us) {l : List ℕ} {ks : List (List ℕ)} (z : us ≡ l ∷ ks) where
    -- The body closes.
    pub forming_out : Held l Close → Enclosed room hs d L n i ls m (j + 1) h rs ks
    unfolding fault
    forming_out a =
        record {
          forms = g.forms;
          sized = g.sized;
          tall = g.tall;
          rows = g.rows;
          same = λ p K fs st. g.same p K fs st ∙ taken room (body p K (fs ⧺ g.forms)) (closed p K (fs ⧺ g.forms)) m j Close z a refl refl;
        }

    -- one more form x, by which the machine comes from here to there
    more : (x : Lines) (m' j' h' : ℕ) (rs' : List ℕ) (ks' : List (List ℕ)) → m' ≡ m + size x → h' ≡ max h (height hs x) → rs' ≡ records L x m →
        ((p : Plan) (K : Around) (fs : Lines) → Stands p K hs d L → run room (body p K fs) m j us ≡ run room (body p K (fs ⧺ x)) m' j' ks') →
        Forming room hs d L n i ls m' j' h' (rs ++ rs') ks'
    more x m' j' h' rs' ks' a b c q =
        record {
          forms = g.forms ⧺ x;
          sized = omega (arith, g.sized, size-⧺ g.forms x);
          tall = b ∙ (ap (λ y. max y (height hs x)) g.tall ∙ sym (height-⧺ hs g.forms x));
          rows = ap₂ (λ y z. y ++ z) g.rows c ∙ sym (records-⧺ L g.forms x n m g.sized);
          same = λ p K fs st. g.same p K fs st ∙ (q p K (fs ⧺ g.forms) st ∙ ap (λ y. run room (body p K y) m' j' ks') (⧺-assoc fs g.forms x));
        }

    -- A leaf line.
    pub forming_leaf : (k : Bool) (c v : ℕ) → Held l (Leaf k c v) → fault room d L m hs (Leaf k c v) ≡ None →
        Forming room hs d L n i ls (m + 1) (j + 1) (max h 1) (rs ++ entry 0 (block m k c v) 0 0 (m + 1) L) ks
    unfolding size height records brackets level functions_of
    forming_leaf k c v a b =
        more (leaf_line (block m k c v) close) (m + 1) (j + 1) (max h 1) (entry 0 (block m k c v) 0 0 (m + 1) L) ks (omega arith) (omega arith) refl
        (λ p K fs st. taken room (body p K fs) _ m j (Leaf k c v) z a refl (rw (st.known, st.opened, st.floor) b))

    -- A call line.
    pub forming_call : (k : Bool) (f c v : ℕ) → Held l (Call k f c v) → fault room d L m hs (Call k f c v) ≡ None →
        Forming room hs d L n i ls (m + 1) (j + 1) (max h (1 + get_or hs f 0)) (rs ++ entry 1 (block m k c v) f 0 (m + 1) L) ks
    unfolding size height records brackets level functions_of
    forming_call k f c v a b =
        more (call_line (block m k c v) f close) (m + 1) (j + 1) (max h (1 + get_or hs f 0)) (entry 1 (block m k c v) f 0 (m + 1) L) ks (omega arith) (omega arith) refl
        (λ p K fs st. taken room (body p K fs) _ m j (Call k f c v) z a refl (rw (st.known, st.opened, st.floor) b))

    -- A loop: its line, and its body by the same contract with one bracket and one level more.
    pub forming_loop : (k : Bool) (b c v : ℕ) → Held l (Loop k b c v) → fault room d L m hs (Loop k b c v) ≡ None →
        {m' j' h' : ℕ} {rs' : List ℕ} {ks' : List (List ℕ)} → Enclosed room hs (d + 1) (L + 1) (m + 1) (j + 1) ks m' j' h' rs' ks' →
        Forming room hs d L n i ls m' j' (max h (1 + h')) (rs ++ (entry 2 (block m k c v) b 0 m' L ++ rs')) ks'
    unfolding size height records ◌⧺◌
    forming_loop k b c v a e {m'} {j'} {h'} {rs'} {ks'} got =
        more (loop_line (block m k c v) b got.forms close) m' j' (max h (1 + h')) (entry 2 (block m k c v) b 0 m' L ++ rs') ks' (omega (arith, got.sized)) (omega (arith, got.tall))
        (ap₂ (λ x y. entry 2 (block m k c v) b 0 x L ++ y) got.sized (got.rows ∙ sym (append-nil (records (L + 1) got.forms (m + 1)))))
        (λ p K fs st. loop_opens room m j z p K fs st k b c v a e ∙ got.same p (in_loop (block m k c v) b fs K) close (in_loop_stands p K (block m k c v) b fs st))

    -- An if: its line, `(then`, the then part with two brackets more, `(else`, the else part with two brackets more, and its `)`.
    pub forming_if : (k : Bool) (c v : ℕ) → Held l (If k c v) → fault room d L m hs (If k c v) ≡ None → d + 1 < 64 →
        {l₁ : List ℕ} {ks₁ : List (List ℕ)} → ks ≡ l₁ ∷ ks₁ → Held l₁ Then →
        {m₁ j₁ h₁ : ℕ} {rs₁ : List ℕ} {us₂ : List (List ℕ)} → Enclosed room hs (d + 2) L (m + 1) (j + 1 + 1) ks₁ m₁ j₁ h₁ rs₁ us₂ →
        {l₂ : List ℕ} {ks₂ : List (List ℕ)} → us₂ ≡ l₂ ∷ ks₂ → Held l₂ Else →
        {m₂ j₂ h₂ : ℕ} {rs₂ : List ℕ} {us₃ : List (List ℕ)} → Enclosed room hs (d + 2) L m₁ (j₁ + 1) ks₂ m₂ j₂ h₂ rs₂ us₃ →
        {l₃ : List ℕ} {ks₃ : List (List ℕ)} → us₃ ≡ l₃ ∷ ks₃ → Held l₃ Close →
        Forming room hs d L n i ls m₂ (j₂ + 1) (max h (max 1 (max h₁ h₂))) (rs ++ (entry 3 (block m k c v) 0 m₁ m₂ L ++ (rs₁ ++ rs₂))) ks₃
    unfolding size height
    forming_if k c v a e o z₁ a₁ {m₁} {j₁} {h₁} {rs₁} got₁ z₂ a₂ {m₂} {j₂} {h₂} {rs₂} got₂ {ks₃ = ks₃} z₃ a₃ =
        more (if_line (block m k c v) got₁.forms got₂.forms close) m₂ (j₂ + 1) (max h (max 1 (max h₁ h₂))) (entry 3 (block m k c v) 0 m₁ m₂ L ++ (rs₁ ++ rs₂)) ks₃
        (omega (arith, got₁.sized, got₂.sized))
        (if_tall h h₁ h₂ (height hs got₁.forms) (height hs got₂.forms) got₁.tall got₂.tall)
        (if_rows m₁ m₂ rs₁ rs₂ got₁.forms got₂.forms got₁.sized got₂.sized got₁.rows got₂.rows)
        (λ p K fs st.
        else_closes room m j z p K fs st k c v a e o z₁ a₁ got₁ z₂ a₂ got₂
        ∙ taken room (await_close p K (block m k c v) got₁.forms got₂.forms fs) (body p K (fs ⧺ if_line (block m k c v) got₁.forms got₂.forms close)) m₂ j₂ Close z₃ a₃ refl (unfold fault in refl))
      where
        zero_max : (z : ℕ) → z ≡ max z 0
        zero_max z = omega arith

        if_tall : (h h₁ h₂ x y : ℕ) → h₁ ≡ x → h₂ ≡ y → max h (max 1 (max h₁ h₂)) ≡ max h (max (max 1 (max x y)) 0)
        if_tall h h₁ h₂ x y a b = ap₂ (λ u w. max h (max 1 (max u w))) a b ∙ ap (λ z. max h z) (zero_max (max 1 (max x y)))

        if_rows : (m₁ m₂ : ℕ) (rs₁ rs₂ : List ℕ) (x y : Lines) → m₁ ≡ m + 1 + size x → m₂ ≡ m₁ + size y → rs₁ ≡ records L x (m + 1) → rs₂ ≡ records L y m₁ →
            entry 3 (block m k c v) 0 m₁ m₂ L ++ (rs₁ ++ rs₂) ≡ records L (if_line (block m k c v) x y close) m
        if_rows m₁ m₂ rs₁ rs₂ x y p q r s = unfold records in rw (q, s, r, p) (ap (λ w. entry 3 (block m k c v) 0 (m + 1 + size x) (m + 1 + size x + size y) L ++ (records L x (m + 1) ++ w)) (sym (append-nil (records L y (m + 1 + size x)))))

-- THE FUNCTIONS, one after the other: hs are their heights, rs their records and bs their bounds.
pub record Reading (room : ℕ) (ls : List (List ℕ)) (p : Plan) (n i : ℕ) (hs rs bs : List ℕ) (us : List (List ℕ)) : Type 0 where
  pub sized : n ≡ sizes p.functions
  pub known : heights [] p.functions ≡ hs
  pub rows : rs ≡ records_all 0 p.functions
  pub bounded : bs ≡ bounds 0 p.functions
  pub same : run room start 0 1 ls ≡ run room (task p) n i us

-- The task line.
pub reading_start : (room : ℕ) {ls : List (List ℕ)} {l : List ℕ} {ks : List (List ℕ)} (D T : ℕ) (u : Edition) → ls ≡ l ∷ ks → Held l (Task D T u) → fault room 0 0 0 [] (Task D T u) ≡ None →
    Reading room ls (record { deadline = D; switch = T; edition = u; functions = [] }) 0 2 [] [] (0 ∷ []) ks
unfolding sizes heights brackets level functions_of records_all bounds
reading_start room D T u z a b = record { sized = refl; known = refl; rows = refl; bounded = refl; same = taken room start _ 0 1 (Task D T u) z a refl b }

-- A function's body has two brackets and level 1.
pub in_fun_stands : {room : ℕ} {ls : List (List ℕ)} {p : Plan} {n i : ℕ} {hs rs bs : List ℕ} {us : List (List ℕ)} → Reading room ls p n i hs rs bs us → Stands p in_fun hs 2 1
unfolding brackets_in level_in
in_fun_stands g = record { known = g.known; opened = refl; floor = refl }

module _ {room : ℕ} {ls : List (List ℕ)} {p : Plan} {n i : ℕ} {hs rs bs : List ℕ} {us : List (List ℕ)} (g : Reading room ls p n i hs rs bs us) {l : List ℕ} {ks : List (List ℕ)} (z : us ≡ l ∷ ks) where
  -- A function's line leads into its body, with two brackets, at level 1.
  pub fun_opens : Held l Fun → fault room 1 0 n hs Fun ≡ None → run room start 0 1 ls ≡ run room (body p in_fun close) n (i + 1) ks
  unfolding brackets level functions_of
  fun_opens a b = g.same ∙ taken room (task p) (body p in_fun close) n i Fun z a refl (rw g.known b)

  -- A function: its line, and its body by the contract.
  pub reading_fun : Held l Fun → fault room 1 0 n hs Fun ≡ None → {m j h : ℕ} {rs' : List ℕ} {ks' : List (List ℕ)} → (got : Enclosed room hs 2 1 n (i + 1) ks m j h rs' ks') →
      Reading room ls (with_function p got.forms) m j (hs ++ (h ∷ [])) (rs ++ rs') (bs ++ (m ∷ [])) ks'
  unfolding ◌⧺◌
  reading_fun a b {m} {j} {h} {rs'} {ks'} got =
      record {
        sized = omega (arith, g.sized, got.sized, sizes_snoc p.functions got.forms);
        known = heights_snoc [] p.functions got.forms ∙ rw (g.known, got.tall);
        rows = ap₂ (λ x y. x ++ y) g.rows got.rows ∙ sym (records_all_snoc 0 p.functions got.forms n (omega (arith, g.sized)));
        bounded = ap (λ x. x ++ (m ∷ [])) g.bounded ∙ sym (bounds_snoc 0 p.functions got.forms m (omega (arith, g.sized, got.sized)));
        same = fun_opens a b ∙ got.same p in_fun close (in_fun_stands g);
      }

  -- The task closes.
  pub reading_end : Held l Close → 1 ≤ length p.functions → run room start 0 1 ls ≡ run room (done p) n (i + 1) ks
  unfolding fault
  reading_end a h = g.same ∙ taken room (task p) (done p) n i Close z a (closes_task p n h) refl
