-- What the code knows at each line, and how its contracts follow from the laws of the contract: one law for each place where it goes on or returns.
use Prim.Native.Nat.{ℕ, ◌+◌, ◌*◌, ◌≤◌, ◌<◌, max}
use mathlib.Core.Path.{◌≡◌, refl, sym, ap, ap₂, subst, ◌∙◌}
use mathlib.Core.List.{List, [], ◌∷◌, ◌++◌}
use mathlib.Core.Bool.{Bool, true, false}
use native.Mathlib.Omega.{arith}
use lib.ListN.{length, get_or, drop}
use lib.Seq.{sets}
use lib.Dec.{leb}
use borrow.Author.Tests.{leb-true, leb-false}
use Rattle.model.specs.Plan.{Lines, Plan}
use Rattle.model.specs.Acceptance.{size}
use Rattle.text.specs.declared.Form.{Form}
use Rattle.text.specs.declared.Form.TheVariants.{Task, Fun, Then, Else, Close, Leaf, Call, Loop, If}
use Rattle.text.specs.Text.{lines, line_at, rest_at}
use Rattle.text.specs.Grammar.{no_form, line_form, read_at, Found, Means}
use Rattle.text.proofs.Theorems.{read_means, lines_found, lines_at, lines_end}
use Rattle.std.specs.Prelude.{Option, None, Some, Result, Ok, Err, ◌≢◌}
use Rattle.model.specs.declared.Refusal.{Refusal}
use Rattle.reader.specs.declared.RefusedAt.{RefusedAt}
use Rattle.reader.specs.declared.Spot.{Spot}
use Rattle.reader.specs.declared.Nesting.{Nesting}
use Rattle.reader.specs.declared.Closed.{Closed}
use Rattle.reader.specs.Machine.{◌⧺◌, Around, ParserState, body, stuck, to, block, in_body, fault, run}
use Rattle.rows.specs.Records.{entry, records}
use Rattle.reader.specs.Private.{body_fault, judged_line, body_line, AwaitedAt, AroundOf, Halted, Leads, Came, FormsDone, FormsAt, FormDone, PartsAt}
use Rattle.reader.proofs.Appended.{⧺-assoc, size-⧺, height-⧺}
use Rattle.rows.proofs.Records.{records_length}
use Rattle.reader.proofs.Records.{records-⧺}
use Rattle.reader.proofs.Allowed.{allowed}
use Rattle.reader.proofs.Capped.{Held, found_held}
use Rattle.reader.proofs.Contract.{Stands, Forming, Enclosed, forming_start, forming_out, forming_leaf, forming_call, forming_loop, forming_if}
use Rattle.reader.proofs.Halts.{Refuses, Amiss, no_more, unread, other, refuses_on, refuses_end, refuses_unread, refuses_misplaced, refuses_fault, refuses_loop, refuses_no_then, refuses_deep_then, refuses_then, refuses_no_else, refuses_else, refuses_no_close}
use Rattle.reader.proofs.Stores.{sets_behind, sets_before}

-- THE SAME IN OTHER WORDS

stands : {p : Plan} {K : Around} {hs : List ℕ} {d L : ℕ} → AroundOf p K hs d L → Stands p K hs d L
stands (a, b, c) = record { known = a; opened = b; floor = c }

around : {p : Plan} {K : Around} {hs : List ℕ} {d L : ℕ} → Stands p K hs d L → AroundOf p K hs d L
around st = (st.known, st.opened, st.floor)

pub halted : {room : ℕ} {hs : List ℕ} {d L n i : ℕ} {us : List (List ℕ)} {r : Refusal} {x : ℕ} → Refuses room hs d L n i us r x → Halted room hs d L n i us r x
halted q = record { halts = λ p K fs st. q.stops p K fs (stands st) }

pub refuses : {room : ℕ} {hs : List ℕ} {d L n i : ℕ} {us : List (List ℕ)} {r : Refusal} {x : ℕ} → Halted room hs d L n i us r x → Refuses room hs d L n i us r x
refuses q = record { stops = λ p K fs st. q.halts p K fs (around st) }

pub enclosed : {s : List ℕ} {room : ℕ} {hs : List ℕ} {d L at i n : ℕ} {R₀ R : List ℕ} {e j m h : ℕ} → (w : FormsDone s room hs d L at i n R₀ R e j m h) →
    Enclosed room hs d L n i (lines (drop at s)) m j h (records L w.forms n) (lines (drop e s))
enclosed w = record { forms = w.forms; sized = w.sized; tall = w.tall; rows = refl; same = λ p K fs st. w.same p K fs (around st) }

leads_held : {us : List (List ℕ)} {f : Form} {ks : List (List ℕ)} (w : Leads us f ks) → Held w.line f
leads_held w = record { whole = w.whole; line = w.reads; held = w.held }

pub leads_found : {s : List ℕ} {at : ℕ} {f : Form} {e : ℕ} → Found s at f e → Leads (lines (drop at s)) f (lines (drop e s))
leads_found {s} {at} w = record { line = line_at s at; split = lines_found w; whole = w.exact; reads = w.reads; held = sym w.held }

-- ONE LINE

-- What the line at a spot is in a body: it is refused, or it was found, and meets no refusal.
abbrev pub LineAt : ℕ → Nesting → List ℕ → List ℕ → Spot → Result (Form × ℕ) RefusedAt → Type 0
LineAt room w hs s p (Err x) = Refuses room hs w.brackets w.level p.leaves p.line (lines (drop p.at s)) x.refusal x.line
LineAt room w hs s p (Ok q) = Found s p.at q.0 q.1 × (body_fault room w.brackets w.level p.leaves hs q.0 ≡ None)

-- Where no form of the grammar stands, the text ends or the line there is none.
pub no_line_at : {A : Type 0} (s : List ℕ) (at : ℕ) → line_form (line_at s at) ≡ no_form → (lines (drop at s) ≡ [] → A) →
    ((l : List ℕ) (ks : List (List ℕ)) → lines (drop at s) ≡ l ∷ ks → line_form l ≡ no_form → A) → A
no_line_at {A} s at e f g = here (leb (length s) at) refl
  where
    here : (t : Bool) → leb (length s) at ≡ t → A
    here true h = f (lines_end s at (leb-true (length s) at h))
    here false h = g (line_at s at) (lines (rest_at s at)) (lines_at s at (leb-false (length s) at h)) e

module _ (room : ℕ) (w : Nesting) (hs : List ℕ) (s : List ℕ) (p : Spot) where
  judged_at : (f : Form) (e : ℕ) → Found s p.at f e → body_fault room w.brackets w.level p.leaves hs f ≡ fault room w.brackets w.level p.leaves hs f →
      ((q : Plan) (K : Around) (fs : Lines) → (S : ParserState) × (in_body p.leaves q K fs f ≡ to S)) →
      (x : Option Refusal) → fault room w.brackets w.level p.leaves hs f ≡ x → LineAt room w hs s p (judged_line p.line x f e)
  judged_at f e v o a None z = (v, o ∙ z)
  judged_at f e v o a (Some x) z = refuses_fault (lines_found v) f x (found_held v) a z

  stray : (f : Form) (e : ℕ) → Found s p.at f e → ((q : Plan) (K : Around) (fs : Lines) → in_body p.leaves q K fs f ≡ stuck) → LineAt room w hs s p (Err (record { refusal = Refusal.Form; line = p.line }))
  stray f e v a = refuses_misplaced (lines_found v) f (found_held v) a

  judged : (r : Option (Form × ℕ)) → Means s p.at r → LineAt room w hs s p (body_line p.line room w.brackets w.level p.leaves hs r)
  judged None v = no_line_at s p.at v (λ z. refuses_end z) (λ l ks z a. refuses_unread z a)
  judged (Some (Task x y u, e)) v = stray (Task x y u) e v (λ q K fs. refl)
  judged (Some (Fun, e)) v = stray Fun e v (λ q K fs. refl)
  judged (Some (Then, e)) v = stray Then e v (λ q K fs. refl)
  judged (Some (Else, e)) v = stray Else e v (λ q K fs. refl)
  judged (Some (Close, e)) v = (v, refl)
  judged (Some (Leaf k c m, e)) v = judged_at (Leaf k c m) e v refl (λ q K fs. (_, refl)) (fault room w.brackets w.level p.leaves hs (Leaf k c m)) refl
  judged (Some (Call k f c m, e)) v = judged_at (Call k f c m) e v refl (λ q K fs. (_, refl)) (fault room w.brackets w.level p.leaves hs (Call k f c m)) refl
  judged (Some (Loop k b c m, e)) v = judged_at (Loop k b c m) e v refl (λ q K fs. (_, refl)) (fault room w.brackets w.level p.leaves hs (Loop k b c m)) refl
  judged (Some (If k c m, e)) v = judged_at (If k c m) e v refl (λ q K fs. (_, refl)) (fault room w.brackets w.level p.leaves hs (If k c m)) refl

  -- What `body_line` answers is so.
  pub line_means : {r : Result (Form × ℕ) RefusedAt} → r ≡ body_line p.line room w.brackets w.level p.leaves hs (read_at s p.at) → LineAt room w hs s p r
  line_means q = subst (LineAt room w hs s p) (sym q) (judged (read_at s p.at) (read_means s p.at (read_at s p.at) refl))

-- Whether the form f stands at a spot: then the spot behind it is the answer; if not, it is refused.
abbrev pub SignAt : List ℕ → Form → Spot → Result Spot RefusedAt → Type 0
SignAt s f p (Err x) = Amiss f (lines (drop p.at s)) × (x.refusal ≡ Refusal.Form) × (x.line ≡ p.line)
SignAt s f p (Ok q) = Found s p.at f q.at × (q.line ≡ p.line + 1) × (q.leaves ≡ p.leaves)

sign_at : (s : List ℕ) (f : Form) (p : Spot) (r : Option (Form × ℕ)) (a : Result Spot RefusedAt) → Means s p.at r → AwaitedAt f p r a → SignAt s f p a
sign_at s f p None (Err x) w q =
    let e : x ≡ record { refusal = Refusal.Form; line = p.line } = cc in
    (no_line_at s p.at w (λ q. no_more q) (λ l ks z a. unread l ks z a), ap (λ (y : RefusedAt). y.refusal) e, ap (λ (y : RefusedAt). y.line) e)
sign_at s f p None (Ok x) w q = cc
sign_at s f p (Some (g, e)) (Err x) w (h, q) =
    (other (line_at s p.at) (lines (drop e s)) g (lines_found w) (found_held w) h, ap (λ (y : RefusedAt). y.refusal) q, ap (λ (y : RefusedAt). y.line) q)
sign_at s f p (Some (g, e)) (Ok x) w (h, q) =
    (subst (λ y. Found s p.at f y) (sym (ap (λ (y : Spot). y.at) q)) (subst (λ y. Found s p.at y e) h w), ap (λ (y : Spot). y.line) q, ap (λ (y : Spot). y.leaves) q)

-- What `awaited` answers is so.
pub sign_means : (s : List ℕ) (f : Form) (p : Spot) (a : Result Spot RefusedAt) → AwaitedAt f p (read_at s p.at) a → SignAt s f p a
sign_means s f p a q = sign_at s f p (read_at s p.at) a (read_means s p.at (read_at s p.at) refl) q

-- THE FORMS OF A BODY, one after the other

-- So far: the forms read, their records written, and the place.
pub record Going (s : List ℕ) (room : ℕ) (hs : List ℕ) (d L from first count : ℕ) (R₀ : List ℕ) (at i n h : ℕ) (R : List ℕ) : Type 0 where
  pub came : Came s room L from at i n h
  pub rs : List ℕ
  pub filled : R ≡ sets R₀ (8 * count) rs
  pub forming : Forming room hs d L count first (lines (drop from s)) n i h rs (lines (drop at s))

module _ {s : List ℕ} {room : ℕ} {hs : List ℕ} {d L : ℕ} where
  pub going_start : (from first count : ℕ) (R : List ℕ) → from ≤ length s → first ≤ from + 1 → count ≤ room → Going s room hs d L from first count R from first count 0 R
  going_start from first count R a b c =
      record {
        came = record { past = omega arith; within = a; numbered = b; fits = c; low = omega arith };
        rs = [];
        filled = refl;
        forming = forming_start count first (lines (drop from s));
      }

  module _ {from first count : ℕ} {R₀ : List ℕ} {at i n h : ℕ} {R : List ℕ} (g : Going s room hs d L from first count R₀ at i n h R) where
    -- A line is refused.
    pub going_halt : {r : Refusal} {x : ℕ} → Refuses room hs d L n i (lines (drop at s)) r x → Halted room hs d L count first (lines (drop from s)) r x
    going_halt q = halted (refuses_on g.forming q)

    -- A line closes the body.
    pub going_out : {e : ℕ} → Found s at Close e → FormsDone s room hs d L from first count R₀ R e (i + 1) n h
    going_out {e} w =
        let q : Enclosed room hs d L count first (lines (drop from s)) n (i + 1) h g.rs (lines (drop e s)) = forming_out g.forming (lines_found w) (found_held w) in
        record {
          came =
              record {
                past = omega (arith, g.came.past, w.past);
                within = w.within;
                numbered = omega (arith, g.came.numbered, w.past);
                fits = g.came.fits;
                low = g.came.low;
              };
          forms = q.forms;
          sized = q.sized;
          tall = q.tall;
          filled = g.filled ∙ ap (sets R₀ (8 * count)) q.rows;
          same = λ p K fs st. q.same p K fs (stands st);
        }

    -- One more form was read.
    pub going_more : {f : Form} {b a j m x t : ℕ} {R' : List ℕ} → Found s at f b → FormDone s room hs d L b i n (lines (drop at s)) R R' a j m x → t ≡ max h x →
        Going s room hs d L from first count R₀ a j m t R'
    going_more {f} {b} {a} {j} {m} {x} {t} {R'} w q e =
        record {
          came =
              record {
                past = omega (arith, g.came.past, w.past, q.came.past);
                within = q.came.within;
                numbered = q.came.numbered;
                fits = q.came.fits;
                low = omega (arith, g.came.low, q.came.low);
              };
          rs = g.rs ++ records L q.forms n;
          filled =
              q.filled
              ∙ (ap (λ y. sets y (8 * n) (records L q.forms n)) g.filled
              ∙ sets_behind g.rs (records L q.forms n) R₀ (8 * count) (8 * n) (omega (arith, g.forming.sized, wide)));
          forming =
              record {
                forms = g.forming.forms ⧺ q.forms;
                sized = omega (arith, g.forming.sized, q.sized, size-⧺ g.forming.forms q.forms);
                tall = e ∙ (ap₂ max g.forming.tall q.tall ∙ sym (height-⧺ hs g.forming.forms q.forms));
                rows = ap (λ y. y ++ records L q.forms n) g.forming.rows ∙ sym (records-⧺ L g.forming.forms q.forms count n g.forming.sized);
                same = λ p K fs st.
                    g.forming.same p K fs st
                    ∙ (q.same p K (fs ⧺ g.forming.forms) (around st) ∙ ap (λ y. run room (body p K y) m j (lines (drop a s))) (⧺-assoc fs g.forming.forms q.forms));
              };
        }
      where
        wide : length g.rs ≡ 8 * size g.forming.forms
        wide = ap length g.forming.rows ∙ records_length L g.forming.forms count

-- ONE FORM behind its line

-- From the law of its kind.
done_form : {s : List ℕ} {room : ℕ} {hs : List ℕ} {d L at i n : ℕ} {us : List (List ℕ)} {R₀ R : List ℕ} {e j m x h : ℕ} {rs : List ℕ} → Came s room L at e j m h →
    Forming room hs d L n i us m j x rs (lines (drop e s)) → h ≡ x → R ≡ sets R₀ (8 * n) rs → FormDone s room hs d L at i n us R₀ R e j m h
done_form {n = n} {R₀ = R₀} a g t f =
    record { came = a; forms = g.forms; sized = g.sized; tall = t ∙ g.tall; filled = f ∙ ap (sets R₀ (8 * n)) g.rows; same = λ p K fs st. g.same p K fs (stands st) }

module _ {s : List ℕ} {room : ℕ} {hs : List ℕ} {d L at i n : ℕ} {R₀ : List ℕ} where
  -- A leaf line is the whole form.
  pub form_leaf : (k : Bool) (c m : ℕ) {R : List ℕ} → at ≤ length s → i ≤ at → fault room d L n hs (Leaf k c m) ≡ None → R ≡ sets R₀ (8 * n) (entry 0 (block n k c m) 0 0 (n + 1) L) →
      (us : List (List ℕ)) → Leads us (Leaf k c m) (lines (drop at s)) → FormDone s room hs d L at i n us R₀ R at (i + 1) (n + 1) 1
  form_leaf k c m a b e f us w =
      let (x, y, z, u, o, v) = allowed room d L n hs (Leaf k c m) e in
      done_form (record { past = omega arith; within = a; numbered = omega arith; fits = omega arith; low = omega arith })
      (forming_leaf (forming_start n i us) w.split k c m (leads_held w) e) (omega arith) f

  -- So is a call line.
  pub form_call : (k : Bool) (t c m : ℕ) {R : List ℕ} {h : ℕ} → at ≤ length s → i ≤ at → fault room d L n hs (Call k t c m) ≡ None → h ≡ 1 + get_or hs t 0 →
      R ≡ sets R₀ (8 * n) (entry 1 (block n k c m) t 0 (n + 1) L) → (us : List (List ℕ)) → Leads us (Call k t c m) (lines (drop at s)) →
      FormDone s room hs d L at i n us R₀ R at (i + 1) (n + 1) h
  form_call k t c m a b e q f us w =
      let (o, x, y, z, u, p, r, v) = allowed room d L n hs (Call k t c m) e in
      done_form (record { past = omega arith; within = a; numbered = omega arith; fits = omega arith; low = omega arith })
      (forming_call (forming_start n i us) w.split k t c m (leads_held w) e) (omega arith) f

  -- A loop with its body.
  pub form_loop : (k : Bool) (t c m : ℕ) {R R' : List ℕ} {e j o h : ℕ} → fault room d L n hs (Loop k t c m) ≡ None →
      FormsDone s room hs (d + 1) (L + 1) at (i + 1) (n + 1) R₀ R e j o h → R' ≡ sets R (8 * n) (entry 2 (block n k c m) t 0 o L) →
      (us : List (List ℕ)) → Leads us (Loop k t c m) (lines (drop at s)) → FormDone s room hs d L at i n us R₀ R' e j o (1 + h)
  form_loop k t c m {R} {R'} {e} {j} {o} {h} f q g us w =
      let (o₁, o₂, x, y, z, u, p, r, v) = allowed room d L n hs (Loop k t c m) f in
      done_form
      (record {
        past = q.came.past;
        within = q.came.within;
        numbered = q.came.numbered;
        fits = q.came.fits;
        low = omega (arith, q.came.low);
      })
      (forming_loop (forming_start n i us) w.split k t c m (leads_held w) f (enclosed q)) (omega arith)
      (g
      ∙ (ap (λ y. sets y (8 * n) (entry 2 (block n k c m) t 0 o L)) q.filled
      ∙ sets_before (entry 2 (block n k c m) t 0 o L) (records (L + 1) q.forms (n + 1)) R₀ (8 * n) (8 * (n + 1)) (omega arith)))

-- A loop whose body is refused.
pub form_loop_stopped : {room : ℕ} {hs : List ℕ} {d L i n : ℕ} {ks : List (List ℕ)} {r : Refusal} {x : ℕ} (k : Bool) (t c m : ℕ) → fault room d L n hs (Loop k t c m) ≡ None →
    Halted room hs (d + 1) (L + 1) (n + 1) (i + 1) ks r x → (us : List (List ℕ)) → Leads us (Loop k t c m) ks → Halted room hs d L n i us r x
form_loop_stopped k t c m e q us w = halted (refuses_loop w.split k t c m (leads_held w) e (refuses q))

module _ {room : ℕ} {hs : List ℕ} {d L i n : ℕ} (k : Bool) (c m : ℕ) (e : fault room d L n hs (If k c m) ≡ None) where
  -- An if whose then part does not come.
  pub form_no_then : {ks : List (List ℕ)} → Amiss Then ks → (us : List (List ℕ)) → Leads us (If k c m) ks → Halted room hs d L n i us Refusal.Form (i + 1)
  form_no_then q us w = halted (refuses_no_then w.split k c m (leads_held w) e q)

  module _ {s : List ℕ} {at a : ℕ} (w₁ : Found s at Then a) where
    -- A then part that would be the 65th open bracket.
    pub form_deep : 64 ≤ d + 1 → (us : List (List ℕ)) → Leads us (If k c m) (lines (drop at s)) → Halted room hs d L n i us Refusal.Depth (i + 1)
    form_deep o us w = halted (refuses_deep_then w.split k c m (leads_held w) e (lines_found w₁) (found_held w₁) o)

    module _ (o : d + 1 < 64) where
      -- A then part that is refused.
      pub form_then : {r : Refusal} {x : ℕ} → Halted room hs (d + 2) L (n + 1) (i + 1 + 1) (lines (drop a s)) r x → (us : List (List ℕ)) → Leads us (If k c m) (lines (drop at s)) →
          Halted room hs d L n i us r x
      form_then q us w = halted (refuses_then w.split k c m (leads_held w) e (lines_found w₁) (found_held w₁) o (refuses q))

      module _ {R₀ R₁ : List ℕ} {b j mid h₁ : ℕ} (got₁ : FormsDone s room hs (d + 2) L a (i + 1 + 1) (n + 1) R₀ R₁ b j mid h₁) where
        -- An if whose else part does not come.
        pub form_no_else : Amiss Else (lines (drop b s)) → (us : List (List ℕ)) → Leads us (If k c m) (lines (drop at s)) → Halted room hs d L n i us Refusal.Form j
        form_no_else q us w = halted (refuses_no_else w.split k c m (leads_held w) e (lines_found w₁) (found_held w₁) o (enclosed got₁) q)

        module _ {g : ℕ} (w₂ : Found s b Else g) where
          -- An else part that is refused.
          pub form_else : {r : Refusal} {x : ℕ} → Halted room hs (d + 2) L mid (j + 1) (lines (drop g s)) r x → (us : List (List ℕ)) → Leads us (If k c m) (lines (drop at s)) →
              Halted room hs d L n i us r x
          form_else q us w =
              halted (refuses_else w.split k c m (leads_held w) e (lines_found w₁) (found_held w₁) o (enclosed got₁) (lines_found w₂) (found_held w₂) (refuses q))

          module _ {R₂ : List ℕ} {y l end h₂ : ℕ} (got₂ : FormsDone s room hs (d + 2) L g (j + 1) mid R₁ R₂ y l end h₂) where
            -- An if that is not closed.
            pub form_no_close : Amiss Close (lines (drop y s)) → (us : List (List ℕ)) → Leads us (If k c m) (lines (drop at s)) → Halted room hs d L n i us Refusal.Form l
            form_no_close q us w =
                halted
                (refuses_no_close w.split k c m (leads_held w) e (lines_found w₁) (found_held w₁) o (enclosed got₁) (lines_found w₂) (found_held w₂) (enclosed got₂) q)

            -- An if with its parts.
            pub form_if : {z h : ℕ} {R : List ℕ} → Found s y Close z → h ≡ max 1 (max h₁ h₂) → R ≡ sets R₂ (8 * n) (entry 3 (block n k c m) 0 mid end L) →
                (us : List (List ℕ)) → Leads us (If k c m) (lines (drop at s)) → FormDone s room hs d L at i n us R₀ R z (l + 1) end h
            form_if {z} {h} {R} w₃ t f us w =
                let (p, q, r, u, y, v, x) = allowed room d L n hs (If k c m) e in
                done_form
                (record {
                  past = omega (arith, w₁.past, got₁.came.past, w₂.past, got₂.came.past, w₃.past);
                  within = w₃.within;
                  numbered = omega (arith, got₂.came.numbered, w₃.past);
                  fits = got₂.came.fits;
                  low = omega (arith, got₁.came.low, got₂.came.low);
                })
                (forming_if (forming_start n i us) w.split k c m (leads_held w) e o (lines_found w₁) (found_held w₁) (enclosed got₁) (lines_found w₂) (found_held w₂) (enclosed got₂)
                (lines_found w₃) (found_held w₃))
                (omega arith)
                (f
                ∙ (ap (λ y. sets y (8 * n) (entry 3 (block n k c m) 0 mid end L)) (got₂.filled ∙ (ap (λ y. sets y (8 * mid) (records L got₂.forms mid)) got₁.filled ∙ joined))
                ∙ sets_before (entry 3 (block n k c m) 0 mid end L) (records L got₁.forms (n + 1) ++ records L got₂.forms mid) R₀ (8 * n) (8 * (n + 1)) (omega arith)))
              where
                joined : sets (sets R₀ (8 * (n + 1)) (records L got₁.forms (n + 1))) (8 * mid) (records L got₂.forms mid) ≡
                    sets R₀ (8 * (n + 1)) (records L got₁.forms (n + 1) ++ records L got₂.forms mid)
                joined =
                    sets_behind (records L got₁.forms (n + 1)) (records L got₂.forms mid) R₀ (8 * (n + 1)) (8 * mid)
                    (omega (arith, got₁.sized, records_length L got₁.forms (n + 1)))

-- THE PARTS OF AN IF, as the code reads them

-- How deep the parts of an if lie.
abbrev pub inside : Nesting → Nesting
inside w = record { brackets = w.brackets + 2; level = w.level }

module _ {room : ℕ} {hs : List ℕ} {d L : ℕ} where
  halted_at : {n n' i i' : ℕ} {us : List (List ℕ)} {r : Refusal} {x : ℕ} → n ≡ n' → i ≡ i' → Halted room hs d L n i us r x → Halted room hs d L n' i' us r x
  halted_at {n} {n'} {i} {i'} {us} {r} {x} p q w = subst (λ y. Halted room hs d L y i' us r x) p (subst (λ y. Halted room hs d L n y us r x) q w)

  done_at : {s : List ℕ} {at n n' i i' : ℕ} {R₀ R : List ℕ} {e j m h : ℕ} → n ≡ n' → i ≡ i' → FormsDone s room hs d L at i n R₀ R e j m h →
      FormsDone s room hs d L at i' n' R₀ R e j m h
  done_at {s} {at} {n} {n'} {i} {i'} {R₀} {R} {e} {j} {m} {h} p q w =
      subst (λ y. FormsDone s room hs d L at i' y R₀ R e j m h) p (subst (λ y. FormsDone s room hs d L at y n R₀ R e j m h) q w)

-- One line further.
onward : {i j l : ℕ} → i ≡ j + 1 → j ≡ l → i ≡ l + 1
onward p q = p ∙ ap (λ x. x + 1) q

module _ (s : List ℕ) (room : ℕ) (hs : List ℕ) (w : Nesting) (p : Spot) where
  -- The then part does not come.
  pub parts_no_then : (x : RefusedAt) → SignAt s Then p (Err x) → PartsAt s room hs w p [] [] (Err x)
  parts_no_then x (a, y, z) i n k c m e g fine us v = rw (y, z, e) (form_no_then k c m fine a us v)

  module _ {first : Spot} (a₁ : SignAt s Then p (Ok first)) where
    -- The then part would be the 65th open bracket.
    pub parts_deep : 64 ≤ w.brackets + 1 → PartsAt s room hs w p [] [] (Err (record { refusal = Refusal.Depth; line = p.line }))
    parts_deep o i n k c m e g fine us v = rw e (form_deep k c m fine a₁.0 o us v)

    module _ (o : w.brackets + 1 < 64) where
      -- The then part is refused.
      pub parts_then_refused : {x : RefusedAt} → FormsAt s room hs (inside w) first [] [] (Err x) → PartsAt s room hs w p [] [] (Err x)
      parts_then_refused h i n k c m e g fine us v = form_then k c m fine a₁.0 o (halted_at (a₁.2 ∙ g) (onward a₁.1 e) h) us v

      module _ {R₀ R₁ : List ℕ} {then : Closed} (got₁ : FormsAt s room hs (inside w) first R₀ R₁ (Ok then)) where
        -- The else part does not come.
        pub parts_no_else : {x : RefusedAt} → SignAt s Else then.next (Err x) → PartsAt s room hs w p [] [] (Err x)
        parts_no_else {x} (a, y, z) i n k c m e g fine us v = rw (y, z) (form_no_else k c m fine a₁.0 o (done_at (a₁.2 ∙ g) (onward a₁.1 e) got₁) a us v)

        module _ {second : Spot} (a₂ : SignAt s Else then.next (Ok second)) where
          -- The else part is refused.
          pub parts_else_refused : {x : RefusedAt} → FormsAt s room hs (inside w) second [] [] (Err x) → PartsAt s room hs w p [] [] (Err x)
          parts_else_refused h i n k c m e g fine us v =
              form_else k c m fine a₁.0 o (done_at (a₁.2 ∙ g) (onward a₁.1 e) got₁) a₂.0 (halted_at a₂.2 a₂.1 h) us v

          module _ {R₂ : List ℕ} {last : Closed} (got₂ : FormsAt s room hs (inside w) second R₁ R₂ (Ok last)) where
            -- The if is not closed.
            pub parts_no_close : {x : RefusedAt} → SignAt s Close last.next (Err x) → PartsAt s room hs w p [] [] (Err x)
            parts_no_close {x} (a, y, z) i n k c m e g fine us v =
                rw (y, z) (form_no_close k c m fine a₁.0 o (done_at (a₁.2 ∙ g) (onward a₁.1 e) got₁) a₂.0 (done_at a₂.2 a₂.1 got₂) a us v)

            -- The if has its parts.
            pub parts_done : {next : Spot} {h : ℕ} → SignAt s Close last.next (Ok next) → h ≡ max (max then.height last.height) 1 →
                PartsAt s room hs w p R₀ R₂ (Ok (then.next.leaves, record { next = next; height = h }))
            parts_done {next} {h} (a₃, y, z) t i n k c m R' e g fine f us v =
                rw (y, z)
                (form_if k c m fine a₁.0 o (done_at (a₁.2 ∙ g) (onward a₁.1 e) got₁) a₂.0 (done_at a₂.2 a₂.1 got₂) a₃ (omega (arith, t))
                (f ∙ ap (λ l. sets R₂ (8 * n) (entry 3 (block n k c m) 0 then.next.leaves l w.level)) z) us v)

-- A leaf's line that meets no refusal: the row has room for it, and its level is 32 at most.
pub leaf_fits : (room d L n : ℕ) (hs : List ℕ) (f : Form) → f ≢ Close → body_fault room d L n hs f ≡ None → (n < room) × (L ≤ 32)
leaf_fits room d L n hs (Task x y u) h e = cc
leaf_fits room d L n hs Fun h e = cc
leaf_fits room d L n hs Then h e = cc
leaf_fits room d L n hs Else h e = cc
leaf_fits room d L n hs Close h e = absurd (h refl)
leaf_fits room d L n hs (Leaf k c m) h e = let a = allowed room d L n hs (Leaf k c m) e in omega arith
leaf_fits room d L n hs (Call k f c m) h e = let a = allowed room d L n hs (Call k f c m) e in omega arith
leaf_fits room d L n hs (Loop k b c m) h e = let a = allowed room d L n hs (Loop k b c m) e in omega arith
leaf_fits room d L n hs (If k c m) h e = let a = allowed room d L n hs (If k c m) e in omega arith
