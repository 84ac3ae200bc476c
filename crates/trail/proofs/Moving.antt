-- What runs behind a visit, by the kind of its record: the inner forms and the outer ones as extents. Plain mathematics: no code is named here.
-- Assumes nothing.
use mathlib.Core.Bool.{Bool, true, false}
use mathlib.Core.List.{List}
use mathlib.Core.Option.{none, some}
use mathlib.Core.Path.{◌≡◌, refl, ap, sym, ◌∙◌}
use Prim.Native.Nat.{ℕ, zero, suc, ◌+◌, ◌*◌, ◌≤◌, ◌<◌}
use native.Mathlib.Omega.{arith}
use lib.ListN.{length, get_or}
use Rattle.model.specs.Plan.{Block, Lines, close, leaf_line, call_line, loop_line, if_line}
use Rattle.model.specs.Forms.{Forms, done, leaf, call, loop, cond, ◌⊕◌, forms}
use Rattle.model.specs.Stack.{turned}
use Rattle.model.proofs.Places.{never}
use Rattle.rows.specs.Rows.{kind_at, detail_at, other_at, after_at, block_at, Rep, Rules, Part, Piece}
use Rattle.rows.specs.First.{rest}
use Rattle.rows.proofs.Shape.{leaf_at, call_at, loop_at, if_at, ends, no_lines, parts}
use Rattle.place.specs.Pieces.{Spanned}
use Rattle.place.specs.Stack.{FunctionTable}
use Rattle.place.proofs.Shape.{rules_more, piece_after}
use Rattle.place.proofs.Views.{turned_loop}
use Rattle.short_runs.specs.Listing.{ways, on_way}
use Rattle.least_visits.specs.Least.{HasLeasts, TableLeasts}
use Rattle.trail.specs.declared.Extent.{Extent}
use Rattle.trail.specs.Trails.{ExtentIs}
use Rattle.trail.specs.Private.{TakenWay}

-- Only a loop goes round.
plain : (v : ℕ) (s g : Forms) → ((m : ℕ) → turned s (suc m) ≡ none) → turned s v ≡ some g → g ≡ s
unfolding turned
plain zero s g n e = cc
plain (suc v) s g n e = never (sym (n v) ∙ e)

-- What is noted of lines is noted of what they open with, and of the others.
module _ (w : List ℕ) (G : List Forms) (column : List ℕ) (i : ℕ) where
  noted_rest : (l : Lines) → HasLeasts w G column i l → HasLeasts w G column (after_at w i) (rest l)
  unfolding HasLeasts rest
  noted_rest close h = tt
  noted_rest (leaf_line b r) h = h.1
  noted_rest (call_line b f r) h = h.1
  noted_rest (loop_line b n body r) h = h.2
  noted_rest (if_line b t s r) h = h.3

  noted_body : (l : Lines) (b : Block) (n : ℕ) (body r : Lines) → l ≡ loop_line b n body r → HasLeasts w G column i l → HasLeasts w G column (i + 1) body
  unfolding HasLeasts
  noted_body l b n body r e h = (rw e at h).1

  noted_parts : (l : Lines) (b : Block) (x y r : Lines) → l ≡ if_line b x y r → HasLeasts w G column i l →
      HasLeasts w G column (i + 1) x × HasLeasts w G column (other_at w i) y
  unfolding HasLeasts
  noted_parts l b x y r e h = let (u, v, z, q) = rw e at h in (v, z)

  noted_none : HasLeasts w G column i close
  unfolding HasLeasts
  noted_none = tt

-- A record's kind is one of four.
rep_kind : (w : List ℕ) (v i e : ℕ) (l : Lines) → Rep w v i e l → i < e → kind_at w i ≤ 3
unfolding Rep
rep_kind w v i e close h lt = absurd (omega arith)
rep_kind w v i e (leaf_line b r) h lt = omega arith
rep_kind w v i e (call_line b f r) h lt = omega arith
rep_kind w v i e (loop_line b n body r) h lt = omega arith
rep_kind w v i e (if_line b x y r) h lt = omega arith

-- These records are forms of which none was visited yet.
abbrev pub Whole : {w starts : List ℕ} {n : ℕ} → FunctionTable w starts n → List ℕ → ℕ → ℕ → Forms → Type 0
Whole t column i e f = ExtentIs t column (record { from = i; to = e; rounds = 0 }) f

module _ {w starts : List ℕ} {n : ℕ} {t : FunctionTable w starts n} {column : List ℕ} where
  fresh : {i e : ℕ} {f : Forms} (s : Spanned w t.funs n i e f) → HasLeasts w t.funs column i s.piece.part.lines → Whole t column i e f
  unfolding turned
  fresh {f = f} s h = record { whole = f; spanned = s; rounds = refl; noted = h }

  -- Lines under fewer open brackets.
  inside : {hs : List ℕ} {left v i e : ℕ} (p : Part w hs left v i e) → left ≤ 62 → length hs ≤ n → e * 8 ≤ length w → HasLeasts w t.funs column i p.lines →
      Whole t column i e (forms t.funs p.lines)
  inside {hs} {left} {v} {i} {e} p le few room h =
      let q = rules_more hs left 62 v p.lines le p.rules in
      let piece : Piece w 62 i e = record { heights = hs; level = v; part = record { lines = p.lines; rep = p.rep; rules = q } } in
      fresh (record { piece = piece; few = few; same = refl; room = room }) h

  -- The forms of a function.
  pub function_lies : (f : ℕ) → f < n → TableLeasts t column → Whole t column (get_or starts f 0) (get_or starts (f + 1) 0) (get_or t.funs f done)
  function_lies f lt h =
      let s = t.each f lt in
      fresh (record { piece = s.piece; few = omega (arith, s.few); same = s.same; room = s.room }) (h f lt)

module _ {w starts : List ℕ} {n : ℕ} {t : FunctionTable w starts n} {column : List ℕ} {s : Extent} {f : Forms} (h : ExtentIs t column s f) where
  -- Records from a place up to itself hold nothing.
  pub none_there : s.to ≤ s.from → f ≡ done
  unfolding turned forms
  none_there le =
      let y : h.whole ≡ done = h.spanned.same ∙ ap (forms t.funs) (no_lines le h.spanned.piece.part) in
      plain s.rounds done f (λ m. refl) (rw y at h.rounds)

  module _ (lt : s.from < s.to) where
    abbrev lines : Lines
    lines = h.spanned.piece.part.lines

    abbrev block : Block
    block = block_at w s.from

    abbrev pub after_it : Forms
    after_it = forms t.funs (rest lines)

    pub in_row : (s.from * 8 + 8 ≤ length w) × (s.from < after_at w s.from) × (after_at w s.from ≤ s.to)
    in_row = omega (arith, h.spanned.room, ends lt h.spanned.piece.part)

    pub kind_three : kind_at w s.from ≤ 3
    kind_three = rep_kind w h.spanned.piece.level s.from s.to lines h.spanned.piece.part.rep lt

    -- The forms behind the first one, and none at all behind it.
    others : Whole t column (after_at w s.from) s.to after_it
    others =
        fresh (record { piece = piece_after lt h.spanned.piece refl; few = h.spanned.few; same = refl; room = h.spanned.room })
        (noted_rest w t.funs column s.from lines h.noted)

    empty : Whole t column (after_at w s.from) (after_at w s.from) done
    unfolding forms Rep Rules
    empty =
        let p = h.spanned.piece in
        let none : Part w p.heights 62 p.level (after_at w s.from) (after_at w s.from) = record { lines = close; rep = refl; rules = tt } in
        inside none (omega arith) h.spanned.few (omega (arith, in_row, h.spanned.room)) (noted_none w t.funs column (after_at w s.from))

    pub leaf_is : kind_at w s.from ≡ 0 → f ≡ leaf block after_it
    unfolding turned forms
    leaf_is k =
        let d = leaf_at lt h.spanned.piece.part {v = kind_at w s.from} refl k in
        let y : h.whole ≡ leaf block after_it = h.spanned.same ∙ ap (forms t.funs) d.shape in
        plain s.rounds (leaf block after_it) f (λ m. refl) (rw y at h.rounds)

    pub call_is : kind_at w s.from ≡ 1 → (f ≡ call block (get_or t.funs (detail_at w s.from) done) after_it) × (detail_at w s.from < n)
    unfolding turned forms
    call_is k =
        let d = call_at lt h.spanned.piece.part {v = kind_at w s.from} refl k in
        let x = get_or t.funs (detail_at w s.from) done in
        let y : h.whole ≡ call block x after_it = h.spanned.same ∙ ap (forms t.funs) d.shape in
        (plain s.rounds (call block x after_it) f (λ m. refl) (rw y at h.rounds), omega (arith, d.earlier, h.spanned.few))

    abbrev pub Body : Type 0
    Body =
        (body : Forms) × Whole t column (s.from + 1) (after_at w s.from) body × (h.whole ≡ loop block (detail_at w s.from) body after_it) ×
        (detail_at w s.from ≤ 65535) × ((m : ℕ) × (m + s.rounds ≡ detail_at w s.from) × (f ≡ loop block m body after_it))

    pub loop_is : kind_at w s.from ≡ 2 → Body
    unfolding forms
    loop_is k =
        let d = loop_at lt h.spanned.piece.part {v = kind_at w s.from} refl k in
        let body = forms t.funs d.body.lines in
        let y : h.whole ≡ loop block (detail_at w s.from) body after_it = h.spanned.same ∙ ap (forms t.funs) d.shape in
        let q = noted_body w t.funs column s.from lines block (detail_at w s.from) d.body.lines (rest lines) d.shape h.noted in (
          body,
          inside d.body (omega arith) h.spanned.few (omega (arith, in_row, h.spanned.room)) q,
          y,
          d.bound,
          turned_loop s.rounds block (detail_at w s.from) body after_it f (rw y at h.rounds),
        )

    abbrev pub Parts : Type 0
    Parts =
        (x : Forms) × (y : Forms) × Whole t column (s.from + 1) (other_at w s.from) x × Whole t column (other_at w s.from) (after_at w s.from) y ×
        (f ≡ cond block x y after_it)

    pub if_is : kind_at w s.from ≡ 3 → Parts
    unfolding turned forms
    if_is k =
        let d = if_at lt h.spanned.piece.part {v = kind_at w s.from} refl (λ z. omega arith) (λ z. omega arith) (λ z. omega arith) in
        let x = forms t.funs d.then.lines in
        let y = forms t.funs d.else.lines in
        let z : h.whole ≡ cond block x y after_it = h.spanned.same ∙ ap (forms t.funs) d.shape in
        let o = parts refl refl d in
        let q = noted_parts w t.funs column s.from lines block d.then.lines d.else.lines (rest lines) d.shape h.noted in (
          x,
          y,
          inside d.then (omega arith) h.spanned.few (omega (arith, in_row, h.spanned.room, o)) q.0,
          inside d.else (omega arith) h.spanned.few (omega (arith, in_row, h.spanned.room, o)) q.1,
          plain s.rounds (cond block x y after_it) f (λ m. refl) (rw z at h.rounds),
        )

-- THE WAYS, by the first form

way_leaf : (z : Bool) (b : Block) (r f g : Forms) → f ≡ leaf b r → on_way z (ways (f ⊕ g)) ≡ done ⊕ (r ⊕ g)
unfolding ways on_way ◌⊕◌
way_leaf z b r f g e = rw e

way_call : (z : Bool) (b : Block) (x r f g : Forms) → f ≡ call b x r → on_way z (ways (f ⊕ g)) ≡ x ⊕ (r ⊕ g)
unfolding ways on_way ◌⊕◌
way_call z b x r f g e = rw e

way_out : (b : Block) (m : ℕ) (x r f g : Forms) → f ≡ loop b m x r → on_way false (ways (f ⊕ g)) ≡ done ⊕ (r ⊕ g)
unfolding ways on_way ◌⊕◌
way_out b zero x r f g e = rw e
way_out b (suc m) x r f g e = rw e

way_again : (b : Block) (m : ℕ) (x r f g : Forms) → f ≡ loop b (suc m) x r → on_way true (ways (f ⊕ g)) ≡ x ⊕ (loop b m x r ⊕ g)
unfolding ways on_way ◌⊕◌
way_again b m x r f g e = rw e

way_then : (b : Block) (x y r f g : Forms) → f ≡ cond b x y r → on_way false (ways (f ⊕ g)) ≡ x ⊕ (r ⊕ g)
unfolding ways on_way ◌⊕◌
way_then b x y r f g e = rw e

way_else : (b : Block) (x y r f g : Forms) → f ≡ cond b x y r → on_way true (ways (f ⊕ g)) ≡ y ⊕ (r ⊕ g)
unfolding ways on_way ◌⊕◌
way_else b x y r f g e = rw e

-- A loop after one turn more.
round : (v : ℕ) (b : Block) (m : ℕ) (body r : Forms) → turned (loop b (m + v) body r) v ≡ some (loop b m body r)
unfolding turned
round zero b m body r = let z : m + 0 ≡ m = omega arith in rw z
round (suc v) b m body r = let z : m + suc v ≡ suc (m + v) = omega arith in rw z (round v b m body r)

gone_round : (v k : ℕ) (b : Block) (m : ℕ) (body r x : Forms) → x ≡ loop b k body r → k ≡ m + v → turned x v ≡ some (loop b m body r)
gone_round v k b m body r x e d = rw (e, d) (round v b m body r)

-- WHAT RUNS THEN

module _ {w starts : List ℕ} {n : ℕ} {t : FunctionTable w starts n} {column : List ℕ} {s : Extent} {f : Forms} (h : ExtentIs t column s f)
    (lt : s.from < s.to) {a : ℕ} (ha : a ≡ after_at w s.from) where
  abbrev b : Block
  b = block_at w s.from

  abbrev o : Forms
  o = after_it h lt

  -- The inner forms, and then the others.
  abbrev On : Bool → Extent → Type 0
  On z x = TakenWay t column f z (record { inner = x; outer = record { from = a; to = s.to; rounds = 0 } })

  on : {z : Bool} {x : Extent} (inner : Forms) → ExtentIs t column x inner → ((g : Forms) → on_way z (ways (f ⊕ g)) ≡ inner ⊕ (o ⊕ g)) → On z x
  on inner l e = record { inner = inner; outer = o; inner_lies = l; outer_lies = rw ha (others h lt); is_way = e }

  pub on_leaf : {x : Extent} → (kind_at w s.from ≡ 1 → ⊥) → (kind_at w s.from ≡ 2 → ⊥) → (kind_at w s.from ≡ 3 → ⊥) →
      x ≡ record { from = a; to = a; rounds = 0 } → (z : Bool) → On z x
  on_leaf k1 k2 k3 e z =
      let k : kind_at w s.from ≡ 0 = omega (arith, kind_three h lt) in
      on done (rw (e, ha) (empty h lt)) (λ g. way_leaf z b o f g (leaf_is h lt k))

  pub on_out : {x : Extent} → kind_at w s.from ≡ 2 → x ≡ record { from = a; to = a; rounds = 0 } → On false x
  on_out k e =
      let (body, l, y, few, (m, q, z)) = loop_is h lt k in
      on done (rw (e, ha) (empty h lt)) (λ g. way_out b m body o f g z)

  pub on_call : {x : Extent} {c d e : ℕ} → TableLeasts t column → kind_at w s.from ≡ 1 → c ≡ detail_at w s.from → d ≡ get_or starts c 0 →
      e ≡ get_or starts (c + 1) 0 → x ≡ record { from = d; to = e; rounds = 0 } → (z : Bool) → On z x
  on_call noted k hc hd he e z =
      let (y, q) = call_is h lt k in
      on (get_or t.funs (detail_at w s.from) done) (rw (e, hd, he, hc) (function_lies (detail_at w s.from) q noted)) (λ g. way_call z b _ o f g y)

  pub on_then : {x : Extent} {c : ℕ} → kind_at w s.from ≡ 3 → c ≡ other_at w s.from → x ≡ record { from = s.from + 1; to = c; rounds = 0 } → On false x
  on_then k hc e = let (x, y, l, r, z) = if_is h lt k in on x (rw (e, hc) l) (λ g. way_then b x y o f g z)

  pub on_else : {x : Extent} {c : ℕ} → kind_at w s.from ≡ 3 → c ≡ other_at w s.from → x ≡ record { from = c; to = a; rounds = 0 } → On true x
  on_else k hc e = let (x, y, l, r, z) = if_is h lt k in on y (rw (e, hc, ha) r) (λ g. way_else b x y o f g z)

  -- The body, and then the loop after one turn more.
  abbrev Round : Extent → Type 0
  Round x = TakenWay t column f true (record { inner = x; outer = record { from = s.from; to = s.to; rounds = s.rounds + 1 } })

  again : {x : Extent} (body : Forms) (m : ℕ) → ExtentIs t column x body → h.whole ≡ loop b (detail_at w s.from) body o → m + s.rounds ≡ detail_at w s.from →
      f ≡ loop b m body o → s.rounds < detail_at w s.from → Round x
  again body zero l y q z le = absurd (omega arith)
  again body (suc m) l y q z le =
      record {
        inner = body;
        outer = loop b m body o;
        inner_lies = l;
        outer_lies =
            record {
              whole = h.whole;
              spanned = h.spanned;
              rounds = gone_round (s.rounds + 1) (detail_at w s.from) b m body o h.whole y (omega arith);
              noted = h.noted;
            };
        is_way = λ g. way_again b m body o f g z;
      }

  pub on_round : {x : Extent} → kind_at w s.from ≡ 2 → s.rounds < detail_at w s.from → x ≡ record { from = s.from + 1; to = a; rounds = 0 } → Round x
  on_round k le e = let (body, l, y, few, (m, q, z)) = loop_is h lt k in again body m (rw (e, ha) l) y q z le
