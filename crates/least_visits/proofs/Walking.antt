-- One call of `note`: the records of the first form's parts and those after it are forms as well, and what the calls on them noted makes up what is noted of
-- all of them. Assumes nothing.
use mathlib.Core.Path.{◌≡◌, refl, ◌∙◌}
use mathlib.Core.List.{List}
use mathlib.Core.Logic.{◌⊎◌, inl, inr}
use Prim.Native.Nat.{ℕ, suc, ◌+◌, ◌-◌, ◌≤◌, ◌<◌, min}
use native.Mathlib.Omega.{arith}
use lib.ListN.{length, get_or, set}
use Rattle.std.proofs.lemmas.List.{get_or-set_same, get_or-set_other}
use Rattle.model.specs.Plan.{Block, Lines}
use Rattle.model.specs.Forms.{done, forms}
use Rattle.short_runs.specs.Listing.{least}
use Rattle.rows.specs.declared.Code.{Code}
use Rattle.rows.specs.Leaves.{numbers}
use Rattle.rows.specs.First.{rest}
use Rattle.rows.specs.Rows.{kind_at, detail_at, other_at, after_at, block_at}
use Rattle.rows.proofs.Shape.{LeafAt, CallAt, LoopAt, IfAt, leaf_at, call_at, loop_at, ends, parts, body_in, then_in, else_in, no_lines}
use Rattle.place.proofs.Shape.{cond_at, piece_after}
use Rattle.least_visits.specs.declared.Notes.{Notes}
use Rattle.least_visits.specs.Least.{held_visits, HasLeasts}
use Rattle.least_visits.specs.Private.{Linked, NotesPart}
use Rattle.least_visits.proofs.Noting.{Same, noted_same, noted_none, noted_leaf, noted_call, noted_loop, noted_if}
use Rattle.least_visits.proofs.Noting.{least_leaf, least_call, least_loop, least_if, least_none, kind_few}

-- No records: nothing is noted.
pub part_none : {c : Code} {z : Notes} {i e : ℕ} → e ≤ i → NotesPart c z z i e 0
part_none {c} {z} {i} le =
    record {
      few = omega arith;
      noted = λ h. noted_none (numbers c.row.now) h.functions z.leasts i h.piece.part.lines (no_lines le h.piece.part);
      sum = λ h. least_none h.functions h.piece.part.lines (no_lines le h.piece.part);
      functions = refl;
      others = λ j o. refl;
    }

module _ {c : Code} {ts : List ℕ} {i e : ℕ} (lt : i < e) (h : Linked c ts i e) where
  abbrev w : List ℕ
  w = numbers c.row.now

  abbrev here : Lines
  here = h.piece.part.lines

  -- The first form.
  pub few_here : kind_at w i ≤ 3
  few_here = kind_few w h.piece.level i e here h.piece.part.rep lt

  leaf_here : kind_at w i ≡ 0 → LeafAt w h.piece.level i here
  leaf_here zero = leaf_at lt h.piece.part {v = kind_at w i} refl zero

  pub call_here : kind_at w i ≡ 1 → CallAt w h.piece.heights h.piece.level i here
  call_here one = call_at lt h.piece.part {v = kind_at w i} refl one

  pub loop_here : kind_at w i ≡ 2 → LoopAt w h.piece.heights h.left h.piece.level i here
  loop_here two = loop_at lt h.piece.part {v = kind_at w i} refl two

  pub if_here : kind_at w i ≡ 3 → IfAt w h.piece.heights h.left h.piece.level i here
  if_here three = cond_at lt h.piece three

  -- Where a called function stands, its least number of visits does as well.
  pub call_few : {f : ℕ} {us : List ℕ} → us ≡ ts → kind_at w i ≡ 1 → f ≡ detail_at w i →
      get_or us f 0 ≡ held_visits (least (get_or h.functions (detail_at w i) done))
  call_few q one hf = rw (q, hf) (h.leasts (detail_at w i) (call_here one).earlier)

  -- Where the parts and the forms after the first lie.
  pub after_ends : {en : ℕ} → en ≡ after_at w i → (i < en) × (en ≤ e)
  after_ends he = rw he (ends lt h.piece.part)

  pub part_ends : {mid en : ℕ} → kind_at w i ≡ 3 → mid ≡ other_at w i → en ≡ after_at w i → (i < mid) × (mid ≤ en)
  part_ends three hm he = parts hm he (if_here three)

  module _ {us : List ℕ} (q : us ≡ ts) {en : ℕ} (he : en ≡ after_at w i) where
    abbrev pub linked_after : Linked c us en e
    linked_after =
        record { left = h.left; piece = piece_after lt h.piece he; functions = h.functions; leasts = rw q h.leasts; room = h.room; within = h.within }

    abbrev pub linked_body : kind_at w i ≡ 2 → Linked c us (i + 1) en
    linked_body two =
        record {
          left = h.left - 1;
          piece = record { heights = h.piece.heights; level = suc h.piece.level; part = body_in he (loop_here two) };
          functions = h.functions;
          leasts = rw q h.leasts;
          room = omega (arith, after_ends he, h.room);
          within = omega (arith, after_ends he, h.within);
        }

    module _ {mid : ℕ} (three : kind_at w i ≡ 3) (hm : mid ≡ other_at w i) where
      abbrev pub linked_then : Linked c us (i + 1) mid
      linked_then =
          record {
            left = h.left - 2;
            piece = record { heights = h.piece.heights; level = h.piece.level; part = then_in hm (if_here three) };
            functions = h.functions;
            leasts = rw q h.leasts;
            room = omega (arith, part_ends three hm he, after_ends he, h.room);
            within = omega (arith, part_ends three hm he, after_ends he, h.within);
          }

      abbrev pub linked_else : Linked c us mid en
      linked_else =
          record {
            left = h.left - 2;
            piece = record { heights = h.piece.heights; level = h.piece.level; part = else_in hm he (if_here three) };
            functions = h.functions;
            leasts = rw q h.leasts;
            room = omega (arith, after_ends he, h.room);
            within = omega (arith, after_ends he, h.within);
          }

-- What is noted of forms depends on their own entries alone.
kept : {c : Code} {ts : List ℕ} {i e : ℕ} (h : Linked c ts i e) (a b : List ℕ) → Same a b i e → HasLeasts (numbers c.row.now) h.functions a i h.piece.part.lines
    → HasLeasts (numbers c.row.now) h.functions b i h.piece.part.lines
kept {c} {ts} {i} {e} h a b s n = noted_same (numbers c.row.now) h.functions a b h.piece.level i e h.piece.part.lines h.piece.part.rep s n

-- All is noted but the first form's own entry. Of a run of the forms the first takes `inner` visits behind its own, and those after it x.
pub record Within (c : Code) (old new : Notes) (i e inner x : ℕ) : Type 0 where
  pub noted : (h : Linked c old.functions i e) (column : List ℕ) → get_or column i 0 ≡ held_visits (least (forms h.functions h.piece.part.lines))
      → Same new.leasts column (i + 1) e → HasLeasts (numbers c.row.now) h.functions column i h.piece.part.lines
  pub sum : (h : Linked c old.functions i e) → held_visits (1 + inner + x) ≡ held_visits (least (forms h.functions h.piece.part.lines))
  pub functions : new.functions ≡ old.functions
  pub others : (j : ℕ) → (j ≤ i) ⊎ (e ≤ j) → get_or new.leasts j 0 ≡ get_or old.leasts j 0

module _ {c : Code} {old mid : Notes} {i e en x : ℕ} (lt : i < e) (q : Linked c old.functions i e)
    (he : en ≡ after_at (numbers c.row.now) i) (r : NotesPart c old mid en e x) where
  abbrev row : List ℕ
  row = numbers c.row.now

  abbrev b : Block
  b = block_at row i

  -- The forms after the first.
  after_noted : (h : Linked c old.functions i e) (column : List ℕ) → Same mid.leasts column en e →
      HasLeasts row h.functions column (after_at row i) (rest h.piece.part.lines)
  after_noted h column s = let p = linked_after lt h refl he in rw he at (kept p mid.leasts column s (r.noted p))

  after_sum : (h : Linked c old.functions i e) → x ≡ held_visits (least (forms h.functions (rest h.piece.part.lines)))
  after_sum h = r.sum (linked_after lt h refl he)

  after_others : (j : ℕ) → (j ≤ i) ⊎ (e ≤ j) → get_or mid.leasts j 0 ≡ get_or old.leasts j 0
  after_others j (inl l) = r.others j (inl (omega (arith, after_ends lt q he)))
  after_others j (inr l) = r.others j (inr l)

  pub within_leaf : kind_at row i ≡ 0 → Within c old mid i e 0 x
  within_leaf zero =
      record {
        noted = λ h column own s.
            noted_leaf row h.functions column i h.piece.part.lines own b
            (after_noted h column (λ j lo hi. s j (omega (arith, after_ends lt q he)) hi)) (leaf_here lt h zero).shape;
        sum = λ h. least_leaf h.functions (after_sum h) b (leaf_here lt h zero).shape;
        functions = r.functions;
        others = after_others;
      }

  pub within_call : {f y : ℕ} → kind_at row i ≡ 1 → f ≡ detail_at row i → y ≡ get_or mid.functions f 0 → Within c old mid i e y x
  within_call one hf hy =
      record {
        noted = λ h column own s.
            noted_call row h.functions column i h.piece.part.lines own b (after_noted h column (λ j lo hi. s j (omega (arith, after_ends lt q he)) hi))
            (detail_at row i) (call_here lt h one).shape;
        sum = λ h. least_call h.functions (after_sum h) b (detail_at row i) (call_here lt h one).shape (hy ∙ call_few lt h r.functions one hf);
        functions = r.functions;
        others = after_others;
      }

  pub within_loop : {new : Notes} {y : ℕ} → kind_at row i ≡ 2 → NotesPart c mid new (i + 1) en y → Within c old new i e 0 x
  within_loop {new} two n =
      record {
        noted = λ h column own s.
            let p = linked_body lt h r.functions he two in
            noted_loop row h.functions column i h.piece.part.lines own b
            (after_noted h column (λ j lo hi. s j (omega (arith, after_ends lt q he)) hi ∙ n.others j (inr lo)))
            (detail_at row i) (loop_here lt h two).shape
            (kept p new.leasts column (λ j lo hi. s j lo (omega (arith, after_ends lt q he))) (n.noted p));
        sum = λ h. least_loop h.functions (after_sum h) b (detail_at row i) (loop_here lt h two).body.lines (loop_here lt h two).shape;
        functions = n.functions ∙ r.functions;
        others = λ j o. elim o [
          | inl l ↦ n.others j (inl (omega arith)) ∙ after_others j (inl l)
          | inr l ↦ n.others j (inr (omega (arith, after_ends lt q he))) ∙ after_others j (inr l)
        ];
      }

  pub within_if : {between new : Notes} {m y z : ℕ} → kind_at row i ≡ 3 → m ≡ other_at row i → NotesPart c mid between (i + 1) m y
      → NotesPart c between new m en z → Within c old new i e (min y z) x
  within_if {between} {new} {m} {y} {z} three hm f g =
      let (im, me) = part_ends lt q three hm he in
      let (ie, ee) = after_ends lt q he in
      record {
        noted = λ h column own s.
            let p = linked_then lt h r.functions he three hm in
            let u = linked_else lt h (f.functions ∙ r.functions) he three hm in
            noted_if row h.functions column i h.piece.part.lines own b
            (after_noted h column (λ j lo hi. s j (omega arith) hi ∙ g.others j (inr lo) ∙ f.others j (inr (omega arith))))
            (if_here lt h three).shape
            (kept p between.leasts column (λ j lo hi. s j lo (omega arith) ∙ g.others j (inl hi)) (f.noted p))
            (rw hm at (kept u new.leasts column (λ j lo hi. s j (omega arith) (omega arith)) (g.noted u)));
        sum = λ h.
            least_if h.functions (after_sum h) b (if_here lt h three).shape
            (f.sum (linked_then lt h r.functions he three hm)) (g.sum (linked_else lt h (f.functions ∙ r.functions) he three hm));
        functions = g.functions ∙ f.functions ∙ r.functions;
        others = λ j o. elim o [
          | inl l ↦ g.others j (inl (omega arith)) ∙ f.others j (inl (omega arith)) ∙ after_others j (inl l)
          | inr l ↦ g.others j (inr (omega arith)) ∙ f.others j (inr (omega arith)) ∙ after_others j (inr l)
        ];
      }

-- With the first form's own entry.
pub part_here : {c : Code} {old new : Notes} {i e inner x v : ℕ} → i < e → i < length new.leasts → Within c old new i e inner x → v ≡ min 65 (1 + inner + x) →
    NotesPart c old (record { leasts = set new.leasts i v; functions = new.functions }) i e v
part_here {new = new} {i = i} {v = v} lt there u hv =
    let other : (j : ℕ) → (j ≡ i → ⊥) → get_or (set new.leasts i v) j 0 ≡ get_or new.leasts j 0 = λ j ne. get_or-set_other new.leasts i j v 0 ne in
    record {
      few = omega arith;
      noted = λ h. u.noted h (set new.leasts i v) (get_or-set_same new.leasts i v 0 there ∙ hv ∙ u.sum h) (λ j lo hi. other j (λ z. omega arith));
      sum = λ h. hv ∙ u.sum h;
      functions = u.functions;
      others = λ j o. elim o [
        | inl l ↦ other j (λ z. omega arith) ∙ u.others j (inl (omega arith))
        | inr l ↦ other j (λ z. omega arith) ∙ u.others j (inr l)
      ];
    }
