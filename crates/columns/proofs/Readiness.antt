-- What a walk with something behind it may ask: inside a form and among its siblings all stays within the limit. Assumes nothing.
use mathlib.Core.Path.{◌≡◌, refl, sym}
use mathlib.Core.List.{List}
use Prim.Native.Nat.{ℕ, zero, suc, ◌+◌, ◌*◌, ◌≤◌, ◌<◌}
use native.Mathlib.Omega.{arith}
use lib.ListN.{get_or}
use Rattle.model.specs.Plan.{Block, Lines}
use Rattle.model.specs.Total.{tally}
use Rattle.rows.specs.Rows.{field, other_at, after_at, block_at, Part}
use Rattle.rows.specs.First.{rest}
use Rattle.rows.specs.declared.Leaf.{Leaf}
use Rattle.rows.specs.Leaves.{numbers}
use Rattle.rows.proofs.Shape.{LoopAt, IfAt}
use Rattle.rows.specs.Costs.{limit}
use Rattle.columns.specs.Sums.{lead}
use Rattle.columns.specs.Walks.{front, Sized, Ready, sibling, later}
use Rattle.columns.specs.Columns.{ColumnRule, column_of, turn_rule, Contains}
use Rattle.columns.proofs.Sizes.{tally_split, loop_lead, if_lead, round_le}
use Rattle.columns.proofs.Inner.{body_forms, then_forms, else_forms, first_form, after_forms}
use Rattle.columns.proofs.Fronts.{contains_rest, contains_loop, contains_if}
use Rattle.columns.proofs.Summing.{loop_turn}
use Rattle.columns.proofs.Listing.{later_part}

module _ {k : Block → ℕ} {row : List Leaf} {ts o : List ℕ} {i x : ℕ} (z : Ready k row ts o i x) where
  pub first_noted : Contains o i (front (turn_rule k ts) z.form.part.lines 0)
  first_noted = (contains_rest (turn_rule k ts) o 0 z.form.some z.form.part refl z.noted).0

  pub body_le : {hs : List ℕ} {left v : ℕ} (h : LoopAt (numbers row) hs left v i z.form.part.lines)
      → tally k ts h.body.lines + k (block_at (numbers row) i) ≤ lead k ts z.form.part.lines
  body_le h =
      omega (arith, loop_lead k ts h, round_le (field (numbers row) i 4) (tally k ts h.body.lines) (k (block_at (numbers row) i)) h.least)

  -- The number that is noted at a loop is the exact sum of one round.
  pub ready_turn : {hs : List ℕ} {left v : ℕ} (h : LoopAt (numbers row) hs left v i z.form.part.lines) → get_or o i 0 ≡ k (block_at (numbers row) i) + tally k ts h.body.lines
  ready_turn h = omega (arith, (contains_loop (turn_rule k ts) o 0 h first_noted).0, loop_turn k ts h, body_le h, z.small)

  pub loop_weight : {hs : List ℕ} {left v c n : ℕ} (h : LoopAt (numbers row) hs left v i z.form.part.lines) → c ≡ k (block_at (numbers row) i)
      → n ≡ field (numbers row) i 4 → c + n * get_or o i 0 ≡ lead k ts z.form.part.lines
  loop_weight h hc hn =
      let e : get_or o i 0 ≡ tally k ts h.body.lines + k (block_at (numbers row) i) = omega (arith, ready_turn h) in
      rw (hc, hn, e) (sym (loop_lead k ts h))

  abbrev pub body_sized : {hs : List ℕ} {left v en y : ℕ} → en ≡ after_at (numbers row) i → (h : LoopAt (numbers row) hs left v i z.form.part.lines)
      → tally k ts h.body.lines + y ≤ limit → Sized k row ts o (i + 1) en y
  body_sized he h le = record { forms = body_forms z.form he h; small = le; noted = (contains_loop (turn_rule k ts) o 0 h first_noted).1 }

  -- Nothing, or what is left of the form, follows the body.
  pub body_low : {hs : List ℕ} {left v : ℕ} (h : LoopAt (numbers row) hs left v i z.form.part.lines) → tally k ts h.body.lines + 0 ≤ limit
  body_low h = omega (arith, body_le h, z.small)

  abbrev pub then_sized : {hs : List ℕ} {left v mid : ℕ} → mid ≡ other_at (numbers row) i → IfAt (numbers row) hs left v i z.form.part.lines → Sized k row ts o (i + 1) mid x
  then_sized hm h =
      record {
        forms = then_forms z.form hm h;
        small = omega (arith, if_lead k ts h, z.small);
        noted = (contains_if (turn_rule k ts) o 0 h hm first_noted).0;
      }

  abbrev pub else_sized : {hs : List ℕ} {left v mid en : ℕ} → mid ≡ other_at (numbers row) i → en ≡ after_at (numbers row) i
      → IfAt (numbers row) hs left v i z.form.part.lines → Sized k row ts o mid en x
  else_sized hm he h =
      record {
        forms = else_forms z.form hm he h;
        small = omega (arith, if_lead k ts h, z.small);
        noted = (contains_if (turn_rule k ts) o 0 h hm first_noted).1;
      }

  abbrev pub ready_zero : Ready k row ts o i 0
  ready_zero = record { form = z.form; small = omega (arith, z.small); noted = z.noted }

-- The first form of lines, and the lines after it.
module _ {k : Block → ℕ} {row : List Leaf} {ts o : List ℕ} {i e s : ℕ} (lt : i < e) (z : Sized k row ts o i e s) where
  abbrev pub first_ready : Ready k row ts o i 0
  first_ready =
      record {
        form = first_form lt z.forms;
        small = omega (arith, tally_split k ts z.forms.part.lines, z.small);
        noted = z.noted;
      }

  abbrev pub after_sized : {en : ℕ} → en ≡ after_at (numbers row) i → Sized k row ts o en e s
  after_sized he =
      record {
        forms = after_forms lt z.forms he;
        small = omega (arith, tally_split k ts z.forms.part.lines, z.small);
        noted = (contains_rest (turn_rule k ts) o 0 lt z.forms.part he z.noted).1;
      }

-- The siblings.
pub tally_later : (k : Block → ℕ) (ts : List ℕ) (n : ℕ) (l : Lines) → tally k ts (later n l) ≤ tally k ts l
unfolding later
tally_later k ts zero l = omega arith
tally_later k ts (suc n) l = omega (arith, tally_later k ts n l, tally_split k ts (later n l))

pub contains_later : (u : ColumnRule) (o : List ℕ) (s : ℕ) {w hs : List ℕ} {left v i e : ℕ} (n : ℕ) (p : Part w hs left v i e) → ((j : ℕ) → j < n → sibling w i j < e)
    → Contains o i (column_of u p.lines s) → Contains o (sibling w i n) (column_of u (later n p.lines) s)
unfolding sibling later
contains_later u o s zero p lt h = h
contains_later u o s {w} {i = i} {e = e} (suc n) p lt h =
    let below : (j : ℕ) → j < n → sibling w i j < e = λ j m. lt j (omega arith) in
    (contains_rest u o s (lt n (omega arith)) (later_part n below refl p) refl (contains_later u o s n p below h)).1

abbrev pub later_ready : {k : Block → ℕ} {row : List Leaf} {ts o : List ℕ} {i e s n x t : ℕ} (z : Sized k row ts o i e s) → x < e
    → ((j : ℕ) → j < n → sibling (numbers row) i j < e) → x ≡ sibling (numbers row) i n
    → t ≤ tally k ts (rest (later n z.forms.part.lines)) + s → Ready k row ts o x t
later_ready {k} {row} {ts} {o} {i} {e} {s} {n} {x} {t} z here lt hx ht =
    let p = z.forms in
    let ls = p.part.lines in
    record {
      form =
          record {
            left = p.left;
            heights = p.heights;
            level = p.level;
            end = e;
            part = later_part n lt hx p.part;
            some = here;
            held = p.held;
            few = p.few;
          };
      small = omega (arith, tally_later k ts n ls, tally_split k ts (later n ls), z.small, ht);
      noted = rw hx (contains_later (turn_rule k ts) o 0 n p.part lt z.noted);
    }
