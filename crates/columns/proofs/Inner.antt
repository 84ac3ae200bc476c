-- The form at i: its kind, and the forms inside and after it. Assumes nothing.
use mathlib.Core.Path.{◌≡◌, refl}
use mathlib.Core.List.{List}
use Prim.Native.Nat.{ℕ, suc, ◌+◌, ◌-◌, ◌≤◌, ◌<◌}
use native.Mathlib.Omega.{arith}
use Rattle.model.specs.Plan.{Lines}
use Rattle.rows.specs.declared.Leaf.{Leaf}
use Rattle.rows.specs.Leaves.{numbers}
use Rattle.rows.specs.Rows.{kind_at, other_at, after_at}
use Rattle.rows.proofs.Shape.{LeafAt, CallAt, LoopAt, IfAt, leaf_at, call_at, loop_at, if_at, ends, parts, after, body_in, then_in, else_in}
use Rattle.columns.specs.Walks.{FormsHeld, FormHeld}
use Rattle.columns.proofs.Sizes.{rep_kind}

module _ {row : List Leaf} {i : ℕ} (z : FormHeld row i) where
  abbrev w : List ℕ
  w = numbers row

  -- Its kind is one of four,
  pub kind_three : kind_at w i ≤ 3
  kind_three = rep_kind w z.level i z.end z.part.lines z.part.rep z.some

  -- and tells its shape.
  pub as_leaf : kind_at w i ≡ 0 → LeafAt w z.level i z.part.lines
  as_leaf k = leaf_at z.some z.part refl k

  pub as_call : kind_at w i ≡ 1 → CallAt w z.heights z.level i z.part.lines
  as_call k = call_at z.some z.part refl k

  pub as_loop : kind_at w i ≡ 2 → LoopAt w z.heights z.left z.level i z.part.lines
  as_loop k = loop_at z.some z.part refl k

  pub as_if : kind_at w i ≡ 3 → IfAt w z.heights z.left z.level i z.part.lines
  as_if k = if_at z.some z.part refl (λ x. omega arith) (λ x. omega arith) (λ x. omega arith)

  -- It ends behind its record, and its two parts one behind the other.
  pub ends_at : {en : ℕ} → en ≡ after_at w i → (i < en) × (en ≤ z.end)
  ends_at he = omega (arith, ends z.some z.part, he)

  pub if_ends : {mid en : ℕ} → kind_at w i ≡ 3 → mid ≡ other_at w i → en ≡ after_at w i → (i < mid) × (mid ≤ en) × (en ≤ z.end)
  if_ends k hm he =
      let d = parts hm he (as_if k) in
      (d.0, d.1, (ends_at he).1)

  -- The forms inside.
  abbrev pub body_forms : {hs : List ℕ} {left v en : ℕ} {l : Lines} → en ≡ after_at w i → LoopAt w hs left v i l → FormsHeld row (i + 1) en
  body_forms {hs} {left} {v} he h =
      record {
        left = left - 1;
        heights = hs;
        level = suc v;
        part = body_in he h;
        held = omega (arith, ends_at he, z.held);
        few = omega (arith, ends_at he, z.few);
      }

  abbrev pub then_forms : {hs : List ℕ} {left v mid : ℕ} {l : Lines} → mid ≡ other_at w i → IfAt w hs left v i l → FormsHeld row (i + 1) mid
  then_forms {hs} {left} {v} hm h =
      record {
        left = left - 2;
        heights = hs;
        level = v;
        part = then_in hm h;
        held = omega (arith, parts hm refl h, ends z.some z.part, z.held);
        few = omega (arith, parts hm refl h, ends z.some z.part, z.few);
      }

  abbrev pub else_forms : {hs : List ℕ} {left v mid en : ℕ} {l : Lines} → mid ≡ other_at w i → en ≡ after_at w i → IfAt w hs left v i l → FormsHeld row mid en
  else_forms {hs} {left} {v} hm he h =
      record {
        left = left - 2;
        heights = hs;
        level = v;
        part = else_in hm he h;
        held = omega (arith, ends_at he, z.held);
        few = omega (arith, ends_at he, z.few);
      }

-- The first of forms, and those after it.
module _ {row : List Leaf} {i e : ℕ} (lt : i < e) (p : FormsHeld row i e) where
  abbrev pub first_form : FormHeld row i
  first_form =
      record {
        left = p.left;
        heights = p.heights;
        level = p.level;
        end = e;
        part = p.part;
        some = lt;
        held = p.held;
        few = p.few;
      }

  abbrev pub after_forms : {en : ℕ} → en ≡ after_at (numbers row) i → FormsHeld row en e
  after_forms he = record { left = p.left; heights = p.heights; level = p.level; part = after lt p.part he; held = p.held; few = p.few }
