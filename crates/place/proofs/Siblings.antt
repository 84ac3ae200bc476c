-- Whether a leaf is one of a level: a search over the forms of the level and into the parts of an if. Plain mathematics: no code is named here. Assumes nothing.
use mathlib.Core.Path.{◌≡◌, refl, sym, ap, ◌∙◌}
use mathlib.Core.Bool.{Bool, true, false}
use mathlib.Core.List.{List}
use mathlib.Core.Logic.{◌⊎◌, inl, inr}
use Prim.Native.Nat.{ℕ, ◌+◌, ◌-◌, ◌≤◌, ◌<◌}
use native.Mathlib.Omega.{arith}
use Rattle.model.specs.Forms.{Forms, forms}
use Rattle.model.specs.Stack.{suffix}
use Rattle.rows.specs.Rows.{kind_at, other_at, after_at, Piece}
use Rattle.rows.specs.First.{rest}
use Rattle.rows.proofs.Shape.{then_in, else_in}
use Rattle.place.specs.Spans.{first_form}
use Rattle.place.specs.Private.{there}
use Rattle.place.proofs.Shape.{cond_at, piece_after}
use Rattle.place.proofs.Sights.{there_joined}
use Rattle.place.proofs.Suffixes.{suffix_before, suffix_past, suffix_skip, suffix_first, first_own, first_flat, first_then, first_else}

-- A leaf that lies before the records of a level, or behind them.
module _ {w : List ℕ} {left i e : ℕ} (q : Piece w left i e) (G : List Forms) (p : ℕ) where
  pub leaf_outside : (p < i) ⊎ (e ≤ p) → false ≡ there (suffix (forms G q.part.lines) p)
  leaf_outside (inl h) = sym (ap there (suffix_before w q.level i e q.part.lines G p q.part.rep h))
  leaf_outside (inr h) = sym (ap there (suffix_past w q.level i e q.part.lines G p q.part.rep h))

-- What a search for the leaf p has left to look at: it is a leaf of the level exactly where it is one of the forms from i up to e.
pub record Sought (w : List ℕ) (i e : ℕ) (G : List Forms) (p : ℕ) (all : Bool) : Type 0 where
  pub left : ℕ
  pub more : Piece w left i e
  pub same : all ≡ there (suffix (forms G more.part.lines) p)

module _ {w : List ℕ} {i e : ℕ} {G : List Forms} {p : ℕ} {all : Bool} where
  -- It lies behind the form at i.
  pub sought_past : {en : ℕ} → i < e → en ≡ after_at w i → en ≤ p → Sought w i e G p all → Sought w en e G p all
  sought_past {en} lt he le q =
      record {
        left = q.left;
        more = piece_after lt q.more he;
        same = q.same ∙ ap there (suffix_skip w q.more.level i e q.more.part.lines G p q.more.part.rep lt (omega arith));
      }

  -- It lies in the form at i.
  in_form : i < e → p < after_at w i → (q : Sought w i e G p all) → all ≡ there (suffix (first_form (forms G q.more.part.lines)) p)
  in_form lt le q =
      let l = q.more.part.lines in
      q.same ∙ ap there (suffix_first w q.more.level i e l G p q.more.part.rep lt le) ∙ there_joined (suffix (first_form (forms G l)) p) (forms G (rest l))

  -- It is the form's own leaf.
  pub sought_own : i < e → p < after_at w i → p ≡ i → Sought w i e G p all → true ≡ all
  sought_own lt le h q =
      sym (in_form lt le q ∙ ap there (first_own w q.more.level i e q.more.part.lines G p q.more.part.rep lt h))

  -- The form is no if.
  pub sought_flat : i < e → p < after_at w i → (p ≡ i → ⊥) → (kind_at w i ≡ 3 → ⊥) → Sought w i e G p all → false ≡ all
  sought_flat lt le h k q =
      sym (in_form lt le q ∙ ap there (first_flat w q.more.level i e q.more.part.lines G p q.more.part.rep lt h k))

  -- It is an if.
  pub sought_then : {mid : ℕ} → i < e → p < after_at w i → (p ≡ i → ⊥) → kind_at w i ≡ 3 → mid ≡ other_at w i → p < mid → Sought w i e G p all → Sought w (i + 1) mid G p all
  sought_then lt le h k hm lo q =
      let c = cond_at lt q.more k in
      let z = suffix_before w q.more.level (other_at w i) (after_at w i) c.else.lines G p c.else.rep (omega arith) in
      record {
        left = q.left - 2;
        more = record { heights = q.more.heights; level = q.more.level; part = then_in hm c };
        same = in_form lt le q ∙ ap there (first_then G p q.more.part.lines _ _ _ _ c.shape h z);
      }

  pub sought_else : {mid : ℕ} → i < e → p < after_at w i → (p ≡ i → ⊥) → kind_at w i ≡ 3 → mid ≡ other_at w i → mid ≤ p → Sought w i e G p all → Sought w mid (after_at w i) G p all
  sought_else lt le h k hm lo q =
      let c = cond_at lt q.more k in
      let z = suffix_past w q.more.level (i + 1) (other_at w i) c.then.lines G p c.then.rep (omega arith) in
      record {
        left = q.left - 2;
        more = record { heights = q.more.heights; level = q.more.level; part = else_in hm refl c };
        same = in_form lt le q ∙ ap there (first_else G p q.more.part.lines _ _ _ _ c.shape h z);
      }
