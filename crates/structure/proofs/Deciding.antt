-- When the records from i on are lines: the record at hand, the lines inside it and those after it. Assumes nothing.
use mathlib.Core.Path.{◌≡◌, refl, sym, ◌∙◌}
use mathlib.Core.List.{List}
use Prim.Native.Nat.{ℕ, suc, ◌+◌, ◌-◌, ◌≤◌, ◌<◌}
use native.Mathlib.Omega.{arith}
use native.Mathlib.Decide.{dec_le}
use Rattle.model.specs.Plan.{Lines, close, leaf_line, call_line, loop_line, if_line}
use Rattle.rows.specs.Rows.{kind_at, detail_at, other_at, after_at, level_at, block_at, Rep, Rules, Part}
use Rattle.rows.proofs.Shape.{rep_le, ends, loop_at, if_at, body_in, then_in, else_in}
use Rattle.structure.specs.Private.{PlaceRight, Sound, WholeForm}

-- The first form alone.
alone : Lines → Lines
alone close = close
alone (leaf_line b r) = leaf_line b close
alone (call_line b f r) = call_line b f close
alone (loop_line b n body r) = loop_line b n body close
alone (if_line b t e r) = if_line b t e close

rep_alone : (w : List ℕ) (l i e : ℕ) (ls : Lines) → Rep w l i e ls → i < e → Rep w l i (after_at w i) (alone ls)
unfolding Rep alone
rep_alone w l i e close h lt = absurd (omega arith)
rep_alone w l i e (leaf_line b r) h lt = (h.0, h.1, h.2, h.3, refl)
rep_alone w l i e (call_line b f r) h lt = (h.0, h.1, h.2, h.3, refl)
rep_alone w l i e (loop_line b n body r) h lt = (h.0, h.1, h.2, h.3, refl)
rep_alone w l i e (if_line b t s r) h lt = (h.0, h.1, h.2, h.3, refl)

rules_alone : (hs : List ℕ) (left l : ℕ) (ls : Lines) → Rules hs left l ls → Rules hs left l (alone ls)
unfolding Rules alone
rules_alone hs left l close h = tt
rules_alone hs left l (leaf_line b r) h = (h.0, h.1, tt)
rules_alone hs left l (call_line b f r) h = (h.0, h.1, h.2, h.3, tt)
rules_alone hs left l (loop_line b n body r) h = (h.0, h.1, h.2, h.3, h.4, h.5, tt)
rules_alone hs left l (if_line b t e r) h = (h.0, h.1, h.2, h.3, h.4, tt)

-- The first form with other lines after it.
graft : Lines → Lines → Lines
graft close u = u
graft (leaf_line b r) u = leaf_line b u
graft (call_line b f r) u = call_line b f u
graft (loop_line b n body r) u = loop_line b n body u
graft (if_line b t e r) u = if_line b t e u

rep_graft : (w : List ℕ) (l i e : ℕ) (t u : Lines) → Rep w l i (after_at w i) t → i < after_at w i → Rep w l (after_at w i) e u → Rep w l i e (graft t u)
unfolding Rep graft
rep_graft w l i e close u h lt q = absurd (omega arith)
rep_graft w l i e (leaf_line b r) u h lt q = (h.0, h.1, h.2, h.3, q)
rep_graft w l i e (call_line b f r) u h lt q = (h.0, h.1, h.2, h.3, q)
rep_graft w l i e (loop_line b n body r) u h lt q = (h.0, h.1, h.2, h.3, q)
rep_graft w l i e (if_line b t s r) u h lt q = (h.0, h.1, h.2, h.3, q)

rules_graft : (hs : List ℕ) (left l : ℕ) (t u : Lines) → Rules hs left l t → Rules hs left l u → Rules hs left l (graft t u)
unfolding Rules graft
rules_graft hs left l close u h q = q
rules_graft hs left l (leaf_line b r) u h q = (h.0, h.1, q)
rules_graft hs left l (call_line b f r) u h q = (h.0, h.1, h.2, h.3, q)
rules_graft hs left l (loop_line b n body r) u h q = (h.0, h.1, h.2, h.3, h.4, h.5, q)
rules_graft hs left l (if_line b t e r) u h q = (h.0, h.1, h.2, h.3, h.4, q)

module _ (w hs : List ℕ) (left l i e : ℕ) where
  placed : level_at w i ≡ l → l ≤ 32 → (i < after_at w i) × (after_at w i ≤ e) → PlaceRight w l i e
  placed a b g = record { level = a; low = b; grows = g.0; inside = g.1 }

  -- The first record of lines is sound.
  sound : (ls : Lines) → Rep w l i e ls → Rules hs left l ls → i < e → Sound w hs left l i e
  unfolding Rep Rules
  sound close h q lt = absurd (omega arith)
  sound (leaf_line b r) h q lt =
      record {
        priced = record { mark = h.0.2; costs = rw h.0.1 at q.0 };
        placed = placed h.0.3 q.1 (ends lt (record { lines = leaf_line b r; rep = h; rules = q }));
        kinds = omega arith;
        leaf = λ x. record { no_detail = h.1; no_other = h.2; next = h.3 };
        call = λ x. absurd (omega arith);
        loop = λ x. absurd (omega arith);
        cond = λ x. absurd (omega arith);
      }
  sound (call_line b f r) h q lt =
      record {
        priced = record { mark = h.0.2; costs = rw h.0.1 at q.0 };
        placed = placed h.0.3 (omega (arith, q.3)) (ends lt (record { lines = call_line b f r; rep = h; rules = q }));
        kinds = omega arith;
        leaf = λ x. absurd (omega arith);
        call = λ x. record { few = omega arith; before = omega arith; levels = rw h.1 q.3; no_other = h.2; next = h.3 };
        loop = λ x. absurd (omega arith);
        cond = λ x. absurd (omega arith);
      }
  sound (loop_line b n body r) h q lt =
      record {
        priced = record { mark = h.0.2; costs = rw h.0.1 at q.0 };
        placed = placed h.0.3 q.3 (ends lt (record { lines = loop_line b n body r; rep = h; rules = q }));
        kinds = omega arith;
        leaf = λ x. absurd (omega arith);
        call = λ x. absurd (omega arith);
        loop = λ x. record { least = omega arith; most = omega arith; opens = q.4; no_other = h.2 };
        cond = λ x. absurd (omega arith);
      }
  sound (if_line b t s r) h q lt =
      let x₁ = rep_le w l (i + 1) (other_at w i) t h.2 in
      let x₂ = rep_le w l (other_at w i) (after_at w i) s h.3 in
      record {
        priced = record { mark = h.0.2; costs = rw h.0.1 at q.0 };
        placed = placed h.0.3 q.1 (ends lt (record { lines = if_line b t s r; rep = h; rules = q }));
        kinds = omega arith;
        leaf = λ x. absurd (omega arith);
        call = λ x. absurd (omega arith);
        loop = λ x. absurd (omega arith);
        cond = λ x. record { no_detail = h.1; opens = q.2; starts = omega arith; ends = omega arith };
      }

-- The first form of lines, and lines from a first form and those after it.
pub head_of : {w hs : List ℕ} {left l i e : ℕ} → i < e → Part w hs left l i e → WholeForm w hs left l i e
head_of {w} {hs} {left} {l} {i} {e} lt p =
    let g = ends lt p in
    record {
      part = record { lines = alone p.lines; rep = rep_alone w l i e p.lines p.rep lt; rules = rules_alone hs left l p.lines p.rules };
      grows = g.0;
      inside = g.1;
    }

pub join : {w hs : List ℕ} {left l i e en : ℕ} → en ≡ after_at w i → WholeForm w hs left l i e → Part w hs left l en e → Part w hs left l i e
join {w} {hs} {left} {l} {i} {e} he h p =
    record {
      lines = graft h.part.lines p.lines;
      rep = rep_graft w l i e h.part.lines p.lines h.part.rep h.grows (rw he at p.rep);
      rules = rules_graft hs left l h.part.lines p.lines h.part.rules p.rules;
    }

pub nothing : {w hs : List ℕ} {left l i e : ℕ} → i ≡ e → Part w hs left l i e
unfolding Rep Rules
nothing q = record { lines = close; rep = q; rules = tt }

pub head_sound : {w hs : List ℕ} {left l i e : ℕ} → WholeForm w hs left l i e → Sound w hs left l i e
head_sound {w} {hs} {left} {l} {i} {e} h =
    let q = sound w hs left l i (after_at w i) h.part.lines h.part.rep h.part.rules h.grows in
    record {
      priced = q.priced;
      placed = placed w hs left l i e q.placed.level q.placed.low (h.grows, h.inside);
      kinds = q.kinds;
      leaf = q.leaf;
      call = q.call;
      loop = q.loop;
      cond = q.cond;
    }

module _ {w hs : List ℕ} {left l i e v : ℕ} (s : Sound w hs left l i e) (hv : v ≡ kind_at w i) where
  head : Part w hs left l i (after_at w i) → WholeForm w hs left l i e
  head p = record { part = p; grows = s.placed.grows; inside = s.placed.inside }

  pub head_flat : (v ≡ 2 → ⊥) → (v ≡ 3 → ⊥) → WholeForm w hs left l i e
  unfolding Rep Rules
  head_flat v2 v3 =
      let le = s.kinds in
      elim (dec_le (kind_at w i) 0) [
        | yes z ↦
            let e0 : kind_at w i ≡ 0 = omega arith in
            let q = s.leaf e0 in
            head
            (record {
              lines = leaf_line (block_at w i) close;
              rep = ((e0, refl, s.priced.mark, s.placed.level), q.no_detail, q.no_other, q.next, refl);
              rules = (s.priced.costs, s.placed.low, tt);
            })
        | no z ↦
            let n2 : kind_at w i ≡ 2 → ⊥ = λ x. v2 (hv ∙ x) in
            let n3 : kind_at w i ≡ 3 → ⊥ = λ x. v3 (hv ∙ x) in
            let e1 : kind_at w i ≡ 1 = omega arith in
            let q = s.call e1 in
            head
            (record {
              lines = call_line (block_at w i) (detail_at w i) close;
              rep = ((e1, refl, s.priced.mark, s.placed.level), refl, q.no_other, q.next, refl);
              rules = (s.priced.costs, q.few, q.before, q.levels, tt);
            })
      ]

  pub head_loop : {en m : ℕ} → v ≡ 2 → en ≡ after_at w i → m ≡ suc l → Part w hs (left - 1) m (i + 1) en → WholeForm w hs left l i e
  unfolding Rep Rules
  head_loop v2 he hm p =
      let e2 = sym hv ∙ v2 in
      let q = s.loop e2 in
      head
      (record {
        lines = loop_line (block_at w i) (detail_at w i) p.lines close;
        rep = ((e2, refl, s.priced.mark, s.placed.level), refl, q.no_other, rw (he, hm) at p.rep, refl);
        rules = (s.priced.costs, q.least, q.most, s.placed.low, q.opens, rw hm at p.rules, tt);
      })

  pub head_if : {mid en : ℕ} → v ≡ 3 → mid ≡ other_at w i → en ≡ after_at w i → Part w hs (left - 2) l (i + 1) mid → Part w hs (left - 2) l mid en → WholeForm w hs left l i e
  unfolding Rep Rules
  head_if v3 hm he p q =
      let e3 = sym hv ∙ v3 in
      let b = s.cond e3 in
      head
      (record {
        lines = if_line (block_at w i) p.lines q.lines close;
        rep = ((e3, refl, s.priced.mark, s.placed.level), b.no_detail, rw hm at p.rep, rw (hm, he) at q.rep, refl);
        rules = (s.priced.costs, s.placed.low, b.opens, p.rules, q.rules, tt);
      })

-- The inner lines of a whole form, at the places that the code read.
pub head_body :
    {w hs : List ℕ} {left l i e v en m : ℕ} → WholeForm w hs left l i e → v ≡ kind_at w i → v ≡ 2 → en ≡ after_at w i → m ≡ suc l
    → Part w hs (left - 1) m (i + 1) en
head_body h hv v2 he hm = rw hm (body_in he (loop_at h.grows h.part hv v2))

pub head_then :
    {w hs : List ℕ} {left l i e v mid : ℕ} → WholeForm w hs left l i e → v ≡ kind_at w i → v ≡ 3 → mid ≡ other_at w i
    → Part w hs (left - 2) l (i + 1) mid
head_then h hv v3 hm = then_in hm (if_at h.grows h.part hv (λ z. omega arith) (λ z. omega arith) (λ z. omega arith))

pub head_else :
    {w hs : List ℕ} {left l i e v mid en : ℕ} → WholeForm w hs left l i e → v ≡ kind_at w i → v ≡ 3 → mid ≡ other_at w i → en ≡ after_at w i
    → Part w hs (left - 2) l mid en
head_else h hv v3 hm he = else_in hm he (if_at h.grows h.part hv (λ z. omega arith) (λ z. omega arith) (λ z. omega arith))
