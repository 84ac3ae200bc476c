-- What a row says of the lines that lie in it, by the kind of the record at hand. Assumes nothing.
use mathlib.Core.Path.{◌≡◌, refl, sym, ◌∙◌}
use mathlib.Core.List.{List}
use Prim.Native.Nat.{ℕ, suc, ◌+◌, ◌-◌, ◌≤◌, ◌<◌}
use native.Mathlib.Omega.{arith}
use lib.ListN.{length, get_or}
use Rattle.model.specs.Plan.{Lines, close, leaf_line, call_line, loop_line, if_line}
use Rattle.model.specs.Acceptance.{Costs}
use Rattle.rows.specs.Rows.{kind_at, point_at, detail_at, other_at, after_at, level_at, block_at, Rep, Rules, Part}
use Rattle.rows.specs.First.{rest}

-- Lines end where they begin or later.
pub rep_le : (w : List ℕ) (l i e : ℕ) (ls : Lines) → Rep w l i e ls → i ≤ e
unfolding Rep
rep_le w l i e close h = omega arith
rep_le w l i e (leaf_line b r) h = omega (arith, rep_le w l (after_at w i) e r h.4)
rep_le w l i e (call_line b f r) h = omega (arith, rep_le w l (after_at w i) e r h.4)
rep_le w l i e (loop_line b n body r) h =
    omega (arith, rep_le w (suc l) (i + 1) (after_at w i) body h.3, rep_le w l (after_at w i) e r h.4)
rep_le w l i e (if_line b t s r) h =
    omega (arith, rep_le w l (i + 1) (other_at w i) t h.2, rep_le w l (other_at w i) (after_at w i) s h.3, rep_le w l (after_at w i) e r h.4)

-- A leaf or call ends where it begins.
pub rep_flat : (w : List ℕ) (l i e : ℕ) (ls : Lines) → Rep w l i e ls → i < e → kind_at w i < 2 → after_at w i ≡ i + 1
unfolding Rep
rep_flat w l i e close h lt k = absurd (omega arith)
rep_flat w l i e (leaf_line b r) h lt k = h.3
rep_flat w l i e (call_line b f r) h lt k = h.3
rep_flat w l i e (loop_line b n body r) h lt k = absurd (omega (arith, h.0.0))
rep_flat w l i e (if_line b t s r) h lt k = absurd (omega (arith, h.0.0))

pub flat_end : {w hs : List ℕ} {left l i e : ℕ} → i < e → Part w hs left l i e → kind_at w i < 2 → after_at w i ≡ i + 1
flat_end {w} {l = l} {i = i} {e = e} lt p k = rep_flat w l i e p.lines p.rep lt k

-- The lines after the first form lie after it, and keep the rules.
pub rep_rest : (w : List ℕ) (l i e : ℕ) (ls : Lines) → Rep w l i e ls → i < e → Rep w l (after_at w i) e (rest ls)
unfolding Rep rest
rep_rest w l i e close h lt = absurd (omega arith)
rep_rest w l i e (leaf_line b r) h lt = h.4
rep_rest w l i e (call_line b f r) h lt = h.4
rep_rest w l i e (loop_line b n body r) h lt = h.4
rep_rest w l i e (if_line b t s r) h lt = h.4

pub rules_rest : (hs : List ℕ) (left l : ℕ) (ls : Lines) → Rules hs left l ls → Rules hs left l (rest ls)
unfolding Rules rest
rules_rest hs left l close h = tt
rules_rest hs left l (leaf_line b r) h = h.2
rules_rest hs left l (call_line b f r) h = h.4
rules_rest hs left l (loop_line b n body r) h = h.6
rules_rest hs left l (if_line b t e r) h = h.5

-- What is known where the record at hand is a leaf, a call, a loop or an if.
pub record LeafAt (w : List ℕ) (l i : ℕ) (ls : Lines) : Type 0 where
  pub costs : Costs (block_at w i)
  pub mark : point_at w i ≤ 1
  pub level : level_at w i ≡ l
  pub low : l ≤ 32
  pub no_detail : detail_at w i ≡ 0
  pub no_other : other_at w i ≡ 0
  pub flat : after_at w i ≡ i + 1
  pub shape : ls ≡ leaf_line (block_at w i) (rest ls)

pub record CallAt (w hs : List ℕ) (l i : ℕ) (ls : Lines) : Type 0 where
  pub costs : Costs (block_at w i)
  pub mark : point_at w i ≤ 1
  pub level : level_at w i ≡ l
  pub target : detail_at w i ≤ 15
  pub earlier : detail_at w i < length hs
  pub low : l + get_or hs (detail_at w i) 0 ≤ 32
  pub no_other : other_at w i ≡ 0
  pub flat : after_at w i ≡ i + 1
  pub shape : ls ≡ call_line (block_at w i) (detail_at w i) (rest ls)

pub record LoopAt (w hs : List ℕ) (left l i : ℕ) (ls : Lines) : Type 0 where
  pub costs : Costs (block_at w i)
  pub mark : point_at w i ≤ 1
  pub level : level_at w i ≡ l
  pub least : 1 ≤ detail_at w i
  pub bound : detail_at w i ≤ 65535
  pub low : l ≤ 32
  pub opens : 1 ≤ left
  pub no_other : other_at w i ≡ 0
  pub body : Part w hs (left - 1) (suc l) (i + 1) (after_at w i)
  pub shape : ls ≡ loop_line (block_at w i) (detail_at w i) body.lines (rest ls)

pub record IfAt (w hs : List ℕ) (left l i : ℕ) (ls : Lines) : Type 0 where
  pub costs : Costs (block_at w i)
  pub mark : point_at w i ≤ 1
  pub level : level_at w i ≡ l
  pub low : l ≤ 32
  pub opens : 2 ≤ left
  pub no_detail : detail_at w i ≡ 0
  pub then : Part w hs (left - 2) l (i + 1) (other_at w i)
  pub else : Part w hs (left - 2) l (other_at w i) (after_at w i)
  pub shape : ls ≡ if_line (block_at w i) then.lines else.lines (rest ls)

as_leaf : (w hs : List ℕ) (left l i e : ℕ) (ls : Lines) → Rep w l i e ls → Rules hs left l ls → i < e → kind_at w i ≡ 0 → LeafAt w l i ls
unfolding Rep Rules rest
as_leaf w hs left l i e close h q lt kind = absurd (omega arith)
as_leaf w hs left l i e (leaf_line b r) h q lt kind =
    record {
      costs = rw h.0.1 at q.0;
      mark = h.0.2;
      level = h.0.3;
      low = q.1;
      no_detail = h.1;
      no_other = h.2;
      flat = h.3;
      shape = cc;
    }
as_leaf w hs left l i e (call_line b f r) h q lt kind = absurd (omega arith)
as_leaf w hs left l i e (loop_line b n body r) h q lt kind = absurd (omega arith)
as_leaf w hs left l i e (if_line b t s r) h q lt kind = absurd (omega arith)

as_call : (w hs : List ℕ) (left l i e : ℕ) (ls : Lines) → Rep w l i e ls → Rules hs left l ls → i < e → kind_at w i ≡ 1 → CallAt w hs l i ls
unfolding Rep Rules rest
as_call w hs left l i e close h q lt kind = absurd (omega arith)
as_call w hs left l i e (leaf_line b r) h q lt kind = absurd (omega arith)
as_call w hs left l i e (call_line b f r) h q lt kind =
    record {
      costs = rw h.0.1 at q.0;
      mark = h.0.2;
      level = h.0.3;
      target = omega arith;
      earlier = omega arith;
      low = rw h.1 q.3;
      no_other = h.2;
      flat = h.3;
      shape = cc;
    }
as_call w hs left l i e (loop_line b n body r) h q lt kind = absurd (omega arith)
as_call w hs left l i e (if_line b t s r) h q lt kind = absurd (omega arith)

as_loop : (w hs : List ℕ) (left l i e : ℕ) (ls : Lines) → Rep w l i e ls → Rules hs left l ls → i < e → kind_at w i ≡ 2 → LoopAt w hs left l i ls
unfolding Rep Rules rest
as_loop w hs left l i e close h q lt kind = absurd (omega arith)
as_loop w hs left l i e (leaf_line b r) h q lt kind = absurd (omega arith)
as_loop w hs left l i e (call_line b f r) h q lt kind = absurd (omega arith)
as_loop w hs left l i e (loop_line b n body r) h q lt kind =
    record {
      costs = rw h.0.1 at q.0;
      mark = h.0.2;
      level = h.0.3;
      least = omega arith;
      bound = omega arith;
      low = q.3;
      opens = q.4;
      no_other = h.2;
      body = record { lines = body; rep = h.3; rules = q.5 };
      shape = cc;
    }
as_loop w hs left l i e (if_line b t s r) h q lt kind = absurd (omega arith)

as_if : (w hs : List ℕ) (left l i e : ℕ) (ls : Lines) → Rep w l i e ls → Rules hs left l ls → i < e
    → (kind_at w i ≡ 0 → ⊥) → (kind_at w i ≡ 1 → ⊥) → (kind_at w i ≡ 2 → ⊥) → IfAt w hs left l i ls
unfolding Rep Rules rest
as_if w hs left l i e close h q lt k0 k1 k2 = absurd (omega arith)
as_if w hs left l i e (leaf_line b r) h q lt k0 k1 k2 = absurd (k0 h.0.0)
as_if w hs left l i e (call_line b f r) h q lt k0 k1 k2 = absurd (k1 h.0.0)
as_if w hs left l i e (loop_line b n body r) h q lt k0 k1 k2 = absurd (k2 h.0.0)
as_if w hs left l i e (if_line b t s r) h q lt k0 k1 k2 =
    record {
      costs = rw h.0.1 at q.0;
      mark = h.0.2;
      level = h.0.3;
      low = q.1;
      opens = q.2;
      no_detail = h.1;
      then = record { lines = t; rep = h.2; rules = q.3 };
      else = record { lines = s; rep = h.3; rules = q.4 };
      shape = cc;
    }

grows : (w : List ℕ) (l i e : ℕ) (ls : Lines) → Rep w l i e ls → i < e → (i < after_at w i) × (after_at w i ≤ e)
unfolding Rep
grows w l i e close h lt = absurd (omega arith)
grows w l i e (leaf_line b r) h lt = omega (arith, rep_le w l (after_at w i) e r h.4)
grows w l i e (call_line b f r) h lt = omega (arith, rep_le w l (after_at w i) e r h.4)
grows w l i e (loop_line b n body r) h lt =
    omega (arith, rep_le w (suc l) (i + 1) (after_at w i) body h.3, rep_le w l (after_at w i) e r h.4)
grows w l i e (if_line b t s r) h lt =
    omega (arith, rep_le w l (i + 1) (other_at w i) t h.2, rep_le w l (other_at w i) (after_at w i) s h.3, rep_le w l (after_at w i) e r h.4)

none : (w : List ℕ) (l i e : ℕ) (ls : Lines) → Rep w l i e ls → e ≤ i → ls ≡ close
unfolding Rep
none w l i e close h le = refl
none w l i e (leaf_line b r) h le = absurd (omega (arith, rep_le w l (after_at w i) e r h.4))
none w l i e (call_line b f r) h le = absurd (omega (arith, rep_le w l (after_at w i) e r h.4))
none w l i e (loop_line b n body r) h le =
    absurd (omega (arith, rep_le w (suc l) (i + 1) (after_at w i) body h.3, rep_le w l (after_at w i) e r h.4))
none w l i e (if_line b t s r) h le =
    absurd (omega (arith, rep_le w l (i + 1) (other_at w i) t h.2, rep_le w l (other_at w i) (after_at w i) s h.3, rep_le w l (after_at w i) e r h.4))

module _ {w hs : List ℕ} {left l i e : ℕ} (lt : i < e) (p : Part w hs left l i e) where
  -- The record at hand, by the kind v that the code read.
  pub leaf_at : {v : ℕ} → v ≡ kind_at w i → v ≡ 0 → LeafAt w l i p.lines
  leaf_at hv v0 = as_leaf w hs left l i e p.lines p.rep p.rules lt (sym hv ∙ v0)

  pub call_at : {v : ℕ} → v ≡ kind_at w i → v ≡ 1 → CallAt w hs l i p.lines
  call_at hv v1 = as_call w hs left l i e p.lines p.rep p.rules lt (sym hv ∙ v1)

  pub loop_at : {v : ℕ} → v ≡ kind_at w i → v ≡ 2 → LoopAt w hs left l i p.lines
  loop_at hv v2 = as_loop w hs left l i e p.lines p.rep p.rules lt (sym hv ∙ v2)

  pub if_at : {v : ℕ} → v ≡ kind_at w i → (v ≡ 0 → ⊥) → (v ≡ 1 → ⊥) → (v ≡ 2 → ⊥) → IfAt w hs left l i p.lines
  if_at hv v0 v1 v2 = as_if w hs left l i e p.lines p.rep p.rules lt (λ x. v0 (hv ∙ x)) (λ x. v1 (hv ∙ x)) (λ x. v2 (hv ∙ x))

  pub ends : (i < after_at w i) × (after_at w i ≤ e)
  ends = grows w l i e p.lines p.rep lt

  -- The lines after the first form, which ends at en.
  abbrev pub after : {en : ℕ} → en ≡ after_at w i → Part w hs left l en e
  after he = record { lines = rest p.lines; rep = rw he (rep_rest w l i e p.lines p.rep lt); rules = rules_rest hs left l p.lines p.rules }

-- No lines lie in no records.
pub no_lines : {w hs : List ℕ} {left l i e : ℕ} → e ≤ i → (p : Part w hs left l i e) → p.lines ≡ close
no_lines {w} {hs} {left} {l} {i} {e} le p = none w l i e p.lines p.rep le

-- The inner lines, at the places that the code read.
abbrev pub body_in : {w hs : List ℕ} {left l i en : ℕ} {ls : Lines} → en ≡ after_at w i → LoopAt w hs left l i ls → Part w hs (left - 1) (suc l) (i + 1) en
body_in he h = record { lines = h.body.lines; rep = rw he h.body.rep; rules = h.body.rules }

abbrev pub then_in : {w hs : List ℕ} {left l i mid : ℕ} {ls : Lines} → mid ≡ other_at w i → IfAt w hs left l i ls → Part w hs (left - 2) l (i + 1) mid
then_in hm h = record { lines = h.then.lines; rep = rw hm h.then.rep; rules = h.then.rules }

abbrev pub else_in : {w hs : List ℕ} {left l i mid en : ℕ} {ls : Lines} → mid ≡ other_at w i → en ≡ after_at w i → IfAt w hs left l i ls → Part w hs (left - 2) l mid en
else_in hm he h = record { lines = h.else.lines; rep = rw (hm, he) h.else.rep; rules = h.else.rules }

pub parts : {w hs : List ℕ} {left l i mid en : ℕ} {ls : Lines} → mid ≡ other_at w i → en ≡ after_at w i → IfAt w hs left l i ls → (i < mid) × (mid ≤ en)
parts {w} {hs} {left} {l} {i} {mid} {en} hm he h =
    omega (arith, rep_le w l (i + 1) (other_at w i) h.then.lines h.then.rep, rep_le w l (other_at w i) (after_at w i) h.else.lines h.else.rep)
