-- What follows the visit of a place, from what the walks answered; and the same at the release. Plain mathematics: no code is named here. Assumes nothing.
use mathlib.Core.Path.{◌≡◌, refl, sym, ap, ◌∙◌, subst}
use mathlib.Core.Bool.{Bool, false, ◌&&◌, and-false}
use mathlib.Core.List.{List, ◌∷◌}
use mathlib.Core.Option.{some}
use Prim.Native.Nat.{ℕ, zero, suc, ◌+◌, ◌-◌, ◌*◌, ◌≤◌, max}
use native.Mathlib.Omega.{arith}
use native.Mathlib.Decide.{dec_le}
use lib.Dec.{eqb}
use lib.ListN.{length, get_or}
use borrow.Author.Tests.{eq-eqb, ne_eqb}
use Rattle.std.specs.Prelude.{None, is_some}
use Rattle.model.specs.Plan.{Block}
use Rattle.model.specs.Forms.{Forms, loop, ◌⊕◌}
use Rattle.model.specs.Total.{total}
use Rattle.model.specs.Stack.{below, whole, inside_of}
use Rattle.model.specs.Stretch.{silence, visit_stretch}
use Rattle.model.specs.Places.{passes, no_more, Traceable}
use Rattle.rows.specs.declared.PricedCode.{PricedCode}
use Rattle.rows.specs.Leaves.{numbers}
use Rattle.rows.specs.Costs.{limit, cost_in}
use Rattle.rows.specs.Rows.{kind_at, point_at, detail_at, block_at}
use Rattle.place.specs.declared.Place.{Place}
use Rattle.place.specs.Pieces.{Spanned}
use Rattle.place.specs.Lent.{main_forms}
use Rattle.place.specs.Spans.{Stands, ground, base_to, inner_from, inner_to, MayTurn}
use Rattle.place.specs.Private.{Placed}
use Rattle.place.proofs.Views.{View, a_leaf, a_call, a_loop, an_if, main_spanned, level_end}
use Rattle.place.proofs.Falling.{Top, top_view}
use Rattle.place.proofs.Finding.{running, call_top, loop_top}
use Rattle.place.proofs.Stacking.{placed}
use Rattle.place.proofs.Decode.{stands_traceable}
use Rattle.outlook.specs.declared.Quiet.{Quiet}
use Rattle.outlook.specs.Loads.{CodePriced, PlacePriced}
use Rattle.outlook.specs.Quiets.{quiet_sum, IsQuiet, still, QuietForms, PricedForms, priced_forms}
use Rattle.outlook.specs.Quiets.{Low, beyond, mute_beyond, QuietBeyond}
use Rattle.outlook.specs.Loads.{PricedRun}
use Rattle.outlook.specs.Private.{HeadPriced, Sees}
use Rattle.outlook.proofs.Quieting.{low_of, stop}
use Rattle.outlook.proofs.Stilling.{silence_still, Shown, shown_leaf, shown_cond, shown_call, shown_spent, shown_loop}
use Rattle.outlook.proofs.Growing.{grows_still, grows_visit, ends_is}
use Rattle.outlook.proofs.Levels.{level_less, place_less, spanned_priced, at_top, top_less}

-- AT THE RELEASE

module _ {c : PricedCode} (q : CodePriced c) {i e : ℕ} (hi : i ≡ get_or c.code.bounds.now (c.code.functions - 1) 0) (he : e ≡ get_or c.code.bounds.now c.code.functions 0) where
  abbrev k : Block → ℕ
  k = cost_in c.cost

  abbrev main : Forms
  main = main_forms q.table

  pub main_end : e ≤ q.columns.records
  main_end =
      let z : c.code.functions - 1 + 1 ≡ c.code.functions = omega (arith, q.table.count) in
      let y = rw z at (q.columns.inside (c.code.functions - 1) (omega (arith, q.table.count))) in
      omega (arith, he, y)

  abbrev pub main_priced : PricedForms c i e
  main_priced = spanned_priced q.columns (main_spanned q.table hi he) main_end q.columns.small

  pub main_seen : {r : Quiet} → ((h : PricedForms c i e) → QuietForms r k (priced_forms h)) → (0 + quiet_sum r 0 ≡ silence k main 0) × (r.mute ≡ no_more main) × (is_some r.pass ≡ passes main)
  main_seen {r} h =
      let u = h main_priced in
      let z = (main_spanned q.table hi he).same in (
        omega (arith, u.says 0, ap (λ (f : Forms). still k f 0) z, silence_still k main 0 q.table.traceable),
        u.mute ∙ ap no_more (sym z),
        ends_is r 0 (grows_still k main) (λ e. omega (arith, u.says e ∙ ap (λ (f : Forms). still k f e) (sym z))),
      )

-- AT A PLACE

inner_end : (w starts : List ℕ) (n : ℕ) (leaves : List ℕ) (l m : ℕ) → 1 ≤ l → base_to w starts n leaves (l + 1) ≤ m → inner_to w starts (get_or leaves l 0) ≤ m
inner_end w starts n leaves l m one h =
    let o : eqb (l + 1) 1 ≡ false = ne_eqb (l + 1) 1 (λ y. omega arith) in
    let i : l + 1 - 1 ≡ l = omega arith in
    rw (o, i) at h

pub open_loop : (m : ℕ) (body r : Forms) (b : Block) (g : Forms) → g ≡ loop b m body r → (m ≡ 0 → ⊥) → inside_of g ≡ some body
unfolding inside_of
open_loop zero body r b g z n = absurd (n refl)
open_loop (suc m) body r b g z n = ap inside_of z

-- No visit costs more than what is left to run from it.
own_less : (k : Block → ℕ) {w : List ℕ} {G : List Forms} {n p v u : ℕ} {g : Forms} → View w G n p v u g → k (block_at w p) ≤ total k g
unfolding total
own_less k (a_leaf y r z) = omega (arith, ap (total k) z)
own_less k (a_call y t r z) = omega (arith, ap (total k) z)
own_less k (a_loop y i cs le m s r z) = omega (arith, ap (total k) z)
own_less k (an_if y t s r z) = omega (arith, ap (total k) z)

-- The run of the place.
abbrev pub walks : {c : PricedCode} {x : Place} → PlacePriced c x → PricedRun c x.leaves x.level
walks q = record { least = q.least; most = q.most; running = running (placed q.least q.decoded); columns = q.columns }

module _ {c : PricedCode} {x : Place} (q : PlacePriced c x) where
  abbrev cost : Block → ℕ
  cost = cost_in c.cost

  abbrev w : List ℕ
  w = numbers c.code.row.now

  abbrev G : List Forms
  G = q.decoded.table.funs

  abbrev here : ℕ
  here = get_or x.leaves x.level 0

  abbrev count : ℕ
  count = get_or x.earlier x.level 0

  abbrev b : Block
  b = block_at w here

  abbrev spot : Placed w c.code.bounds.now c.code.functions x.leaves x.earlier x.level
  spot = placed q.least q.decoded

  abbrev front : Top (main_forms q.decoded.table) x.leaves x.earlier x.level q.decoded.levels
  front = at_top (walks q)

  standing : Stands (main_forms q.decoded.table) x.leaves x.earlier (front.place ∷ front.under)
  standing = subst (λ ls. Stands (main_forms q.decoded.table) x.leaves x.earlier ls) front.same spot.stack.stands

  -- What is left to run, by the form that it opens with.
  abbrev left_over : Forms
  left_over = whole q.decoded.levels

  pub left_as : (g : Forms) → front.place ≡ g → left_over ≡ g ⊕ below front.under
  unfolding whole
  left_as g z = ap whole front.same ∙ ap (λ g. g ⊕ below front.under) z

  pub left_traceable : Traceable left_over
  left_traceable = stands_traceable (main_forms q.decoded.table) x.leaves x.earlier q.decoded.levels (omega (arith, spot.stack.depth)) spot.stack.stands q.decoded.table.traceable

  -- The cost of the visit itself.
  pub visit_small : cost b ≤ limit
  visit_small =
      let (e, v, lt, room) = top_view (running spot) q.least in
      omega (arith, own_less cost v, place_less cost front.level, top_less (walks q))

  sees_of : {r : Quiet} (v : ℕ → ℕ) (m : Bool) → ((e : ℕ) → quiet_sum r e ≡ v e) → r.mute ≡ m → ((e : ℕ) → Shown cost b left_over e (v e) m) → Low r → Sees r cost b q.decoded.levels
  sees_of {r} v m hv hm s low =
      let u : (e : ℕ) → cost b + quiet_sum r e ≡ visit_stretch cost left_over e = λ e. ap (λ u. cost b + u) (hv e) ∙ (s e).stretch in
      record { stretch = u; last = hm ∙ (s 0).last; ends = ends_is r (cost b) (grows_visit cost left_over left_traceable) u; low = low }

  -- What the walk down the levels found.
  abbrev Falls : Quiet → Type 0
  Falls r = QuietBeyond r cost left_over (x.level * limit)

  pub falls_low : {r : Quiet} → Falls r → Low r
  falls_low u = let most = q.most in low_of u (omega arith)

  -- What is inside the form of the place.
  pub inner_priced : (f : Forms) → inside_of front.place ≡ some f → Spanned w G c.code.functions (inner_from w c.code.bounds.now here) (inner_to w c.code.bounds.now here) f →
      (inner_to w c.code.bounds.now here ≤ q.columns.records) × (total cost f ≤ limit)
  unfolding ground
  inner_priced f z sp =
      let m = main_forms q.decoded.table in
      let e = level_end q.decoded.table q.columns.records q.columns.inside x.leaves x.earlier (front.place ∷ front.under) standing f z in
      let d : length (front.place ∷ front.under) ≡ x.level = omega (arith, front.depth) in (
        inner_end w c.code.bounds.now c.code.functions x.leaves x.level q.columns.records q.least (rw d at e),
        omega (arith, level_less cost m x.leaves x.earlier (front.place ∷ front.under) standing f z, q.columns.small),
      )

  -- A leaf or an if.
  flat_shown : (e : ℕ) {p v u : ℕ} → View w G c.code.functions p v u front.place → (kind_at w p ≡ 1 → ⊥) → (kind_at w p ≡ 2 → ⊥) →
      Shown cost (block_at w p) left_over e (beyond cost left_over e) (mute_beyond left_over)
  unfolding ◌⊕◌
  flat_shown e {p} (a_leaf y r z) n1 n2 = shown_leaf cost e (block_at w p) _ left_over (left_as _ z) left_traceable
  flat_shown e {p} (a_call y t r z) n1 n2 = absurd (n1 y)
  flat_shown e {p} (a_loop y i cs le m s r z) n1 n2 = absurd (n2 y)
  flat_shown e {p} (an_if y t s r z) n1 n2 = shown_cond cost e (block_at w p) t s _ left_over (left_as _ z) left_traceable

  sees_flat : {r : Quiet} → Falls r → (kind_at w here ≡ 1 → ⊥) → (kind_at w here ≡ 2 → ⊥) → Sees r cost b q.decoded.levels
  sees_flat u n1 n2 =
      let (e, v, lt, room) = top_view (running spot) q.least in
      sees_of _ _ u.says u.mute (λ e. flat_shown e v n1 n2) (falls_low u)

  -- A loop at its last visit.
  sees_spent : {r : Quiet} → Falls r → kind_at w here ≡ 2 → detail_at w here ≤ count → Sees r cost b q.decoded.levels
  unfolding ◌⊕◌
  sees_spent u two le =
      let t = loop_top spot q.least two in
      sees_of _ _ u.says u.mute (λ e. shown_spent cost e b t.rounds t.body _ left_over (left_as _ t.shape) (omega (arith, t.bound)) left_traceable) (falls_low u)

  -- A call.
  pub call_priced : kind_at w here ≡ 1 → HeadPriced c here
  unfolding inside_of
  call_priced one =
      let t = call_top spot q.least one in
      let (y, z) = inner_priced t.fun (ap inside_of t.shape) t.spanned in
      spanned_priced q.columns t.spanned y z

  pub sees_call : {u v r : Quiet} → Falls u → (one : kind_at w here ≡ 1) → ((h : HeadPriced c here) → QuietForms v cost (priced_forms h)) →
      ((f g : ℕ → ℕ) (i j : Bool) (a b : ℕ) → IsQuiet v f i a → IsQuiet u g j b → IsQuiet r (λ s. f (g s)) (i && j) (a + b)) → Sees r cost b q.decoded.levels
  unfolding call_priced ◌⊕◌
  sees_call un one s o =
      let t = call_top spot q.least one in
      let m = call_priced one in
      let f = o _ _ _ _ _ _ (s m) un in
      let same = t.spanned.same in
      let most = q.most in
      sees_of (λ e. still cost t.fun (beyond cost left_over e)) (no_more t.fun && mute_beyond left_over)
      (λ e. f.says e ∙ ap (λ (z : Forms). still cost z (beyond cost left_over e)) (sym same))
      (f.mute ∙ ap (λ (z : Forms). no_more z && mute_beyond left_over) (sym same))
      (λ e. shown_call cost e b t.fun _ left_over (left_as _ t.shape) left_traceable)
      (low_of f (omega (arith, m.small)))

  -- A loop that may turn again.
  pub loop_priced : MayTurn w here count → HeadPriced c here
  loop_priced turn =
      let t = loop_top spot q.least turn.0 in
      let (y, z) = inner_priced t.body (open_loop t.rounds t.body t.later _ front.place t.shape (λ z. omega (arith, t.bound, turn.1))) t.spanned in
      spanned_priced q.columns t.spanned y z

  pub sees_loop : {u v y r : Quiet} → Falls u → MayTurn w here count → ((h : HeadPriced c here) → QuietForms v cost (priced_forms h)) →
      ((f g : ℕ → ℕ) (i j : Bool) (a b : ℕ) → IsQuiet v f i a → IsQuiet (record { hit = 0; pass = None; mute = false }) g j b → IsQuiet y (λ s. f (g s)) (i && j) (a + b)) →
      ((f g : ℕ → ℕ) (i j : Bool) (a b : ℕ) → IsQuiet u f i a → IsQuiet y g j b → IsQuiet r (λ s. max (f s) (g s)) (i && j) (max a b)) → Sees r cost b q.decoded.levels
  unfolding loop_priced ◌⊕◌
  sees_loop un turn s o p =
      let t = loop_top spot q.least turn.0 in
      let m = loop_priced turn in
      let f = p _ _ _ _ _ _ un (o _ _ _ _ _ _ (s m) stop) in
      let most = q.most in
      sees_of (λ e. max (beyond cost left_over e) (still cost t.body 0)) false
      (λ e. f.says e ∙ ap (λ (z : Forms). max (beyond cost left_over e) (still cost z 0)) (sym t.spanned.same))
      (f.mute ∙ ap (λ u. mute_beyond left_over && u) (and-false (no_more (priced_forms m))) ∙ and-false (mute_beyond left_over))
      (λ e. shown_loop cost e b t.rounds t.body _ left_over (left_as _ t.shape) (λ z. omega (arith, t.bound, turn.1))
      (eq-eqb (point_at w here) 1 (q.decoded.marked x.level q.least (omega arith))) left_traceable)
      (low_of f (omega (arith, m.small)))

  -- Neither a call nor such a loop.
  pub sees_rest : {r : Quiet} → Falls r → (kind_at w here ≡ 1 → ⊥) → (MayTurn w here count → ⊥) → Sees r cost b q.decoded.levels
  sees_rest u n1 nt =
      elim (dec_le 2 (kind_at w here)) [
        | yes a ↦ elim (dec_le (kind_at w here) 2) [
          | yes z ↦ let two : kind_at w here ≡ 2 = omega arith in
              sees_spent u two (elim (dec_le (detail_at w here) count) [ yes y ↦ y | no y ↦ absurd (nt (two, omega arith)) ])
          | no z ↦ sees_flat u n1 (λ y. z (omega arith))
        ]
        | no a ↦ sees_flat u n1 (λ y. a (omega arith))
      ]
