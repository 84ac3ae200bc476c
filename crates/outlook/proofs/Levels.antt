-- Down the levels of a place. Plain mathematics: no code is named here. Assumes nothing.
use mathlib.Core.Path.{◌≡◌, refl, sym, ap, ◌∙◌}
use mathlib.Core.Bool.{Bool, true, false, ◌&&◌, and-true}
use mathlib.Core.List.{List, [], ◌∷◌}
use mathlib.Core.Option.{some}
use Prim.Native.Nat.{ℕ, suc, ◌+◌, ◌-◌, ◌*◌, ◌≤◌}
use native.Mathlib.Omega.{arith}
use lib.ListN.{length, get_or}
use Rattle.std.specs.Prelude.{Some, None}
use Rattle.std.specs.Prelude.{Option as RustOption}
use Rattle.model.specs.Plan.{Block}
use Rattle.model.specs.Forms.{Forms, call, loop, ◌⊕◌}
use Rattle.model.specs.Total.{total}
use Rattle.model.specs.Places.{no_more}
use Rattle.model.specs.Stack.{Levels, behind, below, whole}
use Rattle.model.proofs.Places.{never}
use Rattle.rows.specs.declared.PricedCode.{PricedCode}
use Rattle.rows.specs.Leaves.{numbers}
use Rattle.rows.specs.Costs.{limit, cost_in}
use Rattle.rows.specs.Rows.{kind_at}
use Rattle.place.specs.Pieces.{Spanned}
use Rattle.place.specs.Lent.{CodeTable, main_forms}
use Rattle.place.specs.Spans.{Level, Stands, ground, level_from, level_to, CodeRunning}
use Rattle.place.proofs.Lent.{leaves_held}
use Rattle.place.proofs.Coming.{suffix_less, turned_less, inside_less}
use Rattle.place.proofs.Views.{level_end}
use Rattle.place.proofs.Falling.{Top, top, top_headed, spanned, lower, head, head_point, head_loop, head_call}
use Rattle.outlook.specs.declared.Quiet.{Quiet}
use Rattle.outlook.specs.Loads.{CostColumns}
use Rattle.outlook.specs.Quiets.{IsQuiet, still, PricedForms, priced_forms}
use Rattle.outlook.specs.Quiets.{beyond, mute_beyond, QuietBeyond}
use Rattle.outlook.specs.Loads.{PricedRun}
use Rattle.outlook.specs.Private.{QuietBehind}
use Rattle.outlook.proofs.Quieting.{hush_as, hush_shut, stop}
use Rattle.outlook.proofs.Walking.{between}
use Rattle.outlook.proofs.Leaving.{beyond-⊕, turned_beyond}

-- NO LEVEL HAS MORE TO RUN THAN THE MAIN FUNCTION

module _ (k : Block → ℕ) where
  pub place_less : {main : Forms} {ks : Levels} {n v : ℕ} {g : Forms} (lv : Level main ks n v g) → total k g ≤ total k lv.level
  place_less {n = n} {v = v} {g = g} lv = omega (arith, turned_less k v lv.start g lv.turns, suffix_less k lv.level n lv.start lv.found)

  pub level_less : (main : Forms) (leaves counts : List ℕ) (ks : Levels) → Stands main leaves counts ks → (f : Forms) → ground main ks ≡ some f → total k f ≤ total k main
  unfolding Stands ground
  level_less main leaves counts [] st f e = let q : main ≡ f = cc in omega (arith, ap (total k) q)
  level_less main leaves counts (g ∷ ks) st f e =
      let lv = st.1 in omega (arith, inside_less k g f e, place_less lv, level_less main leaves counts ks st.0 lv.level lv.opens)

-- Forms of a table in their records, with the columns.
abbrev pub spanned_priced : {c : PricedCode} {t : CodeTable c.code} {i e : ℕ} {f : Forms} → (b : CostColumns c t) → Spanned (numbers c.code.row.now) t.funs c.code.functions i e f →
    e ≤ b.records → total (cost_in c.cost) f ≤ limit → PricedForms c i e
spanned_priced {c} {t} b sp le small =
    record {
      room = leaves_held c.code.row.now sp.room;
      left = 62;
      functions = t.funs;
      piece = sp.piece;
      records = b.records;
      within = le;
      loads = b.loads;
      small = omega (arith, small, ap (total (cost_in c.cost)) sp.same);
    }

module _ {c : PricedCode} {leaves : List ℕ} {l : ℕ} (q : PricedRun c leaves l) where
  abbrev k : Block → ℕ
  k = cost_in c.cost

  abbrev G : List Forms
  G = q.running.table.funs

  abbrev pub main_of : Forms
  main_of = main_forms q.running.table

  abbrev pub at_top : Top main_of leaves q.running.counts l q.running.levels
  at_top = top q.running q.least

  -- What stands for `running` in the contracts of `place`.
  abbrev pub code_running : CodeRunning c.code leaves l
  code_running = record { least = q.least; most = q.most; running = q.running }

  pub top_less : total k at_top.level.level ≤ limit
  top_less =
      let t = at_top in
      omega (arith, level_less k main_of leaves q.running.counts t.under t.stands t.level.level t.level.opens, q.columns.small)

  pub top_end : level_to c.code leaves l ≤ q.columns.records
  top_end =
      let t = at_top in
      rw t.depth at (level_end q.running.table q.columns.records q.columns.inside leaves q.running.counts t.under t.stands t.level.level t.level.opens)

  abbrev top_priced : PricedForms c (level_from c.code leaves l) (level_to c.code leaves l)
  top_priced = spanned_priced q.columns (spanned q.running q.least) top_end top_less

  pub priced_at : {i e : ℕ} → i ≡ level_from c.code leaves l → e ≡ level_to c.code leaves l → PricedForms c i e
  priced_at hi he = rw (hi, he) top_priced

  -- The silence behind the leaf, as far as its level goes.
  abbrev Behind : Quiet → Type 0
  Behind v = QuietBeyond v k at_top.place limit

  level_hush : (r : RustOption Quiet) → QuietBehind r k (priced_forms top_priced) (get_or leaves l 0) → (v : Quiet) × (r ≡ Some v) × Behind v
  level_hush None u = let found = rw (spanned q.running q.least).same at at_top.level.found in never (sym u ∙ found)
  level_hush (Some v) (s, d, u) =
      let t = at_top in
      let found = rw (spanned q.running q.least).same at t.level.found in
      let z : s ≡ t.level.start = let y = sym d ∙ found in cc in
      let (a, b) = turned_beyond k (get_or q.running.counts l 0) t.level.start t.place t.level.turns in
      (v, refl, hush_as _ u (λ e. ap (λ (f : Forms). beyond k f e) z ∙ a e) (ap mute_beyond z ∙ b) top_priced.small)

  pub level_found : {i e : ℕ} {r : RustOption Quiet} → i ≡ level_from c.code leaves l → e ≡ level_to c.code leaves l →
      ((x : PricedForms c i e) → QuietBehind r k (priced_forms x) (get_or leaves l 0)) → (v : Quiet) × (r ≡ Some v) × Behind v
  level_found {r = r} hi he u = level_hush r (between (λ f. QuietBehind r k f (get_or leaves l 0)) hi he u top_priced)

  pub level_is : {i e : ℕ} {r : RustOption Quiet} {x : Quiet} → r ≡ Some x → i ≡ level_from c.code leaves l → e ≡ level_to c.code leaves l →
      ((x : PricedForms c i e) → QuietBehind r k (priced_forms x) (get_or leaves l 0)) → Behind x
  level_is {x = x} z hi he u = let (v, y, h) = level_found hi he u in let w : v ≡ x = (let d = sym y ∙ z in cc) in rw w at h

  -- The same down to the end.
  abbrev Falls : Quiet → Type 0
  Falls v = QuietBeyond v k (whole q.running.levels) (l * limit)

  fall_as : {v : Quiet} → IsQuiet v (λ s. beyond k at_top.place (still k (below at_top.under) s)) (mute_beyond at_top.place && no_more (below at_top.under)) (l * limit) → Falls v
  unfolding whole
  fall_as {v} u =
      let t = at_top in
      let (a, b) = beyond-⊕ k t.place (below t.under) (top_headed q.running q.least) in
      rw t.same (hush_as _ u (λ s. sym (a s)) (sym b) (omega arith))

  -- No way leads out of this level.
  pub fall_shut : {v : Quiet} → v.pass ≡ None → Behind v → Falls v
  fall_shut z u =
      let le = q.least in
      fall_as (hush_shut z _ _ (l * limit) (λ s. (_, refl)) (λ d. ap (λ x. x && no_more (below at_top.under)) d) (omega arith) u)

  pub bottom : (ks : Levels) → length ks ≡ 0 → ((s : ℕ) → still k (below ks) s ≡ s) × (no_more (below ks) ≡ true)
  unfolding below still no_more
  bottom [] z = ((λ s. refl), refl)
  bottom (g ∷ ks) z = absurd (omega arith)

  -- The outermost level.
  pub fall_out : {v : Quiet} → l ≡ 1 → Behind v → Falls v
  fall_out z u =
      let t = at_top in
      let (a, b) = bottom t.under (omega (arith, t.depth)) in
      fall_as (hush_as _ u (λ s. ap (beyond k t.place) (sym (a s))) (sym (and-true (mute_beyond t.place)) ∙ ap (λ x. mute_beyond t.place && x) (sym b)) (omega arith))

-- The loop or call that is open below a level.
back_loop : (k : Block → ℕ) (b : Block) (m : ℕ) (body r g : Forms) (ks : Levels) → g ≡ loop b (suc m) body r → b.point ≡ true →
    ((s : ℕ) → still k (below (g ∷ ks)) s ≡ 0) × (no_more (below (g ∷ ks)) ≡ false)
unfolding below behind ◌⊕◌ still no_more
back_loop k b m body r g ks z p = rw (z, p) ((λ s. refl), refl)

back_call : (k : Block → ℕ) (b : Block) (fun r g : Forms) (ks : Levels) → g ≡ call b fun r →
    ((s : ℕ) → still k (below (g ∷ ks)) s ≡ beyond k (whole (g ∷ ks)) s) × (no_more (below (g ∷ ks)) ≡ mute_beyond (whole (g ∷ ks)))
unfolding below whole behind ◌⊕◌ beyond mute_beyond
back_call k b fun r g ks z = rw z ((λ s. refl), refl)

-- What is under the innermost level.
module _ {c : PricedCode} {leaves : List ℕ} {l : ℕ} (q : PricedRun c leaves l) (h : 2 ≤ l) where
  abbrev cost : Block → ℕ
  cost = cost_in c.cost

  abbrev head_kind : ℕ
  head_kind = kind_at (numbers c.code.row.now) (get_or leaves (l - 1) 0)

  abbrev under : Levels
  under = (at_top q).under

  pub looping : head_kind ≡ 2 → ((s : ℕ) → still cost (below under) s ≡ 0) × (no_more (below under) ≡ false)
  looping two =
      let t = head q.running q.least h in
      let (m, body, r, y) = head_loop q.running q.least h two in
      rw t.same (back_loop cost _ m body r t.place t.under y (head_point q.running q.least h))

  pub calling : (head_kind ≡ 2 → ⊥) → ((s : ℕ) → still cost (below under) s ≡ beyond cost (whole under) s) × (no_more (below under) ≡ mute_beyond (whole under))
  calling nay =
      let t = head q.running q.least h in
      let (fun, r, y) = head_call q.running q.least h nay in
      rw t.same (back_call cost _ fun r t.place t.under y)

  -- An open loop comes back to its condition.
  pub fall_loop : {v r : Quiet} → head_kind ≡ 2 → Behind q v →
      ((f g : ℕ → ℕ) (i j : Bool) (a b : ℕ) → IsQuiet v f i a → IsQuiet (record { hit = 0; pass = None; mute = false }) g j b → IsQuiet r (λ s. f (g s)) (i && j) (a + b)) → Falls q r
  fall_loop two u o =
      let t = at_top q in
      let (a, b) = looping two in
      fall_as q (hush_as _ (o _ _ _ _ _ _ u stop) (λ s. ap (beyond cost t.place) (sym (a s))) (ap (λ x. mute_beyond t.place && x) (sym b)) (omega arith))

  abbrev pub priced_lower : PricedRun c leaves (l - 1)
  priced_lower = record { least = omega arith; most = omega (arith, q.most); running = lower q.running q.least h; columns = q.columns }

  -- Through a call it goes on.
  pub fall_call : {v x r : Quiet} → (head_kind ≡ 2 → ⊥) → Behind q v → ((z : PricedRun c leaves (l - 1)) → Falls z x) →
      ((f g : ℕ → ℕ) (i j : Bool) (a b : ℕ) → IsQuiet v f i a → IsQuiet x g j b → IsQuiet r (λ s. f (g s)) (i && j) (a + b)) → Falls q r
  fall_call two u y o =
      let t = at_top q in
      let (a, b) = calling two in
      fall_as q (hush_as _ (o _ _ _ _ _ _ u (y priced_lower)) (λ s. ap (beyond cost t.place) (sym (a s))) (ap (λ x. mute_beyond t.place && x) (sym b)) (omega arith))
