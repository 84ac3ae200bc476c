-- The notes down the levels of a place. Plain mathematics: no code is named here. Assumes nothing.
use mathlib.Core.Path.{◌≡◌, refl, sym, ap, ◌∙◌}
use mathlib.Core.Bool.{Bool, true, false}
use mathlib.Core.List.{List, [], ◌∷◌}
use Prim.Native.Nat.{ℕ, suc, ◌-◌, ◌*◌, ◌≤◌}
use native.Mathlib.Omega.{arith}
use lib.ListN.{length, get_or}
use Rattle.std.specs.Prelude.{drop}
use Rattle.model.specs.Plan.{Block}
use Rattle.model.specs.Forms.{Forms, call, loop, ◌⊕◌}
use Rattle.model.specs.Stack.{Levels, behind, below, whole, suffix}
use Rattle.rows.specs.declared.PricedCode.{PricedCode}
use Rattle.rows.specs.Leaves.{numbers}
use Rattle.rows.specs.Costs.{limit, cost_in}
use Rattle.rows.specs.Rows.{kind_at}
use Rattle.place.specs.Pieces.{Spanned}
use Rattle.place.specs.Spans.{level_from, level_to}
use Rattle.place.proofs.Falling.{Top, top_headed, spanned, head, head_point, head_loop, head_call}
use Rattle.outlook.specs.declared.Quiet.{Quiet}
use Rattle.outlook.specs.Quiets.{quiet_sum, still, QuietBeyond, PricedForms, priced_forms}
use Rattle.outlook.specs.Loads.{PricedRun}
use Rattle.outlook.proofs.Levels.{spanned_priced, main_of, at_top, top_less, top_end, bottom, looping, calling, priced_lower}
use Rattle.stretch_visits.specs.declared.Notes.{Notes}
use Rattle.stretch_visits.specs.Worth.{worth, worth_behind}
use Rattle.stretch_visits.specs.Private.{Noted, RoomBehind, RunRoom, NotedBehind, NotedRun}
use Rattle.stretch_visits.proofs.Composing.{noted_as, noted_then, noted_stop, noted_end}
use Rattle.stretch_visits.proofs.Leaving.{worth_behind-⊕, turned_worth}

-- The worth of what lies under a level.
worth_bottom : (k m : Block → ℕ) (ks : Levels) → length ks ≡ 0 → worth k m (below ks) 0 0 ≡ 0
unfolding below worth
worth_bottom k m [] z = refl
worth_bottom k m (g ∷ ks) z = absurd (omega arith)

worth_back_loop : (k m : Block → ℕ) (b : Block) (n : ℕ) (body r g : Forms) (ks : Levels) → g ≡ loop b (suc n) body r → b.point ≡ true →
    worth k m (below (g ∷ ks)) 0 0 ≡ 0
unfolding below behind ◌⊕◌ worth
worth_back_loop k m b n body r g ks z p = rw (z, p) refl

worth_back_call : (k m : Block → ℕ) (b : Block) (fun r g : Forms) (ks : Levels) → g ≡ call b fun r →
    worth k m (below (g ∷ ks)) 0 0 ≡ worth_behind k m (whole (g ∷ ks)) 0 0
unfolding below whole behind ◌⊕◌ worth_behind
worth_back_call k m b fun r g ks z = rw z refl

module _ {c : PricedCode} {leaves : List ℕ} {l : ℕ} (q : PricedRun c leaves l) where
  abbrev k : Block → ℕ
  k = cost_in c.cost

  abbrev w : List ℕ
  w = numbers c.code.row.now

  abbrev G : List Forms
  G = q.running.table.funs

  abbrev front : Top (main_of q) leaves q.running.counts l q.running.levels
  front = at_top q

  -- The forms of the level in their records.
  pub level_spanned : {i e : ℕ} → i ≡ level_from c.code leaves l → e ≡ level_to c.code leaves l → Spanned w G c.code.functions i e front.level.level
  level_spanned hi he = rw (hi, he) (spanned q.running q.least)

  abbrev pub level_priced : {i e : ℕ} → i ≡ level_from c.code leaves l → e ≡ level_to c.code leaves l → PricedForms c i e
  level_priced hi he = spanned_priced q.columns (level_spanned hi he) (omega (arith, he, top_end q)) (top_less q)

  -- The sum of what follows the level.
  pub under_is : drop 1 q.running.levels ≡ front.under
  under_is = ap (λ (ls : Levels). drop 1 ls) front.same

  pub beneath_out : l ≡ 1 → 0 ≡ still k (below (drop 1 q.running.levels)) 0
  beneath_out z = rw under_is (sym ((bottom q front.under (omega (arith, front.depth))).0 0))

  pub beneath_loop : (h : 2 ≤ l) → kind_at w (get_or leaves (l - 1) 0) ≡ 2 → 0 ≡ still k (below (drop 1 q.running.levels)) 0
  beneath_loop h two = rw under_is (sym ((looping q h two).0 0))

  pub beneath_call : {x : Quiet} {s : ℕ} (h : 2 ≤ l) → (kind_at w (get_or leaves (l - 1) 0) ≡ 2 → ⊥) →
      ((z : PricedRun c leaves (l - 1)) → QuietBeyond x k (whole z.running.levels) ((l - 1) * limit)) → s ≡ quiet_sum x 0 →
      s ≡ still k (below (drop 1 q.running.levels)) 0
  beneath_call h nay u z = rw under_is (z ∙ (u (priced_lower q h)).says 0 ∙ sym ((calling q h nay).0 0))

  -- The notes behind the leaf, as far as its level goes.
  abbrev Behind : Notes → Notes → Bool → Type 0
  Behind old new b =
      Noted k w G (λ m x. worth_behind k m front.place (still k (below front.under) 0) x) limit 1 c.code.functions old new b

  pub level_notes : {i e s : ℕ} {old new : Notes} {b : Bool} (hi : i ≡ level_from c.code leaves l) (he : e ≡ level_to c.code leaves l) →
      s ≡ still k (below (drop 1 q.running.levels)) 0 →
      ((x : PricedForms c i e) → NotedBehind x (priced_forms x) (get_or leaves l 0) s old new b) → Behind old new b
  level_notes {s = s} hi he z n =
      let lv = front.level in
      let y : s ≡ still k (below front.under) 0 = z ∙ ap (λ (ls : Levels). still k (below ls) 0) under_is in
      let h = level_priced hi he in
      noted_as (λ m x. worth_behind k m front.place (still k (below front.under) 0) x)
      (λ m o x. turned_worth k m (get_or q.running.counts l 0) lv.start front.place lv.turns s x ∙ ap (λ v. worth_behind k m front.place v x) y)
      h.small (level_spanned hi he).few
      (n h lv.start (sym (ap (λ (f : Forms). suffix f (get_or leaves l 0)) (level_spanned hi he).same) ∙ lv.found))

  -- All that lies behind it.
  all_worth : (m : Block → ℕ) →
      worth_behind k m front.place (still k (below front.under) 0) (worth k m (below front.under) 0 0) ≡ worth_behind k m (whole q.running.levels) 0 0
  unfolding whole
  all_worth m =
      let y = worth_behind-⊕ k m front.place (below front.under) (top_headed q.running q.least) 0 0 in
      sym (ap (λ (ls : Levels). worth_behind k m (whole ls) 0 0) front.same ∙ y)

  -- No way leads out of this level.
  pub run_stop : {old new : Notes} → Behind old new false → NotedRun q old new
  run_stop n =
      let le = q.least in
      noted_as (λ m x. worth_behind k m (whole q.running.levels) 0 0) (λ m h x. all_worth m) (omega arith) (omega arith)
      (noted_stop (λ m x. worth k m (below front.under) 0 0) n)

  -- What lies under it is worth nothing.
  run_end : {old new : Notes} → ((m : Block → ℕ) → worth k m (below front.under) 0 0 ≡ 0) → Behind old new true → NotedRun q old new
  run_end z n =
      let le = q.least in
      noted_as (λ m x. worth_behind k m (whole q.running.levels) 0 0)
      (λ m h x. ap (λ y. worth_behind k m front.place (still k (below front.under) 0) y) (sym (z m)) ∙ all_worth m) (omega arith) (omega arith)
      (noted_end true n)

  -- The outermost level.
  pub run_out : {old new : Notes} → l ≡ 1 → Behind old new true → NotedRun q old new
  run_out z n = run_end (λ m. worth_bottom k m front.under (omega (arith, front.depth))) n

  module _ (h : 2 ≤ l) where
    -- An open loop comes back to its condition.
    pub run_loop : {old new : Notes} → kind_at w (get_or leaves (l - 1) 0) ≡ 2 → Behind old new true → NotedRun q old new
    run_loop two n =
        let t = head q.running q.least h in
        let (a, body, r, y) = head_loop q.running q.least h two in
        let p = head_point q.running q.least h in
        run_end (λ m. ap (λ (ls : Levels). worth k m (below ls) 0 0) t.same ∙ worth_back_loop k m _ a body r t.place t.under y p) n

    -- Through a call it goes on.
    pub run_call : {old mid new : Notes} → (kind_at w (get_or leaves (l - 1) 0) ≡ 2 → ⊥) → Behind old mid true →
        ((z : PricedRun c leaves (l - 1)) → NotedRun z mid new) → NotedRun q old new
    run_call nay n y =
        let t = head q.running q.least h in
        let (fun, r, z) = head_call q.running q.least h nay in
        let u : (m : Block → ℕ) → worth_behind k m (whole front.under) 0 0 ≡ worth k m (below front.under) 0 0 =
        λ m.
        let v = worth_back_call k m _ fun r t.place t.under z in
        sym (ap (λ (ls : Levels). worth k m (below ls) 0 0) t.same ∙ v ∙ ap (λ (ls : Levels). worth_behind k m (whole ls) 0 0) (sym t.same)) in
        noted_as (λ m x. worth_behind k m (whole q.running.levels) 0 0)
        (λ m a x. ap (λ y. worth_behind k m front.place (still k (below front.under) 0) y) (u m) ∙ all_worth m) (omega arith) (omega arith)
        (noted_then n (y (priced_lower q h)))

-- Room for what lies behind the leaf.
module _ {c : PricedCode} {leaves : List ℕ} {l : ℕ} {z : Notes} (r : RunRoom c leaves l z) where
  abbrev run : PricedRun c leaves l
  run = r.run

  pub room_level : {i e s : ℕ} → i ≡ level_from c.code leaves l → e ≡ level_to c.code leaves l → s ≤ l * limit → RoomBehind c i e (get_or leaves l 0) s z
  room_level {i} {e} {s} hi he le =
      let h = level_priced run hi he in
      let lv = (at_top run).level in
      let most = run.most in
      let least = run.least in
      record {
        forms = record { held = h; few = omega (arith, h.within, r.few); room = omega (arith, r.room, h.small); sums = omega (arith, h.small) };
        start = lv.start;
        found = sym (ap (λ (f : Forms). suffix f (get_or leaves l 0)) (level_spanned run hi he).same) ∙ lv.found;
      }

  pub room_lower : {mid : Notes} {b : Bool} (h : 2 ≤ l) → Behind run z mid b → RunRoom c leaves (l - 1) mid
  room_lower h n = record { run = priced_lower run h; few = r.few; room = omega (arith, r.room, n.low) }
