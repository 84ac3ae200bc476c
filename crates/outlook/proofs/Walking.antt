-- The walk over the records of forms, record by record. Plain mathematics: no code is named here. Assumes nothing.
use mathlib.Core.Path.{◌≡◌, refl, sym, ap, ◌∙◌}
use mathlib.Core.Bool.{Bool, true, false, ◌&&◌, and_assoc, and-true}
use mathlib.Core.List.{List}
use Prim.Native.Nat.{ℕ, suc, ◌+◌, ◌-◌, ◌*◌, ◌≤◌, ◌<◌, max}
use native.Mathlib.Omega.{arith}
use lib.ListN.{get_or}
use borrow.Author.Tests.{eq-eqb, ne_eqb}
use Rattle.std.specs.Prelude.{Some, None}
use Rattle.model.specs.Plan.{Block, Lines, close, leaf_line, call_line, loop_line, if_line}
use Rattle.model.specs.Forms.{Forms, done, forms}
use Rattle.model.specs.Total.{total}
use Rattle.model.specs.Places.{no_more}
use Rattle.rows.specs.declared.PricedCode.{PricedCode}
use Rattle.rows.specs.Leaves.{numbers}
use Rattle.rows.specs.Costs.{limit, cost_in, lent_turns_in}
use Rattle.rows.specs.Rows.{kind_at, point_at, detail_at, other_at, after_at, block_at, Rep}
use Rattle.rows.specs.First.{rest}
use Rattle.rows.proofs.Shape.{call_at, loop_at, ends, parts, no_lines, then_in, else_in}
use Rattle.place.specs.Spans.{first_form}
use Rattle.place.proofs.Shape.{cond_at, piece_after}
use Rattle.outlook.specs.declared.Quiet.{Quiet}
use Rattle.outlook.specs.Quiets.{IsQuiet, still, QuietForms, PricedForms, priced_forms}
use Rattle.outlook.specs.Quiets.{Low, beyond, mute_beyond}
use Rattle.outlook.specs.Private.{own, QuietParts}
use Rattle.outlook.proofs.Quieting.{hush_as, nothing, stop}

point_of : {b c : Block} → b ≡ c → b.point ≡ c.point
point_of e = ap (λ (b : Block). b.point) e

module _ (k : Block → ℕ) (w : List ℕ) (lv i e : ℕ) (G : List Forms) where
  -- At a point.
  still_point : (l : Lines) (s : ℕ) → Rep w lv i e l → i < e → point_at w i ≡ 1 → (still k (forms G l) s ≡ 0) × (no_more (forms G l) ≡ false)
  unfolding Rep forms still no_more
  still_point close s h lt q = absurd (omega arith)
  still_point (leaf_line b r) s h lt q = let z : b.point ≡ true = point_of h.0.1 ∙ eq-eqb (point_at w i) 1 q in rw z (refl, refl)
  still_point (call_line b f r) s h lt q = let z : b.point ≡ true = point_of h.0.1 ∙ eq-eqb (point_at w i) 1 q in rw z (refl, refl)
  still_point (loop_line b n body r) s h lt q = let z : b.point ≡ true = point_of h.0.1 ∙ eq-eqb (point_at w i) 1 q in rw z (refl, refl)
  still_point (if_line b t f r) s h lt q = let z : b.point ≡ true = point_of h.0.1 ∙ eq-eqb (point_at w i) 1 q in rw z (refl, refl)

  -- At a silent form.
  still_step : (l : Lines) (s : ℕ) → Rep w lv i e l → i < e → (point_at w i ≡ 1 → ⊥) →
      (still k (forms G l) s ≡ own k (forms G l) + beyond k (first_form (forms G l)) (still k (forms G (rest l)) s)) ×
      (no_more (forms G l) ≡ (mute_beyond (first_form (forms G l)) && no_more (forms G (rest l))))
  unfolding Rep forms still no_more own first_form beyond mute_beyond rest
  still_step close s h lt q = absurd (omega arith)
  still_step (leaf_line b r) s h lt q = let z : b.point ≡ false = point_of h.0.1 ∙ ne_eqb (point_at w i) 1 q in rw z (refl, refl)
  still_step (call_line b f r) s h lt q = let z : b.point ≡ false = point_of h.0.1 ∙ ne_eqb (point_at w i) 1 q in rw z (refl, refl)
  still_step (loop_line b n body r) s h lt q = let z : b.point ≡ false = point_of h.0.1 ∙ ne_eqb (point_at w i) 1 q in rw z (refl, refl)
  still_step (if_line b t f r) s h lt q =
      let z : b.point ≡ false = point_of h.0.1 ∙ ne_eqb (point_at w i) 1 q in
      let T = no_more (forms G t) in
      let F = no_more (forms G f) in
      rw z (refl, sym (ap (λ x. x && no_more (forms G r)) (and-true (T && F)) ∙ and_assoc T F (no_more (forms G r))))

pub total_step : (k : Block → ℕ) (G : List Forms) (l : Lines) →
    (total k (forms G l) ≡ total k (first_form (forms G l)) + total k (forms G (rest l))) × (own k (forms G l) ≤ total k (first_form (forms G l)))
unfolding forms total own first_form rest
total_step k G close = (refl, omega arith)
total_step k G (leaf_line b r) = (omega arith, omega arith)
total_step k G (call_line b f r) = (omega arith, omega arith)
total_step k G (loop_line b n body r) = (omega arith, omega arith)
total_step k G (if_line b t f r) = (omega arith, omega arith)

-- By the shape of the lines.
own_call : (k : Block → ℕ) (G : List Forms) (l : Lines) (b : Block) (f : ℕ) (r : Lines) → l ≡ call_line b f r → own k (forms G l) ≡ k b + total k (get_or G f done)
unfolding forms own
own_call k G l b f r e = ap (λ (l : Lines). own k (forms G l)) e

own_loop : (k : Block → ℕ) (G : List Forms) (l : Lines) (b : Block) (n : ℕ) (body r : Lines) → l ≡ loop_line b n body r → own k (forms G l) ≡ k b + n * (total k (forms G body) + k b)
unfolding forms own
own_loop k G l b n body r e = ap (λ (l : Lines). own k (forms G l)) e

own_other : (k : Block → ℕ) (w : List ℕ) (lv i e : ℕ) (G : List Forms) (l : Lines) → Rep w lv i e l → i < e → (kind_at w i ≡ 1 → ⊥) → (kind_at w i ≡ 2 → ⊥) → own k (forms G l) ≡ k (block_at w i)
unfolding Rep forms own
own_other k w lv i e G close h lt a b = absurd (omega arith)
own_other k w lv i e G (leaf_line b r) h lt x y = ap k h.0.1
own_other k w lv i e G (call_line b f r) h lt x y = absurd (x h.0.0)
own_other k w lv i e G (loop_line b n body r) h lt x y = absurd (y h.0.0)
own_other k w lv i e G (if_line b t f r) h lt x y = ap k h.0.1

pub parts_if : (k : Block → ℕ) (G : List Forms) (l : Lines) (b : Block) (t s r : Lines) → l ≡ if_line b t s r →
    ((e : ℕ) → beyond k (first_form (forms G l)) e ≡ max (still k (forms G t) e) (still k (forms G s) e)) × (mute_beyond (first_form (forms G l)) ≡ (no_more (forms G t) && no_more (forms G s))) ×
    (total k (first_form (forms G l)) ≡ own k (forms G l) + max (total k (forms G t)) (total k (forms G s)))
unfolding forms first_form own total beyond mute_beyond still no_more
parts_if k G l b t s r e = rw e ((λ x. refl), and-true (no_more (forms G t) && no_more (forms G s)), omega arith)

parts_flat : (k : Block → ℕ) (w : List ℕ) (lv i e : ℕ) (G : List Forms) (l : Lines) → Rep w lv i e l → i < e → (kind_at w i ≡ 3 → ⊥) →
    ((s : ℕ) → beyond k (first_form (forms G l)) s ≡ s) × (mute_beyond (first_form (forms G l)) ≡ true)
unfolding Rep forms first_form beyond mute_beyond still no_more
parts_flat k w lv i e G close h lt q = absurd (omega arith)
parts_flat k w lv i e G (leaf_line b r) h lt q = ((λ s. refl), refl)
parts_flat k w lv i e G (call_line b f r) h lt q = ((λ s. refl), refl)
parts_flat k w lv i e G (loop_line b n body r) h lt q = ((λ s. refl), refl)
parts_flat k w lv i e G (if_line b t s r) h lt q = absurd (q h.0.0)

-- What holds of the forms between two records, by the same records.
pub between : {c : PricedCode} {i e j f : ℕ} (P : Forms → Type 0) → i ≡ j → e ≡ f → ((h : PricedForms c i e) → P (priced_forms h)) → (h : PricedForms c j f) → P (priced_forms h)
between P hi he u h =
    u (record {
      room = omega (arith, h.room, he);
      left = h.left;
      functions = h.functions;
      piece = record { heights = h.piece.heights; level = h.piece.level; part = rw (hi, he) h.piece.part };
      records = h.records;
      within = omega (arith, h.within, he);
      loads = h.loads;
      small = h.small;
    })

module _ {c : PricedCode} {i e : ℕ} (lt : i < e) (p : PricedForms c i e) where
  abbrev k : Block → ℕ
  k = cost_in c.cost

  abbrev w : List ℕ
  w = numbers c.code.row.now

  abbrev G : List Forms
  G = p.functions

  abbrev here : Lines
  here = p.piece.part.lines

  pub step_small : total k (first_form (priced_forms p)) ≤ limit
  step_small = omega (arith, total_step k G here, p.small)

  pub own_small : own k (priced_forms p) ≤ total k (first_form (priced_forms p))
  own_small = (total_step k G here).1

  -- The sum of a silent form.
  pub weight_call : {x f : ℕ} → x ≡ k (block_at w i) → kind_at w i ≡ 1 → f ≡ detail_at w i → (x + get_or c.totals.now f 0 ≡ own k (priced_forms p)) × (f < 16)
  weight_call {x} {f} hx one hf =
      let h = call_at lt p.piece.part {v = kind_at w i} refl one in
      let s = p.loads.called i (omega (arith, p.within)) one in
      (omega (arith, hx, s, ap (λ z. get_or c.totals.now z 0) hf, own_call k G here _ _ _ h.shape), omega (arith, h.target))

  pub weight_loop : {x b y : ℕ} → x ≡ k (block_at w i) → kind_at w i ≡ 2 → b ≡ detail_at w i → y ≡ get_or (lent_turns_in c.cost c.code.row.now) i 0 → x + b * y ≡ own k (priced_forms p)
  weight_loop {x} {b} {y} hx two hb hy =
      let h = loop_at lt p.piece.part {v = kind_at w i} refl two in
      let s = p.loads.looped i (omega (arith, p.within)) two (p.left - 1) (record { heights = p.piece.heights; level = suc p.piece.level; part = h.body }) in
      let t = total k (forms G h.body.lines) in
      let z : y ≡ t + k (block_at w i) = omega (arith, hy, s) in
      let d : x + b * y ≡ k (block_at w i) + detail_at w i * (t + k (block_at w i)) = rw (hx, hb, z) refl in
      d ∙ sym (own_loop k G here _ _ _ _ h.shape)

  pub weight_other : {x : ℕ} → x ≡ k (block_at w i) → (kind_at w i ≡ 1 → ⊥) → (kind_at w i ≡ 2 → ⊥) → x ≡ own k (priced_forms p)
  weight_other hx a b = hx ∙ sym (own_other k w p.piece.level i e G here p.piece.part.rep lt a b)

  -- The parts of an if.
  unfoldable pub priced_then : {mid : ℕ} → kind_at w i ≡ 3 → mid ≡ other_at w i → PricedForms c (i + 1) mid × (i < mid) × (mid ≤ e)
  priced_then {mid} three hm =
      let h = cond_at lt p.piece three in
      let d = parts {en = after_at w i} hm refl h in
      let z = ends lt p.piece.part in (
        record {
          room = omega (arith, p.room, d, z);
          left = p.left - 2;
          functions = G;
          piece = record { heights = p.piece.heights; level = p.piece.level; part = then_in hm h };
          records = p.records;
          within = omega (arith, p.within, d, z);
          loads = p.loads;
          small = omega (arith, p.small, total_step k G here, (parts_if k G here _ _ _ _ h.shape).2);
        },
        d.0,
        omega (arith, d, z),
      )

  unfoldable pub priced_else : {mid en : ℕ} → kind_at w i ≡ 3 → mid ≡ other_at w i → en ≡ after_at w i → PricedForms c mid en × (i < mid) × (en ≤ e)
  priced_else {mid} {en} three hm he =
      let h = cond_at lt p.piece three in
      let d = parts hm he h in
      let z = ends lt p.piece.part in (
        record {
          room = omega (arith, p.room, he, z);
          left = p.left - 2;
          functions = G;
          piece = record { heights = p.piece.heights; level = p.piece.level; part = else_in hm he h };
          records = p.records;
          within = omega (arith, p.within, he, z);
          loads = p.loads;
          small = omega (arith, p.small, total_step k G here, (parts_if k G here _ _ _ _ h.shape).2);
        },
        d.0,
        omega (arith, he, z),
      )

  -- The forms after the first.
  unfoldable pub priced_after : {en : ℕ} → en ≡ after_at w i → PricedForms c en e
  priced_after he =
      record {
        room = p.room;
        left = p.left;
        functions = G;
        piece = piece_after lt p.piece he;
        records = p.records;
        within = p.within;
        loads = p.loads;
        small = omega (arith, p.small, total_step k G here);
      }

  pub inside_flat : (kind_at w i ≡ 3 → ⊥) → QuietParts (record { hit = 0; pass = Some 0; mute = true }) k (priced_forms p)
  inside_flat three =
      let (a, b) = parts_flat k w p.piece.level i e G here p.piece.part.rep lt three in
      hush_as (λ s. beyond k (first_form (forms G here)) s) nothing (λ s. sym (a s)) (sym b) (omega arith)

  pub inside_if : {mid en : ℕ} {x y r : Quiet} (three : kind_at w i ≡ 3) (hm : mid ≡ other_at w i) (he : en ≡ after_at w i)
      → ((h : PricedForms c (i + 1) mid) → QuietForms x k (priced_forms h)) → ((h : PricedForms c mid en) → QuietForms y k (priced_forms h))
      → ((f g : ℕ → ℕ) (i j : Bool) (a b : ℕ) → IsQuiet x f i a → IsQuiet y g j b → IsQuiet r (λ s. max (f s) (g s)) (i && j) (max a b))
      → QuietParts r k (priced_forms p)
  unfolding priced_then priced_else
  inside_if three hm he hx hy hr =
      let h = cond_at lt p.piece three in
      let (a, b, d) = parts_if k G here _ _ _ _ h.shape in
      hush_as (λ s. beyond k (first_form (forms G here)) s) (hr _ _ _ _ _ _ (hx (priced_then three hm).0) (hy (priced_else three hm he).0)) (λ s. sym (a s)) (sym b) (omega (arith, d))

-- What a walk over the siblings has done.
pub record Scanning (c : PricedCode) (i e : ℕ) (acc : Quiet) (f : ℕ → ℕ) (j : Bool) (m : ℕ) : Type 0 where
  pub more : PricedForms c i e
  pub before : ℕ → ℕ
  pub quiet : Bool
  pub sum : ℕ
  pub hush : IsQuiet acc before quiet sum
  pub says : (s : ℕ) → before (still (cost_in c.cost) (priced_forms more) s) ≡ f s
  pub mute : (quiet && no_more (priced_forms more)) ≡ j
  pub all : sum + total (cost_in c.cost) (priced_forms more) ≡ m

pub scan_start : {c : PricedCode} {i e : ℕ} (p : PricedForms c i e) →
    Scanning c i e (record { hit = 0; pass = Some 0; mute = true }) (λ s. still (cost_in c.cost) (priced_forms p) s) (no_more (priced_forms p)) (total (cost_in c.cost) (priced_forms p))
scan_start p = record { more = p; before = λ s. s; quiet = true; sum = 0; hush = nothing; says = λ s. refl; mute = refl; all = omega arith }

module _ {c : PricedCode} {i e : ℕ} {acc : Quiet} {f : ℕ → ℕ} {j : Bool} {m : ℕ} (h : Scanning c i e acc f j m) where
  abbrev cost : Block → ℕ
  cost = cost_in c.cost

  abbrev row : List ℕ
  row = numbers c.code.row.now

  abbrev further : Lines
  further = h.more.piece.part.lines

  abbrev left_over : Forms
  left_over = priced_forms h.more

  abbrev first : Forms
  first = first_form left_over

  pub scan_low : m ≤ limit → Low acc
  scan_low l = record { hit = omega (arith, h.hush.hit, h.all); pass = λ x z. omega (arith, h.hush.pass x z, h.all) }

  -- At a point.
  pub scan_point : {v : ℕ} {r : Quiet} → i < e → v ≡ point_at row i → v ≡ 1 →
      ((f g : ℕ → ℕ) (i j : Bool) (a b : ℕ) → IsQuiet acc f i a → IsQuiet (record { hit = 0; pass = None; mute = false }) g j b → IsQuiet r (λ s. f (g s)) (i && j) (a + b)) → IsQuiet r f j m
  scan_point {v} {r} lt hv v1 hr =
      let z : (s : ℕ) → (still cost left_over s ≡ 0) × (no_more left_over ≡ false) =
      λ s. still_point cost row h.more.piece.level i e h.more.functions further s h.more.piece.part.rep lt (sym hv ∙ v1) in
      hush_as f (hr _ _ _ _ _ _ h.hush stop) (λ s. ap h.before (sym (z s).0) ∙ h.says s) (ap (λ u. h.quiet && u) (sym (z 0).1) ∙ h.mute) (omega (arith, h.all))

  -- Past a silent form.
  pub scan_next : {v y en : ℕ} {u q x r : Quiet} (lt : i < e) → v ≡ point_at row i → (v ≡ 1 → ⊥) → en ≡ after_at row i
      → y ≡ own cost left_over
      → IsQuiet u (λ s. y + s) true y
      → QuietParts q cost left_over
      → ((f g : ℕ → ℕ) (i j : Bool) (a b : ℕ) → IsQuiet u f i a → IsQuiet q g j b → IsQuiet x (λ s. f (g s)) (i && j) (a + b))
      → ((f g : ℕ → ℕ) (i j : Bool) (a b : ℕ) → IsQuiet acc f i a → IsQuiet x g j b → IsQuiet r (λ s. f (g s)) (i && j) (a + b))
      → Scanning c en e r f j m
  unfolding priced_after rest
  scan_next {v} {y} {en} {u} {q} {x} {r} lt hv v1 he hy hu hq hx hr =
      let others = forms h.more.functions (rest further) in
      let z : (s : ℕ) → (still cost left_over s ≡ own cost left_over + beyond cost first (still cost others s)) × (no_more left_over ≡ (mute_beyond first && no_more others)) =
      λ s. still_step cost row h.more.piece.level i e h.more.functions further s h.more.piece.part.rep lt (λ u. v1 (hv ∙ u)) in
      record {
        more = priced_after lt h.more he;
        before = λ s. h.before (y + beyond cost first s);
        quiet = h.quiet && mute_beyond first;
        sum = h.sum + (y + (total cost first - own cost left_over));
        hush = hr _ _ _ _ _ _ h.hush (hx _ _ _ _ _ _ hu hq);
        says = λ s. ap h.before (ap (λ u. u + beyond cost first (still cost others s)) hy ∙ sym (z s).0) ∙ h.says s;
        mute = and_assoc h.quiet (mute_beyond first) (no_more others) ∙ ap (λ u. h.quiet && u) (sym (z 0).1) ∙ h.mute;
        all = omega (arith, h.all, total_step cost h.more.functions further, hy);
      }

  pub scan_end : e ≤ i → IsQuiet acc f j m
  unfolding forms still no_more total
  scan_end le =
      let z : further ≡ close = no_lines le h.more.piece.part in
      hush_as f h.hush (λ s. ap (λ (l : Lines). h.before (still cost (forms h.more.functions l) s)) (sym z) ∙ h.says s)
      (sym (and-true h.quiet) ∙ ap (λ (l : Lines). h.quiet && no_more (forms h.more.functions l)) (sym z) ∙ h.mute)
      (omega (arith, h.all))
