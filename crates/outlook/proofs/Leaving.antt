-- The walk behind a leaf of a level, record by record. Plain mathematics: no code is named here. Assumes nothing.
use mathlib.Core.Path.{◌≡◌, refl, sym, ap, ◌∙◌}
use mathlib.Core.Bool.{Bool, ◌&&◌, and_assoc}
use mathlib.Core.List.{List}
use mathlib.Core.Option.{none, some}
use Prim.Native.Nat.{ℕ, zero, suc, ◌+◌, ◌*◌, ◌≤◌, ◌<◌, max}
use native.Mathlib.Omega.{arith}
use Rattle.std.specs.Prelude.{Some, None}
use Rattle.std.specs.Prelude.{Option as RustOption}
use Rattle.model.specs.Plan.{Block, Lines}
use Rattle.model.specs.Forms.{Forms, done, leaf, call, loop, cond, forms, ◌⊕◌}
use Rattle.model.specs.Total.{total}
use Rattle.model.specs.Places.{pick, ◌⊕?◌, no_more}
use Rattle.model.specs.Stack.{suffix, turned}
use Rattle.model.proofs.Final.{no_more-⊕}
use Rattle.rows.specs.declared.PricedCode.{PricedCode}
use Rattle.rows.specs.Leaves.{numbers}
use Rattle.rows.specs.Costs.{cost_in}
use Rattle.rows.specs.Rows.{kind_at, other_at, after_at}
use Rattle.rows.specs.First.{rest}
use Rattle.place.specs.Spans.{first_form}
use Rattle.place.specs.Private.{Nonempty}
use Rattle.place.proofs.Shape.{cond_at}
use Rattle.place.proofs.Views.{turned_suc}
use Rattle.place.proofs.Suffixes.{suffix_headed, suffix_before, suffix_past, suffix_skip, suffix_first, first_own, first_flat, first_then, first_else}
use Rattle.outlook.specs.declared.Quiet.{Quiet}
use Rattle.outlook.specs.Quiets.{IsQuiet, still, QuietForms, PricedForms, priced_forms}
use Rattle.outlook.specs.Quiets.{Low, beyond, mute_beyond}
use Rattle.outlook.specs.Private.{QuietParts, QuietBehind}
use Rattle.outlook.proofs.Quieting.{hush_as, hush_shut, low_of}
use Rattle.outlook.proofs.Walking.{total_step, parts_if, priced_then, priced_else, priced_after}

-- ONE SEQUENCE BEHIND THE OTHER

module _ (k : Block → ℕ) where
  pub still-⊕ : (f g : Forms) (e : ℕ) → still k (f ⊕ g) e ≡ still k f (still k g e)
  unfolding still ◌⊕◌
  still-⊕ done g e = refl
  still-⊕ (leaf b r) g e = ap (λ x. pick b.point 0 (k b + x)) (still-⊕ r g e)
  still-⊕ (call b fun r) g e = ap (λ x. pick b.point 0 (k b + total k fun + x)) (still-⊕ r g e)
  still-⊕ (loop b n body r) g e = ap (λ x. pick b.point 0 (k b + n * (total k body + k b) + x)) (still-⊕ r g e)
  still-⊕ (cond b t s r) g e = ap (λ x. pick b.point 0 (k b + max (still k t x) (still k s x))) (still-⊕ r g e)

  pub beyond-⊕ : (f g : Forms) → Nonempty f → ((e : ℕ) → beyond k (f ⊕ g) e ≡ beyond k f (still k g e)) × (mute_beyond (f ⊕ g) ≡ (mute_beyond f && no_more g))
  unfolding beyond mute_beyond ◌⊕◌
  beyond-⊕ done g h = absurd h
  beyond-⊕ (leaf b r) g h = ((λ e. still-⊕ r g e), no_more-⊕ r g)
  beyond-⊕ (call b fun r) g h = ((λ e. still-⊕ r g e), no_more-⊕ r g)
  beyond-⊕ (loop b n body r) g h = ((λ e. still-⊕ r g e), no_more-⊕ r g)
  beyond-⊕ (cond b t s r) g h = (
    (λ e. ap (λ x. max (still k t x) (still k s x)) (still-⊕ r g e)),
    ap (λ x. (no_more t && no_more s) && x) (no_more-⊕ r g) ∙ sym (and_assoc (no_more t && no_more s) (no_more r) (no_more g)),
  )

  -- Visits of a loop do not change what comes when it is left.
  pub turned_beyond : (v : ℕ) (s g : Forms) → turned s v ≡ some g → ((e : ℕ) → beyond k s e ≡ beyond k g e) × (mute_beyond s ≡ mute_beyond g)
  unfolding turned beyond mute_beyond
  turned_beyond zero s g e = let q : s ≡ g = cc in ((λ x. ap (λ (f : Forms). beyond k f x) q), ap mute_beyond q)
  turned_beyond (suc v) s g e =
      let (b, n, m, body, r, d, z) = turned_suc v s g e in
      ((λ x. ap (λ (f : Forms). beyond k f x) d ∙ sym (ap (λ (f : Forms). beyond k f x) z)), ap mute_beyond d ∙ sym (ap mute_beyond z))

-- A part of a form, whose leaves are leaves of the form.
behind_part : (k : Block → ℕ) (f g : Forms) (p : ℕ) (r : RustOption Quiet) → suffix f p ≡ suffix g p → total k g ≤ total k f → QuietBehind r k g p → QuietBehind r k f p
behind_part k f g p None z le u = z ∙ u
behind_part k f g p (Some q) z le (s, d, u) = (s, z ∙ d, hush_as _ u (λ e. refl) refl le)

-- WITHIN A FORM

module _ {c : PricedCode} {i e : ℕ} (lt : i < e) (h : PricedForms c i e) (p : ℕ) where
  abbrev k : Block → ℕ
  k = cost_in c.cost

  abbrev w : List ℕ
  w = numbers c.code.row.now

  abbrev G : List Forms
  G = h.functions

  abbrev here : Lines
  here = h.piece.part.lines

  pub within_here : {q : Quiet} → p ≡ i → QuietParts q k (priced_forms h) → QuietBehind (Some q) k (first_form (priced_forms h)) p
  within_here z u = (first_form (priced_forms h), first_own w h.piece.level i e here G p h.piece.part.rep lt z, hush_as _ u (λ e. refl) refl (omega arith))

  pub within_flat : (p ≡ i → ⊥) → (kind_at w i ≡ 3 → ⊥) → QuietBehind None k (first_form (priced_forms h)) p
  within_flat ne three = first_flat w h.piece.level i e here G p h.piece.part.rep lt ne three

  -- In a part of the form.
  pub then_part : {mid : ℕ} (ne : p ≡ i → ⊥) (three : kind_at w i ≡ 3) (hm : mid ≡ other_at w i) → p < mid →
      (suffix (first_form (priced_forms h)) p ≡ suffix (priced_forms (priced_then lt h three hm).0) p) ×
      (total k (priced_forms (priced_then lt h three hm).0) ≤ total k (first_form (priced_forms h)))
  unfolding priced_then
  then_part ne three hm lo =
      let f = cond_at lt h.piece three in
      let z = suffix_before w h.piece.level (other_at w i) (after_at w i) f.else.lines G p f.else.rep (omega arith) in
      (first_then G p here _ _ _ _ f.shape ne z, omega (arith, (parts_if k G here _ _ _ _ f.shape).2))

  pub else_part : {mid en : ℕ} (ne : p ≡ i → ⊥) (three : kind_at w i ≡ 3) (hm : mid ≡ other_at w i) (he : en ≡ after_at w i) → mid ≤ p →
      (suffix (first_form (priced_forms h)) p ≡ suffix (priced_forms (priced_else lt h three hm he).0) p) ×
      (total k (priced_forms (priced_else lt h three hm he).0) ≤ total k (first_form (priced_forms h)))
  unfolding priced_else
  else_part ne three hm he ge =
      let f = cond_at lt h.piece three in
      let z = suffix_past w h.piece.level (i + 1) (other_at w i) f.then.lines G p f.then.rep (omega arith) in
      (first_else G p here _ _ _ _ f.shape ne z, omega (arith, (parts_if k G here _ _ _ _ f.shape).2))

  pub within_then : {mid : ℕ} (r : RustOption Quiet) (ne : p ≡ i → ⊥) (three : kind_at w i ≡ 3) (hm : mid ≡ other_at w i) → p < mid →
      ((x : PricedForms c (i + 1) mid) → QuietBehind r k (priced_forms x) p) → QuietBehind r k (first_form (priced_forms h)) p
  within_then r ne three hm lo u = let (z, le) = then_part ne three hm lo in behind_part k _ _ p r z le (u (priced_then lt h three hm).0)

  pub within_else : {mid en : ℕ} (r : RustOption Quiet) (ne : p ≡ i → ⊥) (three : kind_at w i ≡ 3) (hm : mid ≡ other_at w i) (he : en ≡ after_at w i) → mid ≤ p →
      ((x : PricedForms c mid en) → QuietBehind r k (priced_forms x) p) → QuietBehind r k (first_form (priced_forms h)) p
  within_else r ne three hm he ge u = let (z, le) = else_part ne three hm he ge in behind_part k _ _ p r z le (u (priced_else lt h three hm he).0)

-- ALONG THE SIBLINGS

-- p is not in what was passed.
pub record Going (c : PricedCode) (i e p : ℕ) (f : Forms) : Type 0 where
  pub more : PricedForms c i e
  pub same : suffix f p ≡ suffix (priced_forms more) p
  pub less : total (cost_in c.cost) (priced_forms more) ≤ total (cost_in c.cost) f

pub go_start : {c : PricedCode} {i e : ℕ} (p : ℕ) (h : PricedForms c i e) → Going c i e p (priced_forms h)
go_start p h = record { more = h; same = refl; less = omega arith }

pub go_before : {c : PricedCode} {i e p : ℕ} (h : PricedForms c i e) → p < i → suffix (priced_forms h) p ≡ none
go_before {c} {i} {e} {p} h lt = suffix_before (numbers c.code.row.now) h.piece.level i e h.piece.part.lines h.functions p h.piece.part.rep lt

module _ {c : PricedCode} {i e p : ℕ} {f : Forms} (h : Going c i e p f) where
  abbrev cost : Block → ℕ
  cost = cost_in c.cost

  abbrev row : List ℕ
  row = numbers c.code.row.now

  abbrev further : Lines
  further = h.more.piece.part.lines

  abbrev others : Forms
  others = forms h.more.functions (rest further)

  abbrev first : Forms
  first = first_form (priced_forms h.more)

  pub go_on : {en : ℕ} → i < e → en ≡ after_at row i → en ≤ p → Going c en e p f
  unfolding priced_after
  go_on lt he le =
      record {
        more = priced_after lt h.more he;
        same = h.same ∙ suffix_skip row h.more.piece.level i e further h.more.functions p h.more.piece.part.rep lt (omega arith);
        less = omega (arith, h.less, total_step cost h.more.functions further);
      }

  pub go_past : e ≤ i → i ≤ p → suffix f p ≡ none
  go_past le ge = h.same ∙ suffix_past row h.more.piece.level i e further h.more.functions p h.more.piece.part.rep (omega arith)

  -- The leaf is in the form at hand, if it is there.
  module _ {en : ℕ} (lt : i < e) (he : en ≡ after_at row i) (lo : p < en) where
    split : suffix f p ≡ suffix first p ⊕? others
    split = h.same ∙ suffix_first row h.more.piece.level i e further h.more.functions p h.more.piece.part.rep lt (omega arith)

    pub go_none : {r : RustOption Quiet} → r ≡ None → QuietBehind r cost first p → suffix f p ≡ none
    go_none z u = split ∙ ap (λ o. o ⊕? others) (rw z at u)

    pub go_low : {r : RustOption Quiet} {q : Quiet} → r ≡ Some q → QuietBehind r cost first p → Low q
    go_low z u = let (s, d, v) = rw z at u in low_of v (omega (arith, total_step cost h.more.functions further, h.more.small))

    -- What it is behind the leaf, once the other forms follow.
    joined : {q : Quiet} {m : ℕ} → (s : Forms) → suffix first p ≡ some s → IsQuiet q (λ x. beyond cost s (still cost others x)) (mute_beyond s && no_more others) m → m ≤ total cost f →
        QuietBehind (Some q) cost f p
    joined s d u le =
        let (a, b) = beyond-⊕ cost s others (suffix_headed first p s d) in
        (s ⊕ others, split ∙ ap (λ o. o ⊕? others) d, hush_as _ u (λ x. sym (a x)) (sym b) le)

    -- No way leads out of the form.
    pub go_shut : {r : RustOption Quiet} {q : Quiet} → r ≡ Some q → q.pass ≡ None → QuietBehind r cost first p → QuietBehind (Some q) cost f p
    go_shut z n u =
        let (s, d, v) = rw z at u in
        let l = total_step cost h.more.functions further in
        joined s d (hush_shut n _ _ (total cost first) (λ x. (_, refl)) (λ y. ap (λ z. z && no_more others) y) (omega arith) v) (omega (arith, l, h.less))

    -- Out of it and on.
    pub go_rest : {r : RustOption Quiet} {q x y : Quiet} → r ≡ Some q → QuietBehind r cost first p
        → ((z : PricedForms c en e) → QuietForms x cost (priced_forms z))
        → ((f g : ℕ → ℕ) (i j : Bool) (a b : ℕ) → IsQuiet q f i a → IsQuiet x g j b → IsQuiet y (λ s. f (g s)) (i && j) (a + b)) → QuietBehind (Some y) cost f p
    unfolding priced_after
    go_rest z u hx hy =
        let (s, d, v) = rw z at u in
        joined s d (hy _ _ _ _ _ _ v (hx (priced_after lt h.more he))) (omega (arith, total_step cost h.more.functions further, h.less))
