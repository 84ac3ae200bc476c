-- All functions: silences, and stretches from the last to the first, within the limit. Assumes nothing.
use mathlib.Core.Path.{◌≡◌, refl, ap, ◌∙◌}
use mathlib.Core.List.{List, [], ◌∷◌}
use Rattle.std.specs.Prelude.{None, false}
use mathlib.Core.Logic.{◌⊎◌, inl, inr}
use Prim.Native.Nat.{ℕ, zero, suc, ◌+◌, ◌-◌, ◌≤◌, ◌<◌, max}
use native.Mathlib.Omega.{arith}
use native.Mathlib.Decide.{dec_lt}
use lib.ListN.{length, get_or, set, replicate, length-set}
use lib.Seq.{sets, get_or-set_same, get_or-set_other}
use Rattle.model.specs.Plan.{Block, Lines, close, leaf_line, call_line, loop_line, if_line}
use Rattle.model.specs.Total.{tally}
use Rattle.model.specs.Static.{line_silence}
use Rattle.rows.specs.Rows.{Rules}
use Rattle.rows.specs.Plans.{lines_of}
use Rattle.rows.proofs.Plans.{plan_rules, heights_before}
use Rattle.rows.specs.declared.PricedCode.{PricedCode}
use Rattle.outlook.specs.declared.Quiet.{Quiet}
use Rattle.rows.specs.Costs.{limit, cost_in}
use Rattle.outlook.specs.Quiets.{quiet_sum, QuietForms, PricedForms, priced_forms}
use Rattle.stretches.specs.Private.{head_at, WithinLimits}
use Rattle.stretches.proofs.Silences.{silence_is, silence_within}
use Rattle.columns.specs.Columns.{column_of}
use Rattle.stretches.specs.Stretches.{stretch_rule, follow_call, follow_calls, follows_after, stretches_written, PricedSummed}
use Rattle.columns.specs.Whole.{Summed}
use Rattle.columns.proofs.Sizes.{round_le}
use Rattle.stretches.proofs.Widening.{silence_le}
use Rattle.columns.proofs.Functions.{zeros_at}

-- What follows a function and its own total are within the limit.
set_at : {A : Type 0} (d : A) (a : List A) (f : ℕ) (v : A) (g : ℕ) → (get_or (set a f v) g d ≡ get_or a g d) ⊎ ((g ≡ f) × (get_or (set a f v) g d ≡ v))
set_at d [] f v g = inl refl
set_at d (x ∷ a) zero v zero = inr (refl, refl)
set_at d (x ∷ a) zero v (suc g) = inl refl
set_at d (x ∷ a) (suc f) v zero = inl refl
set_at d (x ∷ a) (suc f) v (suc g) = elim (set_at d a f v g) [ inl e ↦ inl e | inr e ↦ inr (ap suc e.0, e.1) ]

abbrev FollowsFit : List ℕ → ℕ → List ℕ → Type 0
FollowsFit ms n a = (g : ℕ) → g < n → get_or a g 0 + get_or ms g 0 ≤ limit

follow_fits : (ms : List ℕ) (n f s : ℕ) (a : List ℕ) → FollowsFit ms n a → s + get_or ms f 0 ≤ limit → FollowsFit ms n (follow_call a f s)
follow_fits ms n f s a h le g lt = elim (set_at 0 a f (max (get_or a f 0) s) g) [
  | inl e ↦ omega (arith, e, h g lt)
  | inr e ↦
      let o = ap (λ u. get_or a u 0) e.0 in
      let o' = ap (λ u. get_or ms u 0) e.0 in
      omega (arith, e.1, o, o', h g lt)
]

follow_calls_fits : (k : Block → ℕ) (ms hs : List ℕ) (n left v : ℕ) (l : Lines) (s : ℕ) (a : List ℕ) → Rules hs left v l → FollowsFit ms n a → tally k ms l + s ≤ limit → FollowsFit ms n (follow_calls k ms l s a)
unfolding follow_calls tally Rules
follow_calls_fits k ms hs n left v close s a q h le = h
follow_calls_fits k ms hs n left v (leaf_line b r) s a q h le = follow_calls_fits k ms hs n left v r s a q.2 h (omega arith)
follow_calls_fits k ms hs n left v (call_line b f r) s a q h le =
    follow_fits ms n f (line_silence k ms r s) (follow_calls k ms r s a) (follow_calls_fits k ms hs n left v r s a q.4 h (omega arith)) (omega (arith, silence_le k ms r s))
follow_calls_fits k ms hs n left v (loop_line b m body r) s a q h le =
    follow_calls_fits k ms hs n (left - 1) (suc v) body 0 (follow_calls k ms r s a) q.5 (follow_calls_fits k ms hs n left v r s a q.6 h (omega arith))
    (omega (arith, round_le m (tally k ms body) (k b) q.1))
follow_calls_fits k ms hs n left v (if_line b t e r) s a q h le =
    let x = line_silence k ms r s in
    follow_calls_fits k ms hs n (left - 2) v e x (follow_calls k ms t x (follow_calls k ms r s a)) q.4
    (follow_calls_fits k ms hs n (left - 2) v t x (follow_calls k ms r s a) q.3 (follow_calls_fits k ms hs n left v r s a q.5 h (omega arith)) (omega (arith, silence_le k ms r s)))
    (omega (arith, silence_le k ms r s))

module _ {k : Block → ℕ} {w starts ms p : List ℕ} {n : ℕ} (v : Summed k w starts n ms p) where
  follows_fits : (j : ℕ) → j ≤ n → (g : ℕ) → g < n → get_or (follows_after k ms (lines_of v.plan) n j) g 0 + get_or ms g 0 ≤ limit
  unfolding follows_after
  follows_fits zero h g lt = omega (arith, zeros_at 16 g, v.exact.small g lt)
  follows_fits (suc j) h g lt =
      let f : n - suc j < n = omega arith in
      let F = lines_of v.plan in
      follow_calls_fits k ms (heights_before v.plan (n - suc j)) n 62 1 (F (n - suc j)) (get_or (follows_after k ms F n j) (n - suc j) 0) (follows_after k ms F n j) (plan_rules v.plan (n - suc j) f)
      (follows_fits j (omega arith)) (omega (arith, follows_fits j (omega arith) (n - suc j) f, v.exact.total (n - suc j) f)) g lt

-- The loop over the functions: f of them are still to come.
pub record Driving (k : Block → ℕ) (w starts ms p : List ℕ) (n : ℕ) (q : ℕ → ℕ → ℕ) (v : Summed k w starts n ms p) (f : ℕ) (a o o₀ : List ℕ) : Type 0 where
  pub follows_are : a ≡ follows_after k ms (lines_of v.plan) n (n - f)
  pub written : o ≡ stretches_written k ms q (lines_of v.plan) starts n (n - f) o₀

pub drive_start : {k : Block → ℕ} {w starts ms p : List ℕ} {n : ℕ} {q : ℕ → ℕ → ℕ} (v : Summed k w starts n ms p) (o : List ℕ) → Driving k w starts ms p n q v n (replicate 16 0) o o
unfolding follows_after stretches_written
drive_start {n = n} v o = let e : n - n ≡ 0 = omega arith in record { follows_are = rw e; written = rw e }

pub drive_fits : {k : Block → ℕ} {w starts ms p : List ℕ} {n f : ℕ} {q : ℕ → ℕ → ℕ} {v : Summed k w starts n ms p} {a o o₀ : List ℕ} → Driving k w starts ms p n q v f a o o₀
    → (g : ℕ) → g < n → get_or a g 0 + get_or ms g 0 ≤ limit
drive_fits {ms = ms} {n = n} {f = f} {v = v} d g lt = omega (arith, ap (λ u. get_or u g 0) d.follows_are, follows_fits v (n - f) (omega arith) g lt)

pub drive_on : {k : Block → ℕ} {w starts ms p : List ℕ} {n f g : ℕ} {q : ℕ → ℕ → ℕ} {v : Summed k w starts n ms p} {a a' o o' o₀ : List ℕ} → 0 < f → f ≤ n → g ≡ f - 1
    → o' ≡ sets o (get_or starts g 0) (column_of (stretch_rule k ms q) (lines_of v.plan g) (get_or a g 0))
    → a' ≡ follow_calls k ms (lines_of v.plan g) (get_or a g 0) a
    → Driving k w starts ms p n q v f a o o₀ → Driving k w starts ms p n q v g a' o' o₀
unfolding follows_after stretches_written
drive_on {k} {w} {starts} {ms} {p} {n} {f} {g} {q} {v} {a} {a'} {o} {o'} {o₀} h l e y x d =
    let e₁ : n - g ≡ suc (n - f) = omega arith in
    let e₂ : n - suc (n - f) ≡ g = omega arith in
    record {
      follows_are = rw (e₁, e₂) (rw d.follows_are at x);
      written = rw (e₁, e₂) (rw (d.follows_are, d.written) at y);
    }

pub driven : {k : Block → ℕ} {w starts ms p : List ℕ} {n f : ℕ} {q : ℕ → ℕ → ℕ} {v : Summed k w starts n ms p} {a o o₀ : List ℕ} → f ≤ 0
    → Driving k w starts ms p n q v f a o o₀ → o ≡ stretches_written k ms q (lines_of v.plan) starts n n o₀
driven {n = n} {f = f} h d = let e : n - f ≡ n = omega arith in rw e at d.written

-- Silences of functions: the first f of them are there.
pub record Keeping (c : PricedCode) (f : ℕ) (h : List Quiet) : Type 0 where
  pub wide : length h ≡ 16
  pub under : WithinLimits h
  pub right : (v : PricedSummed c) (g s : ℕ) → g < f → quiet_sum (head_at h g) s ≡ line_silence (cost_in c.cost) c.totals.now (lines_of v.plan g) s

pub keep_on : {c : PricedCode} {f : ℕ} {h : List Quiet} {q : Quiet} → f < c.code.functions → c.code.functions ≤ 16 → PricedSummed c
    → ((z : PricedForms c (get_or c.code.bounds.now f 0) (get_or c.code.bounds.now (f + 1) 0)) → QuietForms q (cost_in c.cost) (priced_forms z))
    → Keeping c f h → Keeping c (f + 1) (set h f q)
keep_on {c} {f} {h} {q} lt few v₀ hq r =
    let d : Quiet = record { hit = 0; pass = None; mute = false } in
    record {
      wide = length-set h f q ∙ r.wide;
      under = λ g. elim (set_at d h f q g) [ inl e ↦ rw e (r.under g) | inr e ↦ rw e.1 (silence_within c v₀ f lt hq) ];
      right = λ v g s l. elim (dec_lt g f) [
        | yes j ↦ rw (get_or-set_other h f g q d (omega arith)) (r.right v g s j)
        | no j ↦
            let e : g ≡ f = omega arith in
            rw (e, get_or-set_same h f q d (omega (arith, r.wide))) (silence_is c v f lt hq s)
      ];
    }
