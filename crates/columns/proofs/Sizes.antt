-- Totals of the first form and of the others, by the kind of the record at hand. Assumes nothing.
use mathlib.Core.Path.{◌≡◌, refl, ap}
use mathlib.Core.List.{List}
use Prim.Native.Nat.{ℕ, zero, suc, ◌+◌, ◌-◌, ◌*◌, ◌≤◌, ◌<◌, max}
use native.Mathlib.Nat.{suc-mul}
use native.Mathlib.Omega.{arith}
use lib.ListN.{get_or}
use Rattle.model.specs.Plan.{Block, Lines, close, leaf_line, call_line, loop_line, if_line}
use Rattle.model.specs.Total.{tally}
use Rattle.std.specs.Prelude.{Some}
use Rattle.rows.specs.declared.Kind.{Kind}
use Rattle.rows.specs.declared.Kind.TheVariants.{Leaf, Call, Loop, If}
use Rattle.rows.specs.Kinds.{IsKind}
use Rattle.rows.specs.Rows.{field, block_at, Rep}
use Rattle.rows.specs.First.{rest}
use Rattle.rows.proofs.Shape.{LeafAt, CallAt, LoopAt, IfAt}
use Rattle.columns.specs.Sums.{lead}

pub tally_split : (k : Block → ℕ) (ts : List ℕ) (l : Lines) → tally k ts l ≡ lead k ts l + tally k ts (rest l)
unfolding tally lead rest
tally_split k ts close = refl
tally_split k ts (leaf_line b r) = refl
tally_split k ts (call_line b f r) = refl
tally_split k ts (loop_line b n body r) = refl
tally_split k ts (if_line b t e r) = refl

-- The first form's total, by kind.
module _ (k : Block → ℕ) (ts : List ℕ) where
  pub leaf_lead : {w : List ℕ} {l i : ℕ} {ls : Lines} → LeafAt w l i ls → lead k ts ls ≡ k (block_at w i)
  unfolding lead
  leaf_lead h = ap (lead k ts) h.shape

  pub call_lead : {w hs : List ℕ} {l i : ℕ} {ls : Lines} → CallAt w hs l i ls → lead k ts ls ≡ k (block_at w i) + get_or ts (field w i 4) 0
  unfolding lead
  call_lead h = ap (lead k ts) h.shape

  pub loop_lead : {w hs : List ℕ} {left l i : ℕ} {ls : Lines} (h : LoopAt w hs left l i ls) →
      lead k ts ls ≡ k (block_at w i) + field w i 4 * (tally k ts h.body.lines + k (block_at w i))
  unfolding lead
  loop_lead h = ap (lead k ts) h.shape

  pub if_lead : {w hs : List ℕ} {left l i : ℕ} {ls : Lines} (h : IfAt w hs left l i ls) →
      lead k ts ls ≡ k (block_at w i) + max (tally k ts h.then.lines) (tally k ts h.else.lines)
  unfolding lead
  if_lead h = ap (lead k ts) h.shape

-- A loop has at least one round.
pub round_le : (n x c : ℕ) → 1 ≤ n → x + c ≤ n * (x + c)
round_le zero x c h = absurd (omega arith)
round_le (suc n) x c h = omega (arith, suc-mul n (x + c))

pub round_back : (n t : ℕ) → 1 ≤ n → n * t ≡ (n - 1) * t + t
round_back zero t h = absurd (omega arith)
round_back (suc n) t h = let e : suc n - 1 ≡ n = omega arith in rw (e, suc-mul n t) (omega arith)

-- The kinds are 0 to 3.
pub rep_kind : (w : List ℕ) (v i e : ℕ) (l : Lines) → Rep w v i e l → i < e → field w i 0 ≤ 3
unfolding Rep
rep_kind w v i e close h lt = absurd (omega arith)
rep_kind w v i e (leaf_line b r) h lt = omega arith
rep_kind w v i e (call_line b f r) h lt = omega arith
rep_kind w v i e (loop_line b n body r) h lt = omega arith
rep_kind w v i e (if_line b t s r) h lt = omega arith

-- What a kind is not.
pub not_call : (k : Kind) {n : ℕ} → IsKind (Some k) n → (k ≡ Call → ⊥) → n ≡ 1 → ⊥
not_call Leaf h d e = absurd (omega arith)
not_call Call h d e = d refl
not_call Loop h d e = absurd (omega arith)
not_call If h d e = absurd (omega arith)

pub not_loop : (k : Kind) {n : ℕ} → IsKind (Some k) n → (k ≡ Loop → ⊥) → n ≡ 2 → ⊥
not_loop Leaf h d e = absurd (omega arith)
not_loop Call h d e = absurd (omega arith)
not_loop Loop h d e = d refl
not_loop If h d e = absurd (omega arith)

pub not_if : (k : Kind) {n : ℕ} → IsKind (Some k) n → (k ≡ If → ⊥) → n ≡ 3 → ⊥
not_if Leaf h d e = absurd (omega arith)
not_if Call h d e = absurd (omega arith)
not_if Loop h d e = absurd (omega arith)
not_if If h d e = d refl
