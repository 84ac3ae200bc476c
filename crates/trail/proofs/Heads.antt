-- What an extent opens with, and whether there is a choice behind that visit. Plain mathematics: no code is named here. Assumes nothing.
use mathlib.Core.Bool.{Bool, true, false}
use mathlib.Core.List.{List}
use mathlib.Core.Option.{some}
use mathlib.Core.Path.{◌≡◌, refl, ap, sym, ◌∙◌}
use Prim.Native.Nat.{ℕ, zero, suc, ◌+◌, ◌<◌}
use native.Mathlib.Omega.{arith}
use Rattle.std.specs.Prelude.{ltb}
use Rattle.std.proofs.lemmas.Bool.{ltb-true, ltb-false}
use Rattle.model.specs.Plan.{Block, Lines, close, leaf_line, call_line, loop_line, if_line}
use Rattle.model.specs.Forms.{Forms, done, leaf, call, loop, cond, ◌⊕◌, forms}
use Rattle.model.specs.Stack.{turned}
use Rattle.model.proofs.Places.{never}
use Rattle.rows.specs.Rows.{kind_at, detail_at, block_at, Rep}
use Rattle.place.specs.Stack.{FunctionTable}
use Rattle.short_runs.specs.Listing.{ways, on_way, next_leaf}
use Rattle.trail.specs.declared.Extent.{Extent}
use Rattle.trail.specs.Trails.{ExtentIs}
use Rattle.trail.specs.Private.{Forks}
use Rattle.trail.proofs.Moving.{after_it, kind_three, leaf_is, call_is, loop_is, if_is}

-- THE NEXT LEAF

turned_opening : (v : ℕ) (s g h : Forms) → turned s v ≡ some g → next_leaf (g ⊕ h) ≡ next_leaf (s ⊕ h)
unfolding turned next_leaf ◌⊕◌
turned_opening zero s g h e = let z : s ≡ g = cc in ap (λ x. next_leaf (x ⊕ h)) (sym z)
turned_opening (suc v) done g h e = never e
turned_opening (suc v) (leaf b r) g h e = never e
turned_opening (suc v) (call b x r) g h e = never e
turned_opening (suc v) (loop b zero body r) g h e = never e
turned_opening (suc v) (loop b (suc m) body r) g h e = turned_opening v (loop b m body r) g h e
turned_opening (suc v) (cond b x y r) g h e = never e

number_is : (w : List ℕ) (i : ℕ) (b : Block) → b ≡ block_at w i → suc b.number ≡ i + 1
number_is w i b e = let z : b.number ≡ i = ap (λ (x : Block). x.number) e in omega arith

lines_opening : (w : List ℕ) (G : List Forms) (v i e : ℕ) (l : Lines) (h : Forms) → Rep w v i e l → i < e → next_leaf (forms G l ⊕ h) ≡ i + 1
unfolding Rep forms next_leaf ◌⊕◌
lines_opening w G v i e close h r lt = absurd (omega arith)
lines_opening w G v i e (leaf_line b l) h r lt = number_is w i b r.0.1
lines_opening w G v i e (call_line b f l) h r lt = number_is w i b r.0.1
lines_opening w G v i e (loop_line b n body l) h r lt = number_is w i b r.0.1
lines_opening w G v i e (if_line b x y l) h r lt = number_is w i b r.0.1

-- CHOICES

fork_leaf : (b : Block) (r f g : Forms) → f ≡ leaf b r → Forks b false (ways (f ⊕ g))
unfolding ways on_way ◌⊕◌
fork_leaf b r f g e = rw e

fork_call : (b : Block) (x r f g : Forms) → f ≡ call b x r → Forks b false (ways (f ⊕ g))
unfolding ways on_way ◌⊕◌
fork_call b x r f g e = rw e

fork_last : (b : Block) (m : ℕ) (x r f g : Forms) → m ≡ 0 → f ≡ loop b m x r → Forks b false (ways (f ⊕ g))
unfolding ways on_way ◌⊕◌
fork_last b m x r f g d e = rw (e, d)

fork_loop : (b : Block) (m : ℕ) (x r f g : Forms) → 0 < m → f ≡ loop b m x r → Forks b true (ways (f ⊕ g))
unfolding ways on_way ◌⊕◌
fork_loop b zero x r f g d e = absurd (omega arith)
fork_loop b (suc m) x r f g d e = rw e

fork_if : (b : Block) (x y r f g : Forms) → f ≡ cond b x y r → Forks b true (ways (f ⊕ g))
unfolding ways on_way ◌⊕◌
fork_if b x y r f g e = rw e

module _ {w starts : List ℕ} {n : ℕ} {t : FunctionTable w starts n} {column : List ℕ} {s : Extent} {f : Forms} (h : ExtentIs t column s f)
    (lt : s.from < s.to) (g : Forms) where
  pub opens_at : next_leaf (f ⊕ g) ≡ s.from + 1
  opens_at =
      let p = h.spanned.piece in
      turned_opening s.rounds h.whole f g h.rounds ∙
      (ap (λ x. next_leaf (x ⊕ g)) h.spanned.same ∙ lines_opening w t.funs p.level s.from s.to p.part.lines g p.part.rep lt)

  abbrev block : Block
  block = block_at w s.from

  pub fork_flat : (kind_at w s.from ≡ 2 → ⊥) → (kind_at w s.from ≡ 3 → ⊥) → Forks block false (ways (f ⊕ g))
  fork_flat k2 k3 = by (kind_at w s.from) refl
    where
      by : (k : ℕ) → kind_at w s.from ≡ k → Forks block false (ways (f ⊕ g))
      by zero e = fork_leaf block (after_it h lt) f g (leaf_is h lt e)
      by (suc zero) e = fork_call block _ (after_it h lt) f g (call_is h lt e).0
      by (suc (suc k)) e = absurd (omega (arith, kind_three h lt))

  turn : (body : Forms) (m x : ℕ) (p : Bool) → m + s.rounds ≡ x → f ≡ loop block m body (after_it h lt) → ltb s.rounds x ≡ p → Forks block p (ways (f ⊕ g))
  turn body m x true q z e = fork_loop block m body (after_it h lt) f g (omega (arith, ltb-true s.rounds x e)) z
  turn body m x false q z e = fork_last block m body (after_it h lt) f g (omega (arith, ltb-false s.rounds x e)) z

  pub fork_turn : {x : ℕ} → kind_at w s.from ≡ 2 → x ≡ detail_at w s.from → Forks block (ltb s.rounds x) (ways (f ⊕ g))
  fork_turn {x} k hx = let (body, l, y, few, (m, q, z)) = loop_is h lt k in turn body m x (ltb s.rounds x) (q ∙ sym hx) z refl

  pub fork_parts : kind_at w s.from ≡ 3 → Forks block true (ways (f ⊕ g))
  fork_parts k =
      let (x, y, l, r, z) = if_is h lt k in
      fork_if block x y (after_it h lt) f g z
