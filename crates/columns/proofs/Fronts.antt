-- A column, form by form: what stands in it, and what is to be written. Assumes nothing.
use mathlib.Core.Path.{◌≡◌, refl, sym, ap, ◌∙◌, subst}
use mathlib.Core.List.{List, [], ◌∷◌, ◌++◌, append_assoc}
use Prim.Native.Nat.{ℕ, suc, ◌+◌, ◌<◌}
use native.Mathlib.Omega.{arith}
use lib.ListN.{length, get_or, set, length-append}
use Rattle.std.proofs.lemmas.List.{set-set}
use lib.Seq.{sets}
use Rattle.model.specs.Plan.{Block, Lines, close, leaf_line, call_line, loop_line, if_line}
use Rattle.rows.specs.Rows.{field, after_at, block_at, Rep, Part}
use Rattle.rows.specs.First.{rest}
use Rattle.rows.proofs.Shape.{LeafAt, CallAt, LoopAt, IfAt, then_in}
use Rattle.columns.specs.Columns.{ColumnRule, column_of, Contains}
use Rattle.columns.specs.Walks.{front}
use Rattle.columns.proofs.Stores.{sets_then, set_before, contains_append, contains_both}

module _ (u : ColumnRule) where
  pub column_split : (l : Lines) (s : ℕ) → column_of u l s ≡ front u l (u.next (rest l) s) ++ column_of u (rest l) s
  unfolding column_of front rest
  column_split close s = refl
  column_split (leaf_line b r) s = refl
  column_split (call_line b f r) s = refl
  column_split (loop_line b n body r) s = refl
  column_split (if_line b t e r) s = simp append_assoc

  -- One number for each record.
  pub column_fill : (w : List ℕ) (v i e : ℕ) (l : Lines) (s : ℕ) → Rep w v i e l → i + length (column_of u l s) ≡ e
  unfolding Rep column_of
  column_fill w v i e close s h = omega arith
  column_fill w v i e (leaf_line b r) s h = omega (arith, column_fill w v (after_at w i) e r s h.4)
  column_fill w v i e (call_line b f r) s h = omega (arith, column_fill w v (after_at w i) e r s h.4)
  column_fill w v i e (loop_line b n body r) s h =
      let y = u.inner (loop_line b n body r) (u.next r s) in
      omega (
        arith,
        column_fill w v (after_at w i) e r s h.4,
        column_fill w (suc v) (i + 1) (after_at w i) body y h.3,
        length-append (column_of u body y) (column_of u r s),
      )
  column_fill w v i e (if_line b t f r) s h =
      let x = u.next r s in
      omega (
        arith,
        column_fill w v (after_at w i) e r s h.4,
        column_fill w v (i + 1) (field w i 5) t x h.2,
        column_fill w v (field w i 5) (after_at w i) f x h.3,
        length-append (column_of u t x) (column_of u f x ++ column_of u r s),
        length-append (column_of u f x) (column_of u r s),
      )

  rep_fill : (w : List ℕ) (v i e : ℕ) (l : Lines) (x : ℕ) → Rep w v i e l → i < e → i + length (front u l x) ≡ after_at w i
  unfolding Rep front
  rep_fill w v i e close x h lt = absurd (omega arith)
  rep_fill w v i e (leaf_line b r) x h lt = omega arith
  rep_fill w v i e (call_line b f r) x h lt = omega arith
  rep_fill w v i e (loop_line b n body r) x h lt = omega (arith, column_fill w (suc v) (i + 1) (after_at w i) body (u.inner (loop_line b n body r) x) h.3)
  rep_fill w v i e (if_line b t f r) x h lt =
      omega (
        arith,
        column_fill w v (i + 1) (field w i 5) t x h.2,
        column_fill w v (field w i 5) (after_at w i) f x h.3,
        length-append (column_of u t x) (column_of u f x),
      )

  pub part_fill : {w hs : List ℕ} {left v i e : ℕ} (p : Part w hs left v i e) (s : ℕ) → e ≡ i + length (column_of u p.lines s)
  part_fill {w} {v = v} {i = i} {e = e} p s = sym (column_fill w v i e p.lines s p.rep)

  pub front_fill : {w hs : List ℕ} {left v i e en : ℕ} (lt : i < e) (p : Part w hs left v i e) (x : ℕ) → en ≡ after_at w i → en ≡ i + length (front u p.lines x)
  front_fill {w} {v = v} {i = i} {e = e} lt p x he = he ∙ sym (rep_fill w v i e p.lines x p.rep lt)

  -- What is written for the first form, by kind.
  as_leaf : (l r : Lines) (b : Block) (x : ℕ) → l ≡ leaf_line b r → u.value l x ∷ [] ≡ front u l x
  unfolding front
  as_leaf l r b x h = rw h

  as_call : (l r : Lines) (b : Block) (f x : ℕ) → l ≡ call_line b f r → u.value l x ∷ [] ≡ front u l x
  unfolding front
  as_call l r b f x h = rw h

  as_loop : (l body r : Lines) (b : Block) (n x : ℕ) → l ≡ loop_line b n body r → u.value l x ∷ column_of u body (u.inner l x) ≡ front u l x
  unfolding front
  as_loop l body r b n x h = rw h

  as_if : (l t e r : Lines) (b : Block) (x : ℕ) → l ≡ if_line b t e r → u.value l x ∷ (column_of u t x ++ column_of u e x) ≡ front u l x
  unfolding front
  as_if l t e r b x h = rw h

  pub leaf_front : (o : List ℕ) (x : ℕ) {w : List ℕ} {v i : ℕ} {l : Lines} {y : ℕ} → LeafAt w v i l → y ≡ u.value l x → set o i y ≡ sets o i (front u l x)
  leaf_front o x {w} {v} {i} {l} {y} h hy = ap (λ (z : ℕ). set o i z) hy ∙ ap (λ (z : List ℕ). sets o i z) (as_leaf l (rest l) (block_at w i) x h.shape)

  pub call_front : (o : List ℕ) (x : ℕ) {w hs : List ℕ} {v i : ℕ} {l : Lines} {y : ℕ} → CallAt w hs v i l → y ≡ u.value l x → set o i y ≡ sets o i (front u l x)
  call_front o x {w} {hs} {v} {i} {l} {y} h hy =
      ap (λ (z : ℕ). set o i z) hy ∙ ap (λ (z : List ℕ). sets o i z) (as_call l (rest l) (block_at w i) (field w i 4) x h.shape)

  rep_plain : (o : List ℕ) (x y : ℕ) (w : List ℕ) (v i e : ℕ) (l : Lines) → Rep w v i e l → i < e → (field w i 0 ≡ 2 → ⊥) → (field w i 0 ≡ 3 → ⊥)
      → y ≡ u.value l x → set o i y ≡ sets o i (front u l x)
  unfolding Rep front
  rep_plain o x y w v i e close h lt k2 k3 hy = absurd (omega arith)
  rep_plain o x y w v i e (leaf_line b r) h lt k2 k3 hy = ap (λ (z : ℕ). set o i z) hy
  rep_plain o x y w v i e (call_line b f r) h lt k2 k3 hy = ap (λ (z : ℕ). set o i z) hy
  rep_plain o x y w v i e (loop_line b n body r) h lt k2 k3 hy = absurd (k2 h.0.0)
  rep_plain o x y w v i e (if_line b t s r) h lt k2 k3 hy = absurd (k3 h.0.0)

  -- A leaf or a call.
  pub plain_front : (o : List ℕ) (x : ℕ) {w hs : List ℕ} {left v i e y : ℕ} → i < e → (p : Part w hs left v i e) → (field w i 0 ≡ 2 → ⊥) → (field w i 0 ≡ 3 → ⊥)
      → y ≡ u.value p.lines x → set o i y ≡ sets o i (front u p.lines x)
  plain_front o x {w} {v = v} {i = i} {e = e} {y = y} lt p k2 k3 hy = rep_plain o x y w v i e p.lines p.rep lt k2 k3 hy

  whole_loop : (o : List ℕ) (x : ℕ) {w hs : List ℕ} {left v i : ℕ} {l : Lines} {y z : ℕ} → (h : LoopAt w hs left v i l) → y ≡ u.value l x → z ≡ u.inner l x
      → sets o i (y ∷ column_of u h.body.lines z) ≡ sets o i (front u l x)
  whole_loop o x {w} {hs} {left} {v} {i} {l} {y} {z} h hy hz =
      let b = h.body.lines in
      ap (λ (a : ℕ). sets o i (a ∷ column_of u b z)) hy ∙
      ap (λ (a : ℕ). sets o i (u.value l x ∷ column_of u b a)) hz ∙
      ap (λ (a : List ℕ). sets o i a) (as_loop l b (rest l) (block_at w i) (field w i 4) x h.shape)

  pub loop_front : (o : List ℕ) (x : ℕ) {w hs : List ℕ} {left v i : ℕ} {l : Lines} {o' : List ℕ} {y z : ℕ} → (h : LoopAt w hs left v i l)
      → y ≡ u.value l x → z ≡ u.inner l x → o' ≡ sets o (i + 1) (column_of u h.body.lines z) → set o' i y ≡ sets o i (front u l x)
  loop_front o x {i = i} {y = y} {z = z} h hy hz ho = set_before y (column_of u h.body.lines z) o i (i + 1) ho refl ∙ whole_loop o x h hy hz

  -- The same, where another number stood at the loop.
  pub loop_again : (o : List ℕ) (x a : ℕ) {w hs : List ℕ} {left v i : ℕ} {l : Lines} {o' : List ℕ} {y z : ℕ} → (h : LoopAt w hs left v i l)
      → y ≡ u.value l x → z ≡ u.inner l x → o' ≡ sets (set o i a) (i + 1) (column_of u h.body.lines z) → set o' i y ≡ sets o i (front u l x)
  loop_again o x a {i = i} {y = y} {z = z} h hy hz ho =
      let b = column_of u h.body.lines z in
      set_before y b (set o i a) i (i + 1) ho refl ∙ ap (λ (t : List ℕ). sets t (suc i) b) (set-set o i a y) ∙ whole_loop o x h hy hz

  -- The same, the loop's own number first.
  pub front_loop : (o : List ℕ) (x : ℕ) {w hs : List ℕ} {left v i : ℕ} {l : Lines} {o' : List ℕ} {y z : ℕ} → (h : LoopAt w hs left v i l)
      → y ≡ u.value l x → z ≡ u.inner l x → o' ≡ sets (set o i y) (i + 1) (column_of u h.body.lines z) → o' ≡ sets o i (front u l x)
  front_loop o x {i = i} {o' = o'} {y = y} {z = z} h hy hz ho =
      let j : i + 1 ≡ suc i = omega arith in
      let a : o' ≡ sets o i (y ∷ column_of u h.body.lines z) = rw j at ho in
      a ∙ whole_loop o x h hy hz

  whole_if : (o : List ℕ) (x : ℕ) {w hs : List ℕ} {left v i : ℕ} {l : Lines} {y : ℕ} → (h : IfAt w hs left v i l) → y ≡ u.value l x
      → sets o i (y ∷ (column_of u h.then.lines x ++ column_of u h.else.lines x)) ≡ sets o i (front u l x)
  whole_if o x {w} {hs} {left} {v} {i} {l} h hy =
      let t = h.then.lines in
      let e = h.else.lines in
      ap (λ (z : ℕ). sets o i (z ∷ (column_of u t x ++ column_of u e x))) hy ∙
      ap (λ (z : List ℕ). sets o i z) (as_if l t e (rest l) (block_at w i) x h.shape)

  pub if_front : (o : List ℕ) (x : ℕ) {w hs : List ℕ} {left v i mid : ℕ} {l : Lines} {o₁ o₂ : List ℕ} {y : ℕ} → (h : IfAt w hs left v i l) → mid ≡ field w i 5
      → y ≡ u.value l x → o₁ ≡ sets o (i + 1) (column_of u h.then.lines x) → o₂ ≡ sets o₁ mid (column_of u h.else.lines x)
      → set o₂ i y ≡ sets o i (front u l x)
  if_front o x {i = i} {mid = mid} {y = y} h hm hy h₁ h₂ =
      let ts = column_of u h.then.lines x in
      let es = column_of u h.else.lines x in
      set_before y (ts ++ es) o i (i + 1) (sets_then ts es o (i + 1) mid h₁ h₂ (part_fill (then_in hm h) x)) refl ∙ whole_if o x h hy

  -- The same, the if's own number first.
  pub front_if : (o : List ℕ) (x : ℕ) {w hs : List ℕ} {left v i mid : ℕ} {l : Lines} {o₁ o₂ : List ℕ} {y : ℕ} → (h : IfAt w hs left v i l) → mid ≡ field w i 5
      → y ≡ u.value l x → o₁ ≡ sets (set o i y) (i + 1) (column_of u h.then.lines x) → o₂ ≡ sets o₁ mid (column_of u h.else.lines x)
      → o₂ ≡ sets o i (front u l x)
  front_if o x {i = i} {mid = mid} {o₂ = o₂} {y = y} h hm hy h₁ h₂ =
      let ts = column_of u h.then.lines x in
      let es = column_of u h.else.lines x in
      let j : i + 1 ≡ suc i = omega arith in
      let a : o₂ ≡ sets o i (y ∷ (ts ++ es)) = rw j at (sets_then ts es (set o i y) (i + 1) mid h₁ h₂ (part_fill (then_in hm h) x)) in
      a ∙ whole_if o x h hy

  -- What stands there already, by kind.
  pub contains_rest : (o : List ℕ) (s : ℕ) {w hs : List ℕ} {left v i e en : ℕ} (lt : i < e) (p : Part w hs left v i e) → en ≡ after_at w i
      → Contains o i (column_of u p.lines s)
      → Contains o i (front u p.lines (u.next (rest p.lines) s)) × Contains o en (column_of u (rest p.lines) s)
  contains_rest o s {i = i} {en = en} lt p he h =
      let l = p.lines in
      let x = u.next (rest l) s in
      contains_append (front u l x) (column_of u (rest l) s) o i en (rw (column_split l s) at h) (front_fill lt p x he)

  pub contains_loop : (o : List ℕ) (x : ℕ) {w hs : List ℕ} {left v i : ℕ} {l : Lines} (h : LoopAt w hs left v i l) → Contains o i (front u l x)
      → (get_or o i 0 ≡ u.value l x) × Contains o (i + 1) (column_of u h.body.lines (u.inner l x))
  unfolding Contains
  contains_loop o x {w} {hs} {left} {v} {i} {l} h g =
      let e = as_loop l h.body.lines (rest l) (block_at w i) (field w i 4) x h.shape in
      let k = rw (sym e) at g in
      let j : suc i ≡ i + 1 = omega arith in
      (k.0, rw j at k.1)

  pub contains_if : (o : List ℕ) (x : ℕ) {w hs : List ℕ} {left v i mid : ℕ} {l : Lines} (h : IfAt w hs left v i l) → mid ≡ field w i 5 → Contains o i (front u l x)
      → Contains o (i + 1) (column_of u h.then.lines x) × Contains o mid (column_of u h.else.lines x)
  unfolding Contains
  contains_if o x {w} {hs} {left} {v} {i} {mid} {l} h hm g =
      let e = as_if l h.then.lines h.else.lines (rest l) (block_at w i) x h.shape in
      let k = rw (sym e) at g in
      let j : suc i ≡ i + 1 = omega arith in
      contains_append (column_of u h.then.lines x) (column_of u h.else.lines x) o (i + 1) mid (rw j at k.1) (part_fill (then_in hm h) x)

  -- The same the other way: a form's numbers, from the first one and those of the parts.
  pub loop_holds : (o : List ℕ) (x : ℕ) {w hs : List ℕ} {left v i : ℕ} {l : Lines} (h : LoopAt w hs left v i l) → get_or o i 0 ≡ u.value l x
      → Contains o (i + 1) (column_of u h.body.lines (u.inner l x)) → Contains o i (front u l x)
  unfolding Contains
  loop_holds o x {w} {hs} {left} {v} {i} {l} h a g =
      let e = as_loop l h.body.lines (rest l) (block_at w i) (field w i 4) x h.shape in
      let j : i + 1 ≡ suc i = omega arith in
      subst (λ (xs : List ℕ). Contains o i xs) e (a, rw j at g)

  pub if_holds : (o : List ℕ) (x : ℕ) {w hs : List ℕ} {left v i mid : ℕ} {l : Lines} (h : IfAt w hs left v i l) → mid ≡ field w i 5 → get_or o i 0 ≡ u.value l x
      → Contains o (i + 1) (column_of u h.then.lines x) → Contains o mid (column_of u h.else.lines x) → Contains o i (front u l x)
  unfolding Contains
  if_holds o x {w} {hs} {left} {v} {i} {mid} {l} h hm a f g =
      let e = as_if l h.then.lines h.else.lines (rest l) (block_at w i) x h.shape in
      let j : i + 1 ≡ suc i = omega arith in
      let b = contains_both (column_of u h.then.lines x) (column_of u h.else.lines x) o (i + 1) mid (part_fill (then_in hm h) x) f g in
      subst (λ (xs : List ℕ). Contains o i xs) e (a, rw j at b)
