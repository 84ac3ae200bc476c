-- Lines lie in a row exactly where their records stand in it, and functions where theirs do. Assumes nothing.
use mathlib.Core.List.{List, [], ◌∷◌, ◌++◌, append_assoc}
use mathlib.Core.Path.{◌≡◌, refl, ap, sym, ◌∙◌}
use Prim.Native.Nat.{ℕ, zero, suc, ◌+◌, ◌*◌, ◌≤◌, ◌<◌}
use native.Mathlib.Omega.{arith}
use native.Mathlib.Decide.{dec_le}
use lib.Dec.{eqb}
use lib.ListN.{length, get_or, take, drop, get_or-append, get_or-eq_default}
use lib.Seq.{get_or-drop, drop-drop, drop_at, drop-cons, take_at, take_all}
use Rattle.model.specs.Plan.{Block, Lines, close, leaf_line, call_line, loop_line, if_line}
use Rattle.model.specs.Levels.{height}
use Rattle.model.specs.Acceptance.{size, Numbered, Functions}
use Rattle.model.specs.Places.{bit}
use Rattle.model.proofs.Bits.{bit_told, bit_low}
use Rattle.rows.specs.Rows.{field, kind_at, point_at, isolated_at, max_load_at, detail_at, other_at, after_at, level_at, block_at, RecordIs, Rep}
use Rattle.rows.specs.Plans.{Lies, PlanOf}
use Rattle.rows.specs.Records.{entry, records, records_all, bounds}
use Rattle.rows.proofs.Shape.{rep_le}
use Rattle.rows.proofs.Measures.{rep_size}
use Rattle.rows.proofs.Records.{records_length, records_all_length, bounds_length}
use Rattle.rows.proofs.Plans.{lies_sizes, plan_leaves}

-- FROM THE ROW TO THE RECORDS

-- One number of a list, and what is behind it.
one_drop : (w : List ℕ) (a b : ℕ) (r : List ℕ) → b ≡ suc a → a < length w → drop b w ≡ r → drop a w ≡ get_or w a 0 ∷ r
one_drop w a b r e h q = drop-cons w a 0 h ∙ ap (λ u. get_or w a 0 ∷ u) (ap (λ n. drop n w) (sym e) ∙ q)

-- Eight of them.
eight : (w : List ℕ) (a : ℕ) → a + 8 ≤ length w →
    drop (a + 0) w ≡
    get_or w (a + 0) 0 ∷ get_or w (a + 1) 0 ∷ get_or w (a + 2) 0 ∷ get_or w (a + 3) 0 ∷ get_or w (a + 4) 0 ∷ get_or w (a + 5) 0 ∷ get_or w (a + 6) 0 ∷ get_or w (a + 7) 0 ∷
    drop (a + 8) w
eight w a h =
    one_drop w (a + 0) (a + 1) _ (omega arith) (omega arith)
    (one_drop w (a + 1) (a + 2) _ (omega arith) (omega arith)
    (one_drop w (a + 2) (a + 3) _ (omega arith) (omega arith)
    (one_drop w (a + 3) (a + 4) _ (omega arith) (omega arith)
    (one_drop w (a + 4) (a + 5) _ (omega arith) (omega arith)
    (one_drop w (a + 5) (a + 6) _ (omega arith) (omega arith)
    (one_drop w (a + 6) (a + 7) _ (omega arith) (omega arith)
    (one_drop w (a + 7) (a + 8) _ (omega arith) (omega arith) refl)))))))

-- A 0 or 1 is the truth value that it is read as.
bit_back : (x : ℕ) → x ≤ 1 → bit (eqb x 1) ≡ x
bit_back zero h = refl
bit_back (suc zero) h = refl
bit_back (suc (suc x)) h = absurd (omega arith)

-- The record i, and what is behind it.
entry_drop : (w : List ℕ) (l i k : ℕ) (b : Block) (detail other after : ℕ) → RecordIs w l i k b → detail_at w i ≡ detail → other_at w i ≡ other → after_at w i ≡ after →
    (i + 1) * 8 ≤ length w → drop (i * 8) w ≡ entry k b detail other after l ++ drop ((i + 1) * 8) w
entry_drop w l i k b detail other after (kind, block, low, level) x y z h =
    let e : i * 8 + 8 ≡ (i + 1) * 8 = omega arith in
    let p : point_at w i ≡ bit b.point = sym (bit_back (point_at w i) low) ∙ ap (λ (c : Block). bit c.point) (sym block) in
    let c : isolated_at w i ≡ b.isolated = ap (λ (c : Block). c.isolated) (sym block) in
    let m : max_load_at w i ≡ b.max_load = ap (λ (c : Block). c.max_load) (sym block) in
    let v : drop (i * 8 + 8) w ≡ drop ((i + 1) * 8) w = ap (λ n. drop n w) e in
    let f : i * 8 ≡ i * 8 + 0 = omega arith in
    let u : drop (i * 8) w ≡ drop (i * 8 + 0) w = ap (λ n. drop n w) f in
    cc (eight w (i * 8) (omega arith))

-- Two runs of records, one behind the other.
joined : (w : List ℕ) (i j e : ℕ) (xs ys : List ℕ) → drop (i * 8) w ≡ xs ++ drop (j * 8) w → drop (j * 8) w ≡ ys ++ drop (e * 8) w →
    drop (i * 8) w ≡ (xs ++ ys) ++ drop (e * 8) w
joined w i j e xs ys p q = p ∙ (ap (λ u. xs ++ u) q ∙ sym (append_assoc xs ys (drop (e * 8) w)))

-- Lines that lie in a row are their records, with what is behind them.
rep_drop : (l : Lines) (w : List ℕ) (L i e : ℕ) → Rep w L i e l → e * 8 ≤ length w → drop (i * 8) w ≡ records L l i ++ drop (e * 8) w
unfolding Rep records
rep_drop close w L i e h fits = ap (λ n. drop (n * 8) w) h
rep_drop (leaf_line b r) w L i e h fits =
    let le = rep_le w L (after_at w i) e r h.4 in
    joined w i (i + 1) e (entry 0 b 0 0 (i + 1) L) (records L r (i + 1)) (entry_drop w L i 0 b 0 0 (i + 1) h.0 h.1 h.2 h.3 (omega arith))
    (rep_drop r w L (i + 1) e (rw h.3 at h.4) fits)
rep_drop (call_line b f r) w L i e h fits =
    let le = rep_le w L (after_at w i) e r h.4 in
    joined w i (i + 1) e (entry 1 b f 0 (i + 1) L) (records L r (i + 1)) (entry_drop w L i 1 b f 0 (i + 1) h.0 h.1 h.2 h.3 (omega arith))
    (rep_drop r w L (i + 1) e (rw h.3 at h.4) fits)
rep_drop (loop_line b n body r) w L i e h fits =
    let en = i + 1 + size body in
    let z : suc L ≡ L + 1 = omega arith in
    let x : after_at w i ≡ en = rep_size w body (suc L) (i + 1) (after_at w i) h.3 in
    let le = rep_le w L (after_at w i) e r h.4 in
    joined w i (i + 1) e (entry 2 b n 0 en L) (records (L + 1) body (i + 1) ++ records L r en)
    (entry_drop w L i 2 b n 0 en h.0 h.1 h.2 x (omega arith))
    (joined w (i + 1) en e (records (L + 1) body (i + 1)) (records L r en) (rep_drop body w (L + 1) (i + 1) en (rw (z, x) at h.3) (omega arith))
    (rep_drop r w L en e (rw x at h.4) fits))
rep_drop (if_line b t s r) w L i e h fits =
    let mid = i + 1 + size t in
    let en = mid + size s in
    let x : other_at w i ≡ mid = rep_size w t L (i + 1) (other_at w i) h.2 in
    let y : after_at w i ≡ en = omega (arith, rep_size w s L (other_at w i) (after_at w i) h.3) in
    let le = rep_le w L (after_at w i) e r h.4 in
    joined w i (i + 1) e (entry 3 b 0 mid en L) (records L t (i + 1) ++ (records L s mid ++ records L r en))
    (entry_drop w L i 3 b 0 mid en h.0 h.1 x y (omega arith))
    (joined w (i + 1) mid e (records L t (i + 1)) (records L s mid ++ records L r en) (rep_drop t w L (i + 1) mid (rw x at h.2) (omega arith))
    (joined w mid en e (records L s mid) (records L r en) (rep_drop s w L mid en (rw (x, y) at h.3) (omega arith))
    (rep_drop r w L en e (rw y at h.4) fits)))

-- The same of functions, one after the other.
lies_drop : (ls : List Lines) (w s : List ℕ) (f : ℕ) → Lies w s f ls → get_or s (f + length ls) 0 * 8 ≤ length w →
    drop (get_or s f 0 * 8) w ≡ records_all (get_or s f 0) ls ++ drop (get_or s (f + length ls) 0 * 8) w
unfolding Lies records_all
lies_drop [] w s f h fits = let e : f ≡ f + 0 = omega arith in ap (λ n. drop (get_or s n 0 * 8) w) e
lies_drop (l ∷ ls) w s f h fits =
    let e : f + 1 + length ls ≡ f + suc (length ls) = omega arith in
    let x : get_or s (f + 1) 0 ≡ get_or s f 0 + size l = rep_size w l 1 (get_or s f 0) (get_or s (f + 1) 0) h.0 in
    let y = lies_sizes w s ls (f + 1) h.1 in
    let fits' : get_or s (f + 1 + length ls) 0 * 8 ≤ length w = rw e fits in
    rw (← x, ← e) (joined w (get_or s f 0) (get_or s (f + 1) 0) (get_or s (f + 1 + length ls) 0) (records 1 l (get_or s f 0)) (records_all (get_or s (f + 1) 0) ls)
    (rep_drop l w 1 (get_or s f 0) (get_or s (f + 1) 0) h.0 (omega arith)) (lies_drop ls w s (f + 1) h.1 fits'))

-- The row of a plan begins with the records of its functions.
pub plan_front : {w s : List ℕ} {n : ℕ} (q : PlanOf w s n) → take (get_or s n 0 * 8) w ≡ records_all 0 q.functions
plan_front {w} {s} {n} q =
    let ls = q.functions in
    let z : 0 + length ls ≡ n = omega (arith, q.count) in
    let x : w ≡ records_all 0 ls ++ drop (get_or s n 0 * 8) w =
    rw (q.bounds.first, z) at (lies_drop ls w s 0 q.lie (rw z q.bounds.held)) in
    ap (λ u. take (get_or s n 0 * 8) u) x ∙ take_at (records_all 0 ls) (drop (get_or s n 0 * 8) w) (get_or s n 0 * 8) (omega (arith, plan_leaves q, records_all_length 0 ls))

-- And there is nothing else in it, where it has room for its leaves only.
pub plan_row : {w s : List ℕ} {n : ℕ} (q : PlanOf w s n) → length w ≡ get_or s n 0 * 8 → w ≡ records_all 0 q.functions
plan_row {w} {s} {n} q e = sym (take_all (get_or s n 0 * 8) w (omega arith)) ∙ plan_front q

-- The bounds between which functions lie are theirs.
lies_bounds : (ls : List Lines) (w s : List ℕ) (f j : ℕ) → Lies w s f ls → j ≤ length ls → get_or s (f + j) 0 ≡ get_or (bounds (get_or s f 0) ls) j 0
unfolding Lies bounds
lies_bounds [] w s f zero h k = let e : f + 0 ≡ f = omega arith in ap (λ n. get_or s n 0) e
lies_bounds [] w s f (suc j) h k = absurd (omega arith)
lies_bounds (l ∷ ls) w s f zero h k = let e : f + 0 ≡ f = omega arith in ap (λ n. get_or s n 0) e
lies_bounds (l ∷ ls) w s f (suc j) h k =
    let e : f + suc j ≡ f + 1 + j = omega arith in
    rw (e, ← rep_size w l 1 (get_or s f 0) (get_or s (f + 1) 0) h.0) (lies_bounds ls w s (f + 1) j h.1 (omega arith))

-- Each bound of a plan is that of its functions, and 0 behind the last.
pub plan_bound : {w s : List ℕ} {n : ℕ} (q : PlanOf w s n) (j : ℕ) → j ≤ 16 → get_or s j 0 ≡ get_or (bounds 0 q.functions) j 0
plan_bound {w} {s} {n} q j k =
    let ls = q.functions in
    let c = q.count in
    elim (dec_le j n) [
      | yes h ↦ let z : 0 + j ≡ j = omega arith in rw (z, q.bounds.first) at (lies_bounds ls w s 0 j q.lie (omega arith))
      | no h ↦ q.bounds.unused j (omega arith) k ∙ sym (get_or-eq_default (bounds 0 ls) 0 (omega (arith, bounds_length 0 ls)))
    ]

-- FROM THE RECORDS TO THE ROW

-- The row has these numbers from record i on.
abbrev Begins : List ℕ → ℕ → List ℕ → Type 0
Begins w i rs = (v : List ℕ) × (drop (i * 8) w ≡ rs ++ v)

-- Its parts, one after the other.
begins_left : (w : List ℕ) (i : ℕ) (rs us : List ℕ) → Begins w i (rs ++ us) → Begins w i rs
begins_left w i rs us (v, e) = (us ++ v, e ∙ append_assoc rs us v)

begins_right : (w : List ℕ) (i k j : ℕ) (rs us : List ℕ) → length rs ≡ 8 * k → j ≡ i + k → Begins w i (rs ++ us) → Begins w j us
begins_right w i k j rs us h q (v, e) =
    let z : j * 8 ≡ i * 8 + 8 * k = omega arith in
    (v, ap (λ m. drop m w) z ∙ (sym (drop-drop (8 * k) (i * 8) w) ∙ (ap (λ u. drop (8 * k) u) (e ∙ append_assoc rs us v) ∙ drop_at rs (us ++ v) (8 * k) h)))

begins_field : (w : List ℕ) (i : ℕ) (rs : List ℕ) → Begins w i rs → (j : ℕ) → j < length rs → field w i j ≡ get_or rs j 0
begins_field w i rs (v, e) j h = sym (get_or-drop (i * 8) w j 0) ∙ (ap (λ u. get_or u j 0) e ∙ get_or-append rs v 0 j h)

-- What a record says.
record Said (w : List ℕ) (i kind : ℕ) (b : Block) (detail other after level : ℕ) : Type 0 where
  pub kind_is : kind_at w i ≡ kind
  pub block_is : b ≡ block_at w i
  pub mark_is : point_at w i ≤ 1
  pub detail_is : detail_at w i ≡ detail
  pub other_is : other_at w i ≡ other
  pub after_is : after_at w i ≡ after
  pub level_is : level_at w i ≡ level

same_block : (b : Block) (n x c m : ℕ) → b.number ≡ n → bit b.point ≡ x → b.isolated ≡ c → b.max_load ≡ m →
    b ≡ record { number = n; point = eqb x 1; isolated = c; max_load = m }
same_block b n x c m e f g h = rw (← e, ← f, ← g, ← h, bit_told b.point)

said : (w : List ℕ) (i kind : ℕ) (b : Block) (detail other after level : ℕ) (rs : List ℕ) → b.number ≡ i → Begins w i (entry kind b detail other after level ++ rs) →
    Said w i kind b detail other after level
said w i kind b detail other after level rs q s =
    let a = begins_field w i (entry kind b detail other after level) (begins_left w i (entry kind b detail other after level) rs s) in
    record {
      kind_is = a 0 (omega arith);
      block_is = same_block b i (point_at w i) (isolated_at w i) (max_load_at w i) q (sym (a 1 (omega arith))) (sym (a 2 (omega arith))) (sym (a 3 (omega arith)));
      mark_is = omega (arith, a 1 (omega arith), bit_low b.point);
      detail_is = a 4 (omega arith);
      other_is = a 5 (omega arith);
      after_is = a 6 (omega arith);
      level_is = a 7 (omega arith);
    }

next_record : (w : List ℕ) (i kind : ℕ) (b : Block) (detail other after level : ℕ) (rs : List ℕ) → Begins w i (entry kind b detail other after level ++ rs) → Begins w (i + 1) rs
next_record w i kind b detail other after level rs s = begins_right w i 1 (i + 1) (entry kind b detail other after level) rs (omega arith) refl s

rep_loop : (w : List ℕ) (L : ℕ) (b : Block) (m : ℕ) (body rest : Lines) (n e : ℕ) → b.number ≡ n →
    Begins w n (entry 2 b m 0 (n + 1 + size body) L ++ (records (L + 1) body (n + 1) ++ records L rest (n + 1 + size body))) →
    (Begins w (n + 1) (records (suc L) body (n + 1)) → Rep w (suc L) (n + 1) (n + 1 + size body) body) →
    (Begins w (n + 1 + size body) (records L rest (n + 1 + size body)) → Rep w L (n + 1 + size body) e rest) → Rep w L n e (loop_line b m body rest)
unfolding Rep
rep_loop w L b m body rest n e i s f g =
    let us = records (L + 1) body (n + 1) ++ records L rest (n + 1 + size body) in
    let a = said w n 2 b m 0 (n + 1 + size body) L us i s in
    let t = next_record w n 2 b m 0 (n + 1 + size body) L us s in
    let z : L + 1 ≡ suc L = omega arith in
    let u : Begins w (n + 1) (records (suc L) body (n + 1)) =
    rw z at (begins_left w (n + 1) (records (L + 1) body (n + 1)) (records L rest (n + 1 + size body)) t) in
    let v = begins_right w (n + 1) (size body) (n + 1 + size body) (records (L + 1) body (n + 1)) (records L rest (n + 1 + size body)) (records_length (L + 1) body (n + 1)) refl t in
    ((a.kind_is, a.block_is, a.mark_is, a.level_is), a.detail_is, a.other_is, rw a.after_is (f u), rw a.after_is (g v))

rep_if : (w : List ℕ) (L : ℕ) (b : Block) (then else rest : Lines) (n e : ℕ) → b.number ≡ n →
    Begins w n (entry 3 b 0 (n + 1 + size then) (n + 1 + size then + size else) L ++
    (records L then (n + 1) ++ (records L else (n + 1 + size then) ++ records L rest (n + 1 + size then + size else)))) →
    (Begins w (n + 1) (records L then (n + 1)) → Rep w L (n + 1) (n + 1 + size then) then) →
    (Begins w (n + 1 + size then) (records L else (n + 1 + size then)) → Rep w L (n + 1 + size then) (n + 1 + size then + size else) else) →
    (Begins w (n + 1 + size then + size else) (records L rest (n + 1 + size then + size else)) → Rep w L (n + 1 + size then + size else) e rest) →
    Rep w L n e (if_line b then else rest)
unfolding Rep
rep_if w L b then else rest n e i s f g h =
    let ns = records L rest (n + 1 + size then + size else) in
    let es = records L else (n + 1 + size then) in
    let ts = records L then (n + 1) in
    let a = said w n 3 b 0 (n + 1 + size then) (n + 1 + size then + size else) L (ts ++ (es ++ ns)) i s in
    let t = next_record w n 3 b 0 (n + 1 + size then) (n + 1 + size then + size else) L (ts ++ (es ++ ns)) s in
    let u = begins_right w (n + 1) (size then) (n + 1 + size then) ts (es ++ ns) (records_length L then (n + 1)) refl t in
    let v = begins_right w (n + 1 + size then) (size else) (n + 1 + size then + size else) es ns (records_length L else (n + 1 + size then)) refl u in (
      (a.kind_is, a.block_is, a.mark_is, a.level_is),
      a.detail_is,
      rw a.other_is (f (begins_left w (n + 1) ts (es ++ ns) t)),
      rw (a.other_is, a.after_is) (g (begins_left w (n + 1 + size then) es ns u)),
      rw a.after_is (h v),
    )

-- Records of lines that stand in the row are these lines.
records_rep : (w : List ℕ) (L : ℕ) (l : Lines) (n e : ℕ) → Numbered n l → e ≡ n + size l → Begins w n (records L l n) → Rep w L n e l
unfolding Rep records Numbered size
records_rep w L close n e h q s = omega arith
records_rep w L (leaf_line b rest) n e (i, h) q s =
    let a = said w n 0 b 0 0 (n + 1) L (records L rest (n + 1)) i s in (
      (a.kind_is, a.block_is, a.mark_is, a.level_is),
      a.detail_is,
      a.other_is,
      a.after_is,
      rw a.after_is (records_rep w L rest (n + 1) e h (omega arith) (next_record w n 0 b 0 0 (n + 1) L (records L rest (n + 1)) s)),
    )
records_rep w L (call_line b f rest) n e (i, h) q s =
    let a = said w n 1 b f 0 (n + 1) L (records L rest (n + 1)) i s in (
      (a.kind_is, a.block_is, a.mark_is, a.level_is),
      a.detail_is,
      a.other_is,
      a.after_is,
      rw a.after_is (records_rep w L rest (n + 1) e h (omega arith) (next_record w n 1 b f 0 (n + 1) L (records L rest (n + 1)) s)),
    )
records_rep w L (loop_line b m body rest) n e (i, h, j) q s = rep_loop w L b m body rest n e i s
    (λ v. records_rep w (suc L) body (n + 1) (n + 1 + size body) h refl v) (λ v. records_rep w L rest (n + 1 + size body) e j (omega arith) v)
records_rep w L (if_line b then else rest) n e (i, h, j, k) q s = rep_if w L b then else rest n e i s
    (λ v. records_rep w L then (n + 1) (n + 1 + size then) h refl v) (λ v. records_rep w L else (n + 1 + size then) (n + 1 + size then + size else) j refl v)
    (λ v. records_rep w L rest (n + 1 + size then + size else) e k (omega arith) v)

-- The bounds from number f on are these.
abbrev pub From : List ℕ → ℕ → List ℕ → Type 0
From s f cs = (j : ℕ) → get_or s (f + j) 0 ≡ get_or cs j 0

-- The first bound is the number of the first leaf.
pub first_bound : (n : ℕ) (ls : List Lines) → get_or (bounds n ls) 0 0 ≡ n
unfolding bounds
first_bound n [] = refl
first_bound n (l ∷ ls) = refl

-- Functions whose records and bounds stand one after the other lie there.
pub records_lie : (ls : List Lines) (w s hs : List ℕ) (n f : ℕ) → Functions hs n ls → Begins w n (records_all n ls) → From s f (bounds n ls) → Lies w s f ls
unfolding Lies Functions records_all bounds
records_lie [] w s hs n f h b q = tt
records_lie (l ∷ ls) w s hs n f (h, hs') b q =
    let z : f + 0 ≡ f = omega arith in
    let x : get_or s f 0 ≡ n = rw z at (q 0) in
    let y : get_or s (f + 1) 0 ≡ n + size l = q 1 ∙ first_bound (n + size l) ls in
    let r = records_rep w 1 l n (n + size l) h.numbered refl (begins_left w n (records 1 l n) (records_all (n + size l) ls) b) in
    let later : From s (f + 1) (bounds (n + size l) ls) = λ j. let e : f + 1 + j ≡ f + suc j = omega arith in ap (λ k. get_or s k 0) e ∙ q (suc j) in (
      rw (x, y) r,
      records_lie ls w s (hs ++ (height hs l ∷ [])) (n + size l) (f + 1) hs'
          (begins_right w n (size l) (n + size l) (records 1 l n) (records_all (n + size l) ls) (records_length 1 l n) refl b) later,
    )
