-- A row is that of one plan: the records tell the forms, the bounds tell where a function ends.
use Prim.Native.Nat.{ℕ, ◌+◌}
use mathlib.Core.Path.{◌≡◌, refl, sym, ap, ap₂, ◌∙◌, subst}
use mathlib.Core.Bool.{Bool, true, false}
use mathlib.Core.List.{List, [], ◌∷◌, ◌++◌}
use native.Mathlib.Omega.{arith}
use lib.ListN.{length, get_or}
use Rattle.model.specs.Plan.{Block, Lines, close, leaf_line, call_line, loop_line, if_line, Plan}
use Rattle.model.specs.Levels.{height}
use Rattle.model.specs.Acceptance.{size, Numbered, Functions, Formed}
use Rattle.model.specs.Places.{bit}
use Rattle.rows.specs.Records.{entry, records, records_all, bounds, row_of, bounds_of}
use Rattle.rows.proofs.Records.{records_length, bounds_length}

cons_same : {x y : ℕ} {a b : List ℕ} → x ∷ a ≡ y ∷ b → (x ≡ y) × (a ≡ b)
cons_same e = (cc, cc)

never_cons : {A : Type 0} {x : ℕ} {a : List ℕ} → [] ≡ x ∷ a → A
never_cons e = let z : ◌≡◌ {A = ℕ} 0 1 = cc in absurd (omega arith)

append_same : (a b c d : List ℕ) → length a ≡ length c → a ++ b ≡ c ++ d → (a ≡ c) × (b ≡ d)
append_same [] b [] d h e = (refl, e)
append_same [] b (y ∷ c) d h e = absurd (omega arith)
append_same (x ∷ a) b [] d h e = absurd (omega arith)
append_same (x ∷ a) b (y ∷ c) d h e =
    let (p, q) = cons_same e in
    let (r, s) = append_same a b c d (omega arith) q in
    (ap₂ (λ u v. u ∷ v) p r, s)

bit_same : (p q : Bool) → bit p ≡ bit q → p ≡ q
bit_same true true e = refl
bit_same true false e = absurd (omega arith)
bit_same false true e = absurd (omega arith)
bit_same false false e = refl

block_one : (b c : Block) → b.number ≡ c.number → b.point ≡ c.point → b.isolated ≡ c.isolated → b.max_load ≡ c.max_load → b ≡ c
block_one b c p q r s = λ j. record { number = p j; point = q j; isolated = r j; max_load = s j }

-- What two records that are the same have in common, and the rows behind them.
record Alike (kind kind' : ℕ) (b c : Block) (detail detail' other other' after after' : ℕ) (r s : List ℕ) : Type 0 where
  pub kinds : kind ≡ kind'
  pub blocks : b.number ≡ c.number → b ≡ c
  pub details : detail ≡ detail'
  pub others : other ≡ other'
  pub afters : after ≡ after'
  pub behind : r ≡ s

alike : {kind kind' : ℕ} (b c : Block) {detail detail' other other' after after' level level' : ℕ} {r s : List ℕ} →
    entry kind b detail other after level ++ r ≡ entry kind' c detail' other' after' level' ++ s → Alike kind kind' b c detail detail' other other' after after' r s
alike b c e =
    let (k, e₁) = cons_same e in
    let (p, e₂) = cons_same e₁ in
    let (i, e₃) = cons_same e₂ in
    let (m, e₄) = cons_same e₃ in
    let (x, e₅) = cons_same e₄ in
    let (y, e₆) = cons_same e₅ in
    let (z, e₇) = cons_same e₆ in
    let (l, e₈) = cons_same e₇ in
    record { kinds = k; blocks = λ n. block_one b c n (bit_same b.point c.point p) i m; details = x; others = y; afters = z; behind = e₈ }

never_alike : {A : Type 0} {kind kind' : ℕ} (b c : Block) {detail detail' other other' after after' level level' : ℕ} {r s : List ℕ} → (kind ≡ kind' → ⊥) →
    entry kind b detail other after level ++ r ≡ entry kind' c detail' other' after' level' ++ s → A
never_alike b c h e = absurd (h (alike b c e).kinds)

-- Forms that are numbered from n on are told by their records.
pub records_one : (L : ℕ) (x y : Lines) (n : ℕ) → Numbered n x → Numbered n y → records L x n ≡ records L y n → x ≡ y
unfolding records Numbered
records_one L close close n u v e = refl
records_one L close (leaf_line c rest') n u v e = never_cons e
records_one L close (call_line c g rest') n u v e = never_cons e
records_one L close (loop_line c k body' rest') n u v e = never_cons e
records_one L close (if_line c then' else' rest') n u v e = never_cons e
records_one L (leaf_line b rest) close n u v e = never_cons (sym e)
records_one L (leaf_line b rest) (leaf_line c rest') n (p, u) (q, v) e =
    let s = alike b c e in
    let t : rest ≡ rest' = records_one L rest rest' (n + 1) u v s.behind in
    λ j. leaf_line (s.blocks (p ∙ sym q) j) (t j)
records_one L (leaf_line b rest) (call_line c g rest') n u v e = never_alike b c (λ q. omega arith) e
records_one L (leaf_line b rest) (loop_line c k body' rest') n u v e = never_alike b c (λ q. omega arith) e
records_one L (leaf_line b rest) (if_line c then' else' rest') n u v e = never_alike b c (λ q. omega arith) e
records_one L (call_line b f rest) close n u v e = never_cons (sym e)
records_one L (call_line b f rest) (leaf_line c rest') n u v e = never_alike b c (λ q. omega arith) e
records_one L (call_line b f rest) (call_line c g rest') n (p, u) (q, v) e =
    let s = alike b c e in
    let t : rest ≡ rest' = records_one L rest rest' (n + 1) u v s.behind in
    λ j. call_line (s.blocks (p ∙ sym q) j) (s.details j) (t j)
records_one L (call_line b f rest) (loop_line c k body' rest') n u v e = never_alike b c (λ q. omega arith) e
records_one L (call_line b f rest) (if_line c then' else' rest') n u v e = never_alike b c (λ q. omega arith) e
records_one L (loop_line b m body rest) close n u v e = never_cons (sym e)
records_one L (loop_line b m body rest) (leaf_line c rest') n u v e = never_alike b c (λ q. omega arith) e
records_one L (loop_line b m body rest) (call_line c g rest') n u v e = never_alike b c (λ q. omega arith) e
records_one L (loop_line b m body rest) (loop_line c k body' rest') n (p, u₁, u₂) (q, v₁, v₂) e =
    let s = alike b c e in
    let w : n + 1 + size body ≡ n + 1 + size body' = s.afters in
    let (f, g) = append_same (records (L + 1) body (n + 1)) _ (records (L + 1) body' (n + 1)) _ (omega (arith, records_length (L + 1) body (n + 1), records_length (L + 1) body' (n + 1))) s.behind in
    let d : body ≡ body' = records_one (L + 1) body body' (n + 1) u₁ v₁ f in
    let t : rest ≡ rest' = records_one L rest rest' (n + 1 + size body) u₂ (subst (λ x. Numbered x rest') (sym w) v₂) (g ∙ ap (records L rest') (sym w)) in
    λ j. loop_line (s.blocks (p ∙ sym q) j) (s.details j) (d j) (t j)
records_one L (loop_line b m body rest) (if_line c then' else' rest') n u v e = never_alike b c (λ q. omega arith) e
records_one L (if_line b then else rest) close n u v e = never_cons (sym e)
records_one L (if_line b then else rest) (leaf_line c rest') n u v e = never_alike b c (λ q. omega arith) e
records_one L (if_line b then else rest) (call_line c g rest') n u v e = never_alike b c (λ q. omega arith) e
records_one L (if_line b then else rest) (loop_line c k body' rest') n u v e = never_alike b c (λ q. omega arith) e
records_one L (if_line b then else rest) (if_line c then' else' rest') n (p, u₁, u₂, u₃) (q, v₁, v₂, v₃) e =
    let s = alike b c e in
    let w : n + 1 + size then ≡ n + 1 + size then' = s.others in
    let z : n + 1 + size then + size else ≡ n + 1 + size then' + size else' = s.afters in
    let (f, g) = append_same (records L then (n + 1)) _ (records L then' (n + 1)) _ (omega (arith, records_length L then (n + 1), records_length L then' (n + 1))) s.behind in
    let (h, i) = append_same (records L else (n + 1 + size then)) _ (records L else' (n + 1 + size then')) _
    (omega (arith, records_length L else (n + 1 + size then), records_length L else' (n + 1 + size then'))) g in
    let d₁ : then ≡ then' = records_one L then then' (n + 1) u₁ v₁ f in
    let d₂ : else ≡ else' = records_one L else else' (n + 1 + size then) u₂ (subst (λ x. Numbered x else') (sym w) v₂) (h ∙ ap (records L else') (sym w)) in
    let t : rest ≡ rest' = records_one L rest rest' (n + 1 + size then + size else) u₃ (subst (λ x. Numbered x rest') (sym z) v₃) (i ∙ ap (records L rest') (sym z)) in
    λ j. if_line (s.blocks (p ∙ sym q) j) (d₁ j) (d₂ j) (t j)

bounds_head : (n : ℕ) (ls : List Lines) → get_or (bounds n ls) 0 0 ≡ n
unfolding bounds
bounds_head n [] = refl
bounds_head n (l ∷ ls) = refl

-- Functions are told by their records and bounds.
functions_one : (hs : List ℕ) (n : ℕ) (ls ks : List Lines) → Functions hs n ls → Functions hs n ks → bounds n ls ≡ bounds n ks → records_all n ls ≡ records_all n ks → ls ≡ ks
unfolding Functions bounds records_all
functions_one hs n [] [] f g b r = refl
functions_one hs n [] (k ∷ ks) f g b r = let z : 0 ≡ length (bounds (n + size k) ks) = ap length (cons_same b).1 in absurd (omega (arith, bounds_length (n + size k) ks))
functions_one hs n (l ∷ ls) [] f g b r = let z : length (bounds (n + size l) ls) ≡ 0 = ap length (cons_same b).1 in absurd (omega (arith, bounds_length (n + size l) ls))
functions_one hs n (l ∷ ls) (k ∷ ks) (f, f') (g, g') b r =
    let (z, c) = cons_same b in
    let w : n + size l ≡ n + size k = sym (bounds_head (n + size l) ls) ∙ (ap (λ x. get_or x 0 0) c ∙ bounds_head (n + size k) ks) in
    let (s, t) = append_same (records 1 l n) _ (records 1 k n) _ (omega (arith, records_length 1 l n, records_length 1 k n)) r in
    let e : l ≡ k = records_one 1 l k n f.numbered g.numbered s in
    ap₂ (λ u v. u ∷ v) e
    (functions_one (hs ++ (height hs l ∷ [])) (n + size l) ls ks f' (subst (λ x. Functions (hs ++ (height hs x ∷ [])) (n + size x) ks) (sym e) g')
    (c ∙ ap (λ x. bounds (n + size x) ks) (sym e)) (t ∙ ap (λ x. records_all (n + size x) ks) (sym e)))

-- Two plans with the same deadline, switch cost, edition, row and bounds are one.
pub row_one : (p q : Plan) → Formed p → Formed q → p.deadline ≡ q.deadline → p.switch ≡ q.switch → p.edition ≡ q.edition → row_of p ≡ row_of q → bounds_of p ≡ bounds_of q → p ≡ q
row_one p q v w d s u r b =
    let e : p.functions ≡ q.functions = functions_one [] 0 p.functions q.functions v.each w.each b r in
    λ j. record { deadline = d j; switch = s j; edition = u j; functions = e j }
