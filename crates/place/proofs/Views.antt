-- What a record says of the forms that a level opens with, and where the records of a level lie. Assumes nothing.
use mathlib.Core.Path.{◌≡◌, refl, sym, ap, ◌∙◌}
use mathlib.Core.Bool.{true, false}
use mathlib.Core.List.{List, [], ◌∷◌}
use mathlib.Core.Logic.{inl, inr}
use mathlib.Core.Option.{none, some}
use Prim.Native.Nat.{ℕ, zero, suc, ◌+◌, ◌-◌, ◌*◌, ◌≤◌, ◌<◌}
use native.Mathlib.Omega.{arith}
use native.Mathlib.Decide.{dec_le}
use lib.Dec.{eqb}
use lib.ListN.{length, get_or}
use borrow.Author.Tests.{eq-eqb, ne_eqb}
use Rattle.model.specs.Plan.{Block, Lines, close, leaf_line, call_line, loop_line, if_line}
use Rattle.model.specs.Forms.{Forms, done, leaf, call, loop, cond, ◌⊕◌, forms}
use Rattle.model.specs.Places.{◌⊕?◌}
use Rattle.model.specs.Stack.{Levels, suffix, turned, inside_of}
use Rattle.model.proofs.Places.{⊕-assoc, never, or_some, ⊕?-some}
use Rattle.model.proofs.Steps.{⊕-done}
use Rattle.rows.specs.Rows.{kind_at, detail_at, other_at, after_at, block_at, Rep, Rules, Piece}
use Rattle.place.specs.Pieces.{Spanned}
use Rattle.place.specs.Stack.{FunctionTable}
use Rattle.place.specs.Spans.{Stands, ground, Enterable, inner_from, inner_to, base_from, base_to}
use Rattle.place.specs.Private.{Nonempty}
use Rattle.rows.proofs.Shape.{rep_le}
use Rattle.place.proofs.Shape.{rules_more}
use Rattle.place.proofs.Suffixes.{number_of}
use Rattle.place.proofs.Suffixes.{from_cases}

-- Lines that begin at the record n open with the suffix at n.
pub record Stood (w hs : List ℕ) (G : List Forms) (left n e : ℕ) (s : Forms) : Type 0 where
  pub lines : Lines
  pub level : ℕ
  pub stop : ℕ
  pub rep : Rep w level n stop lines
  pub there : n < stop
  pub within : stop ≤ e
  pub rules : Rules hs left level lines
  pub behind : Forms
  pub same : s ≡ forms G lines ⊕ behind

module _ (w hs : List ℕ) (G : List Forms) where
  stood_here : (left lv i e : ℕ) (l : Lines) (n : ℕ) (s : Forms) → Rep w lv i e l → Rules hs left lv l → i < e → i ≡ n → forms G l ≡ s → Stood w hs G left n e s
  stood_here left lv i e l n s h d lt q z =
      record { lines = l; level = lv; stop = e; rep = rw q at h; there = omega arith; within = omega arith; rules = d; behind = done; same = sym z ∙ sym (⊕-done (forms G l)) }

  stood_more : {left m n e o : ℕ} {s : Forms} → left ≤ m → e ≤ o → (r u : Forms) → s ⊕ r ≡ u → Stood w hs G left n e s → Stood w hs G m n o u
  stood_more {left} {m} {n} {e} {o} {s} q lt r u z v =
      record {
        lines = v.lines;
        level = v.level;
        stop = v.stop;
        rep = v.rep;
        there = v.there;
        within = omega (arith, v.within);
        rules = rules_more hs left m v.level v.lines q v.rules;
        behind = v.behind ⊕ r;
        same = sym z ∙ ap (λ (f : Forms). f ⊕ r) v.same ∙ ⊕-assoc (forms G v.lines) v.behind r;
      }

  pub stood : (left lv i e : ℕ) (l : Lines) (n : ℕ) (s : Forms) → Rep w lv i e l → Rules hs left lv l → suffix (forms G l) n ≡ some s → Stood w hs G left n e s
  unfolding Rep Rules forms suffix
  stood left lv i e close n s h d f = never f
  stood left lv i e (leaf_line b r) n s h d f =
      elim (from_cases b n (leaf b (forms G r)) (suffix (forms G r) n) s f) [
        | inl q ↦ stood_here left lv i e (leaf_line b r) n s h d (omega (arith, rep_le w lv (after_at w i) e r h.4)) (sym (number_of h.0.1) ∙ q.0) q.1
        | inr q ↦ stood left lv (after_at w i) e r n s h.4 d.2 q.1
      ]
  stood left lv i e (call_line b m r) n s h d f =
      elim (from_cases b n (call b (get_or G m done) (forms G r)) (suffix (forms G r) n) s f) [
        | inl q ↦ stood_here left lv i e (call_line b m r) n s h d (omega (arith, rep_le w lv (after_at w i) e r h.4)) (sym (number_of h.0.1) ∙ q.0) q.1
        | inr q ↦ stood left lv (after_at w i) e r n s h.4 d.4 q.1
      ]
  stood left lv i e (loop_line b m body r) n s h d f =
      elim (from_cases b n (loop b m (forms G body) (forms G r)) (suffix (forms G r) n) s f) [
        | inl q ↦ stood_here left lv i e (loop_line b m body r) n s h d (omega (arith, rep_le w (suc lv) (i + 1) (after_at w i) body h.3, rep_le w lv (after_at w i) e r h.4)) (sym (number_of h.0.1) ∙ q.0) q.1
        | inr q ↦ stood left lv (after_at w i) e r n s h.4 d.6 q.1
      ]
  stood left lv i e (if_line b t m r) n s h d f =
      let x = rep_le w lv (i + 1) (other_at w i) t h.2 in
      let y = rep_le w lv (other_at w i) (after_at w i) m h.3 in
      let z = rep_le w lv (after_at w i) e r h.4 in
      elim (from_cases b n (cond b (forms G t) (forms G m) (forms G r)) _ s f) [
        | inl q ↦ stood_here left lv i e (if_line b t m r) n s h d (omega arith) (sym (number_of h.0.1) ∙ q.0) q.1
        | inr q ↦ elim (or_some (suffix (forms G t) n ⊕? forms G r) _ s q.1) [
          | inl j ↦ let (v, a, p) = ⊕?-some (suffix (forms G t) n) (forms G r) s j in
              stood_more {left = left - 2} {m = left} {n = n} {e = other_at w i} {o = e} {s = v} (omega arith) (omega arith) (forms G r) s p (stood (left - 2) lv (i + 1) (other_at w i) t n v h.2 d.3 a)
          | inr j ↦ elim (or_some (suffix (forms G m) n ⊕? forms G r) _ s j.1) [
            | inl j ↦ let (v, a, p) = ⊕?-some (suffix (forms G m) n) (forms G r) s j in
                stood_more {left = left - 2} {m = left} {n = n} {e = after_at w i} {o = e} {s = v} (omega arith) (omega arith) (forms G r) s p (stood (left - 2) lv (other_at w i) (after_at w i) m n v h.3 d.4 a)
            | inr j ↦ stood left lv (after_at w i) e r n s h.4 d.5 j.1
          ]
        ]
      ]

-- After its visits: a loop has turned as often, any other form is as it was.
turned_same : (v : ℕ) (s g : Forms) → ((m : ℕ) → turned s (suc m) ≡ none) → turned s v ≡ some g → s ≡ g
unfolding turned
turned_same zero s g n e = cc
turned_same (suc v) s g n e = never (sym (n v) ∙ e)

pub turned_loop : (v : ℕ) (b : Block) (n : ℕ) (body r g : Forms) → turned (loop b n body r) v ≡ some g → (m : ℕ) × (m + v ≡ n) × (g ≡ loop b m body r)
unfolding turned
turned_loop zero b n body r g e = (n, omega arith, cc)
turned_loop (suc v) b zero body r g e = never e
turned_loop (suc v) b (suc n) body r g e = let (m, p, q) = turned_loop v b n body r g e in (m, omega arith, q)

-- Only a loop is visited again, and a loop is left then.
pub turned_suc : (v : ℕ) (s g : Forms) → turned s (suc v) ≡ some g → (b : Block) × (n : ℕ) × (m : ℕ) × (body : Forms) × (r : Forms) × (s ≡ loop b n body r) × (g ≡ loop b m body r)
unfolding turned
turned_suc v done g e = never e
turned_suc v (leaf b r) g e = never e
turned_suc v (call b fun r) g e = never e
turned_suc v (loop b zero body r) g e = never e
turned_suc v (loop b (suc n) body r) g e = let (m, p, q) = turned_loop v b n body r g e in (b, suc n, m, body, r, refl, q)
turned_suc v (cond b t s r) g e = never e

-- The forms that a level opens with, by the kind of its leaf's record.
pub data View (w : List ℕ) (G : List Forms) (k p v e : ℕ) (g : Forms) : Type 0 where
  a_leaf : kind_at w p ≡ 0 → (r : Forms) → g ≡ leaf (block_at w p) r → View w G k p v e g
  a_call : kind_at w p ≡ 1 → detail_at w p < k → (r : Forms) → g ≡ call (block_at w p) (get_or G (detail_at w p) done) r → View w G k p v e g
  a_loop : kind_at w p ≡ 2 → (q : Piece w 62 (p + 1) (after_at w p)) → length q.heights ≤ k → (after_at w p ≤ e) × (detail_at w p ≤ 65535) → (m : ℕ) → m + v ≡ detail_at w p → (r : Forms) →
      g ≡ loop (block_at w p) m (forms G q.part.lines) r → View w G k p v e g
  an_if : kind_at w p ≡ 3 → (t s r : Forms) → g ≡ cond (block_at w p) t s r → View w G k p v e g

module _ (w hs : List ℕ) (G : List Forms) (k lv p v e o : ℕ) (g : Forms) (few : length hs ≤ k) where
  view_lines : (l : Lines) → Rep w lv p e l → Rules hs 62 lv l → p < e → e ≤ o → (r s : Forms) → s ≡ forms G l ⊕ r → turned s v ≡ some g → View w G k p v o g
  unfolding Rep Rules forms ◌⊕◌ turned
  view_lines close h d lt le r s z t = absurd (omega arith)
  view_lines (leaf_line b l) h d lt le r s z t =
      let y = turned_same v (leaf b (forms G l ⊕ r)) g (λ m. refl) (rw z at t) in
      a_leaf h.0.0 (forms G l ⊕ r) (sym y ∙ ap (λ (b : Block). leaf b (forms G l ⊕ r)) h.0.1)
  view_lines (call_line b f l) h d lt le r s z t =
      let y = turned_same v (call b (get_or G f done) (forms G l ⊕ r)) g (λ m. refl) (rw z at t) in
      a_call h.0.0 (omega arith) (forms G l ⊕ r) (sym y ∙ rw (h.0.1, h.1))
  view_lines (loop_line b n body l) h d lt le r s z t =
      let (m, q, y) = turned_loop v b n (forms G body) (forms G l ⊕ r) g (rw z at t) in
      a_loop h.0.0 (record { heights = hs; level = suc lv; part = record { lines = body; rep = h.3; rules = rules_more hs 61 62 (suc lv) body (omega arith) d.5 } }) few
      (omega (arith, rep_le w lv (after_at w p) e l h.4), omega (arith, h.1, d.2)) m (q ∙ sym h.1) (forms G l ⊕ r) (y ∙ ap (λ (b : Block). loop b m (forms G body) (forms G l ⊕ r)) h.0.1)
  view_lines (if_line b x y l) h d lt le r s z t =
      let u = turned_same v (cond b (forms G x) (forms G y) (forms G l ⊕ r)) g (λ m. refl) (rw z at t) in
      an_if h.0.0 (forms G x) (forms G y) (forms G l ⊕ r) (sym u ∙ ap (λ (b : Block). cond b (forms G x) (forms G y) (forms G l ⊕ r)) h.0.1)

pub view : {w : List ℕ} {G : List Forms} {k i e : ℕ} {f : Forms} → Spanned w G k i e f → (p v : ℕ) (s g : Forms) → suffix f p ≡ some s → turned s v ≡ some g →
    View w G k p v e g × (p < e)
view {w} {G} {k} {i} {e} {f} q p v s g c t =
    let d = stood w q.piece.heights G 62 q.piece.level i e q.piece.part.lines p s q.piece.part.rep q.piece.part.rules (rw q.same at c) in
    (view_lines w q.piece.heights G k d.level p v d.stop e g q.few d.lines d.rep d.rules d.there d.within d.behind s d.same t, omega (arith, d.there, d.within))

pub view_headed : {w : List ℕ} {G : List Forms} {k p v e : ℕ} {g : Forms} → View w G k p v e g → Nonempty g
view_headed (a_leaf k r z) = rw z tt
view_headed (a_call k t r z) = rw z tt
view_headed (a_loop k q cs le m s r z) = rw z tt
view_headed (an_if k t s r z) = rw z tt

-- Calls that name one of the first functions name one of more.
spanned_more : {w : List ℕ} {G : List Forms} {k i e : ℕ} {f : Forms} (m : ℕ) → k ≤ m → Spanned w G k i e f → Spanned w G m i e f
spanned_more m le s = record { piece = s.piece; few = omega (arith, s.few); same = s.same; room = s.room }

-- Inside the loop or call that a level opens with.
module _ {w starts : List ℕ} {n : ℕ} (pr : FunctionTable w starts n) where
  pub open_call : (p e : ℕ) → kind_at w p ≡ 1 → detail_at w p < n → p < e → e * 8 ≤ length w →
      Spanned w pr.funs n (inner_from w starts p) (inner_to w starts p) (get_or pr.funs (detail_at w p) done) × Enterable w starts p
  open_call p e k t lt room =
      let o : eqb (kind_at w p) 2 ≡ false = ne_eqb (kind_at w p) 2 (λ y. omega arith) in
      let sp = spanned_more n (omega arith) (pr.each (detail_at w p) t) in
      (rw o sp, record { room = omega arith; target = λ y. omega (arith, pr.fits) })

  pub open_loop : (p e : ℕ) → kind_at w p ≡ 2 → (q : Piece w 62 (p + 1) (after_at w p)) → length q.heights ≤ n → after_at w p ≤ e → p < e → e * 8 ≤ length w →
      Spanned w pr.funs n (inner_from w starts p) (inner_to w starts p) (forms pr.funs q.part.lines) × Enterable w starts p
  open_loop p e k q cs le lt room =
      let o : eqb (kind_at w p) 2 ≡ true = eq-eqb (kind_at w p) 2 k in
      let sp : Spanned w pr.funs n (p + 1) (after_at w p) (forms pr.funs q.part.lines) = record { piece = q; few = cs; same = refl; room = omega arith } in
      (rw o sp, record { room = omega arith; target = λ y. absurd (y k) })

  spanned_same : {i e : ℕ} {f g : Forms} → f ≡ g → Spanned w pr.funs n i e f → Spanned w pr.funs n i e g
  spanned_same z s = rw z at s

  open_spanned : (p v e : ℕ) (g f : Forms) → View w pr.funs n p v e g → p < e → e * 8 ≤ length w → inside_of g ≡ some f →
      Spanned w pr.funs n (inner_from w starts p) (inner_to w starts p) f × Enterable w starts p
  unfolding inside_of
  open_spanned p v e g f (a_leaf k r z) lt room c = never (rw z at c)
  open_spanned p v e g f (an_if k x y r z) lt room c = never (rw z at c)
  open_spanned p v e g f (a_call k t r z) lt room c =
      let d : get_or pr.funs (detail_at w p) done ≡ f = let y : some (get_or pr.funs (detail_at w p) done) ≡ some f = rw z at c in cc in
      let (sp, hd) = open_call p e k t lt room in
      (spanned_same d sp, hd)
  open_spanned p v e g f (a_loop k q cs le zero s r z) lt room c = never (rw z at c)
  open_spanned p v e g f (a_loop k q cs le (suc m) s r z) lt room c =
      let d : forms pr.funs q.part.lines ≡ f = let y : some (forms pr.funs q.part.lines) ≡ some f = rw z at c in cc in
      let (sp, hd) = open_loop p e k q cs le.0 lt room in
      (spanned_same d sp, hd)

  base_up : (leaves : List ℕ) (l : ℕ) → 2 ≤ l → (f : Forms) → Spanned w pr.funs n (inner_from w starts (get_or leaves (l - 1) 0)) (inner_to w starts (get_or leaves (l - 1) 0)) f →
      Spanned w pr.funs n (base_from w starts n leaves l) (base_to w starts n leaves l) f
  base_up leaves l h f s = let o : eqb l 1 ≡ false = ne_eqb l 1 (λ y. omega arith) in rw o s

  -- The main function.
  pub main_spanned : {i e : ℕ} → i ≡ get_or starts (n - 1) 0 → e ≡ get_or starts n 0 → Spanned w pr.funs n i e (get_or pr.funs (n - 1) done)
  main_spanned hi he =
      let h : n - 1 + 1 ≡ n = omega (arith, pr.count) in
      let sp = rw h at (spanned_more n (omega arith) (pr.each (n - 1) (omega (arith, pr.count)))) in
      rw (hi, he) sp

  pub level_spanned : (leaves counts : List ℕ) (ks : Levels) → Stands (get_or pr.funs (n - 1) done) leaves counts ks → (f : Forms) → ground (get_or pr.funs (n - 1) done) ks ≡ some f →
      Spanned w pr.funs n (base_from w starts n leaves (length ks + 1)) (base_to w starts n leaves (length ks + 1)) f ×
      (1 ≤ length ks → Enterable w starts (get_or leaves (length ks) 0))
  unfolding Stands ground
  level_spanned leaves counts [] st f c =
      let d : get_or pr.funs (n - 1) done ≡ f = cc in
      (spanned_same d (main_spanned refl refl), λ y. absurd (omega arith))
  level_spanned leaves counts (g ∷ ks) st f c =
      let lv = st.1 in
      let p = get_or leaves (length ks + 1) 0 in
      let below = (level_spanned leaves counts ks st.0 lv.level lv.opens).0 in
      let (v, lt) = view below p (get_or counts (length ks + 1) 0) lv.start g lv.found lv.turns in
      let (sp, hd) = open_spanned p _ _ g f v lt below.room c in
      let h : length ks + 1 ≡ length (g ∷ ks) + 1 - 1 = omega arith in
      let k : length ks + 1 ≡ length (g ∷ ks) = omega arith in
      (base_up leaves (length (g ∷ ks) + 1) (omega arith) f (rw h at sp), λ y. rw k at hd)

  -- No level ends behind the last function.
  open_end : (m p v e : ℕ) (g f : Forms) → ((j : ℕ) → j < n → get_or starts (j + 1) 0 ≤ m) → View w pr.funs n p v e g → e ≤ m → inside_of g ≡ some f → inner_to w starts p ≤ m
  unfolding inside_of
  open_end m p v e g f h (a_leaf k r z) le c = never (rw z at c)
  open_end m p v e g f h (an_if k x y r z) le c = never (rw z at c)
  open_end m p v e g f h (a_call k t r z) le c = let o : eqb (kind_at w p) 2 ≡ false = ne_eqb (kind_at w p) 2 (λ y. omega arith) in rw o (h (detail_at w p) t)
  open_end m p v e g f h (a_loop k q cs el i s r z) le c = let o : eqb (kind_at w p) 2 ≡ true = eq-eqb (kind_at w p) 2 k in rw o (omega arith)

  pub level_end : (m : ℕ) → ((j : ℕ) → j < n → get_or starts (j + 1) 0 ≤ m) → (leaves counts : List ℕ) (ks : Levels) → Stands (get_or pr.funs (n - 1) done) leaves counts ks →
      (f : Forms) → ground (get_or pr.funs (n - 1) done) ks ≡ some f → base_to w starts n leaves (length ks + 1) ≤ m
  unfolding Stands ground
  level_end m h leaves counts [] st f c =
      let k : n - 1 + 1 ≡ n = omega (arith, pr.count) in
      rw k at (h (n - 1) (omega (arith, pr.count)))
  level_end m h leaves counts (g ∷ ks) st f c =
      let lv = st.1 in
      let sp = (level_spanned leaves counts ks st.0 lv.level lv.opens).0 in
      let v = (view sp (get_or leaves (length ks + 1) 0) (get_or counts (length ks + 1) 0) lv.start g lv.found lv.turns).0 in
      let q = open_end m (get_or leaves (length ks + 1) 0) _ _ g f h v (level_end m h leaves counts ks st.0 lv.level lv.opens) c in
      let o : eqb (length (g ∷ ks) + 1) 1 ≡ false = ne_eqb (length (g ∷ ks) + 1) 1 (λ y. omega arith) in
      let i : length (g ∷ ks) + 1 - 1 ≡ length ks + 1 = omega arith in
      rw (o, i) q

  -- Each leaf of the stack is a record of the table.
  pub leaf_low : (m : ℕ) → ((j : ℕ) → j < n → get_or starts (j + 1) 0 ≤ m) → (leaves counts : List ℕ) (ls : Levels) → Stands (get_or pr.funs (n - 1) done) leaves counts ls →
      (k : ℕ) → 1 ≤ k → k ≤ length ls → get_or leaves k 0 < m
  unfolding Stands
  leaf_low m h leaves counts [] st k lo hi = absurd (omega arith)
  leaf_low m h leaves counts (g ∷ ks) st k lo hi =
      elim (dec_le k (length ks)) [
        | yes q ↦ leaf_low m h leaves counts ks st.0 k lo q
        | no q ↦
            let z : length ks + 1 ≡ k = omega arith in
            let lv = st.1 in
            let sp = (level_spanned leaves counts ks st.0 lv.level lv.opens).0 in
            let (v, lt) = view sp (get_or leaves (length ks + 1) 0) (get_or counts (length ks + 1) 0) lv.start g lv.found lv.turns in
            let o : get_or leaves (length ks + 1) 0 < m = omega (arith, lt, level_end m h leaves counts ks st.0 lv.level lv.opens) in
            rw z at o
      ]
