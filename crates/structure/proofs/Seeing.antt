-- Rule 8 on the records of a function: a record with a point is a point itself, and none stands inside a silent loop. Assumes nothing.
use mathlib.Core.Path.{◌≡◌, refl, sym, ap, ◌∙◌}
use mathlib.Core.Bool.{Bool, true, false}
use mathlib.Core.List.{List}
use mathlib.Core.Logic.{◌⊎◌, inl, inr, ⊎_elim}
use Prim.Native.Nat.{ℕ, suc, ◌+◌, ◌≤◌, ◌<◌, max}
use native.Mathlib.Omega.{arith}
use native.Mathlib.Decide.{dec_le, dec_lt}
use lib.Dec.{eqb}
use lib.ListN.{length}
use borrow.Author.Tests.{eq-eqb, ne_eqb}
use Rattle.model.specs.Plan.{Block, Lines, close, leaf_line, call_line, loop_line, if_line}
use Rattle.model.specs.Forms.{Forms, forms}
use Rattle.model.specs.Acceptance.{Ranged, Seen}
use Rattle.model.specs.Places.{pick}
use Rattle.rows.specs.Rows.{kind_at, point_at, detail_at, other_at, after_at, block_at, Rep}
use Rattle.rows.proofs.Shape.{rep_le}
use Rattle.structure.specs.Private.{Text, Pointed, Flags, HasPoint, silent_end, Allowed}
use Rattle.structure.proofs.PointRecords.{PointRecord, point_true, point_false, flag_on, flag_off, pointed_record, record_pointed}

-- Every record with a point from i up to e is a point itself, and none is inside a silent loop.
pub record SeenRecords (w : List ℕ) (has : List Bool) (i e : ℕ) : Type 0 where
  pub points : (j : ℕ) → i ≤ j → j < e → HasPoint w has j → point_at w j ≡ 1
  pub loops : (k j : ℕ) → i ≤ k → k < j → j < e → j < silent_end w k → HasPoint w has j → ⊥

records_part : {w : List ℕ} {has : List Bool} {i e a b : ℕ} → SeenRecords w has i e → i ≤ a → b ≤ e → SeenRecords w has a b
records_part h x y =
    record { points = λ j u v. h.points j (omega arith) (omega arith); loops = λ k j u v z. h.loops k j (omega arith) v (omega arith) }

module _ (w : List ℕ) (i : ℕ) where
  pub silent_loop : point_at w i ≡ 0 → kind_at w i ≡ 2 → silent_end w i ≡ after_at w i
  unfolding silent_end
  silent_loop a b = rw (eq-eqb (point_at w i) 0 a, eq-eqb (kind_at w i) 2 b)

  pub not_silent : (point_at w i ≡ 0 → ⊥) → silent_end w i ≡ 0
  unfolding silent_end
  not_silent a = rw (ne_eqb (point_at w i) 0 a)

  pub not_loop : (kind_at w i ≡ 2 → ⊥) → silent_end w i ≡ 0
  unfolding silent_end
  not_loop a = go (eqb (point_at w i) 0)
    where
      go : (t : Bool) → pick t (pick (eqb (kind_at w i) 2) (after_at w i) 0) 0 ≡ 0
      go true = rw (ne_eqb (kind_at w i) 2 a)
      go false = refl

-- Seen lines that begin at the record j, in a function after these.
record Sub (w : List ℕ) (fs : List Forms) (j : ℕ) : Type 0 where
  lines : Lines
  level : ℕ
  end : ℕ
  starts : j < end
  rep : Rep w level j end lines
  ranged : Ranged (length fs) lines
  seen : Seen (forms fs lines)

module _ (w : List ℕ) (fs : List Forms) where
  at_first : (ls : Lines) (l i e j : ℕ) → Rep w l i e ls → Ranged (length fs) ls → Seen (forms fs ls) → i < e → j ≡ i → Sub w fs j
  at_first ls l i e j h q s lt p = record { lines = ls; level = l; end = e; starts = omega arith; rep = rw p h; ranged = q; seen = s }

  -- Every record of seen lines is the first of seen lines.
  sub : (ls : Lines) (l i e : ℕ) → Rep w l i e ls → Ranged (length fs) ls → Seen (forms fs ls) → (j : ℕ) → i ≤ j → j < e → Sub w fs j
  unfolding Rep Ranged Seen forms
  sub close l i e h q s j a b = absurd (omega arith)
  sub (leaf_line x r) l i e h q s j a b =
      elim (dec_le j i) [
        | yes z ↦ at_first (leaf_line x r) l i e j h q s (omega arith) (omega arith)
        | no z ↦ sub r l (after_at w i) e h.4 q.1 s j (omega arith) b
      ]
  sub (call_line x f r) l i e h q s j a b =
      elim (dec_le j i) [
        | yes z ↦ at_first (call_line x f r) l i e j h q s (omega arith) (omega arith)
        | no z ↦ sub r l (after_at w i) e h.4 q.3 s.1 j (omega arith) b
      ]
  sub (loop_line x n body r) l i e h q s j a b =
      elim (dec_le j i) [
        | yes z ↦ at_first (loop_line x n body r) l i e j h q s (omega arith) (omega arith)
        | no z ↦
            elim (dec_lt j (after_at w i)) [
              | yes y ↦ sub body (suc l) (i + 1) (after_at w i) h.3 q.3 s.1 j (omega arith) y
              | no y ↦ sub r l (after_at w i) e h.4 q.4 s.2 j (omega arith) b
            ]
      ]
  sub (if_line x t u r) l i e h q s j a b =
      elim (dec_le j i) [
        | yes z ↦ at_first (if_line x t u r) l i e j h q s (omega arith) (omega arith)
        | no z ↦
            elim (dec_lt j (other_at w i)) [
              | yes y ↦ sub t l (i + 1) (other_at w i) h.2 q.1 s.0 j (omega arith) y
              | no y ↦
                  elim (dec_lt j (after_at w i)) [
                    | yes v ↦ sub u l (other_at w i) (after_at w i) h.3 q.2 s.1 j (omega arith) v
                    | no v ↦ sub r l (after_at w i) e h.4 q.3 s.2 j (omega arith) b
                  ]
            ]
      ]

differ : (p : Bool) → p ≡ false → p ≡ true → ⊥
differ p a b = let z : ◌≡◌ {A = ℕ} 0 1 = cc in omega arith

module _ {has : List Bool} {fs : List Forms} (g : Flags has fs) (w : List ℕ) where
  plain : (i k : ℕ) → kind_at w i ≡ k → (k ≡ 1 → ⊥) → HasPoint w has i → point_at w i ≡ 1
  plain i k kind n x = ⊎_elim (λ y. y) (λ y. absurd (n (sym kind ∙ y.0))) x

  -- Of the first record of seen lines.
  first_point : (ls : Lines) (l i e : ℕ) → Rep w l i e ls → Ranged (length fs) ls → Seen (forms fs ls) → i < e → HasPoint w has i → point_at w i ≡ 1
  unfolding Rep Ranged Seen forms
  first_point close l i e h q s lt x = absurd (omega arith)
  first_point (leaf_line b r) l i e h q s lt x = plain i 0 h.0.0 (λ z. omega arith) x
  first_point (call_line b f r) l i e h q s lt x =
      elim (dec_le 1 (point_at w i)) [
        | yes z ↦ omega (arith, h.0.2)
        | no z ↦
            ⊎_elim (λ y. y)
            (λ y.
            let p = flag_off g q.2 (rw h.1 at y.1) in
            absurd (s.0 (point_false w i h.0.1 (omega arith)) p.0 p.1))
            x
      ]
  first_point (loop_line b n body r) l i e h q s lt x = plain i 2 h.0.0 (λ z. omega arith) x
  first_point (if_line b t u r) l i e h q s lt x = plain i 3 h.0.0 (λ z. omega arith) x

  first_loop : (ls : Lines) (l i e : ℕ) → Rep w l i e ls → Ranged (length fs) ls → Seen (forms fs ls) → i < e → (j : ℕ) → i < j → j < silent_end w i → HasPoint w has j → ⊥
  unfolding Rep Ranged Seen forms
  first_loop close l i e h q s lt j a b x = omega arith
  first_loop (leaf_line c r) l i e h q s lt j a b x = omega (arith, not_loop w i (λ z. omega arith))
  first_loop (call_line c f r) l i e h q s lt j a b x = omega (arith, not_loop w i (λ z. omega arith))
  first_loop (loop_line c n body r) l i e h q s lt j a b x =
      elim (dec_le 1 (point_at w i)) [
        | yes z ↦ omega (arith, not_silent w i (λ y. omega arith))
        | no z ↦
            let d : point_at w i ≡ 0 = omega arith in
            let k = silent_loop w i d h.0.0 in
            let p = record_pointed g w body (suc l) (i + 1) (after_at w i) h.3 q.3 j (omega arith) (omega arith) x in
            s.0 (point_false w i h.0.1 d) p.0 p.1
      ]
  first_loop (if_line c t u r) l i e h q s lt j a b x = omega (arith, not_loop w i (λ z. omega arith))

  pub seen_records : (ls : Lines) (l i e : ℕ) → Rep w l i e ls → Ranged (length fs) ls → Seen (forms fs ls) → SeenRecords w has i e
  seen_records ls l i e h q s =
      record {
        points = λ j a b x.
            let t = sub w fs ls l i e h q s j a b in
            first_point t.lines t.level j t.end t.rep t.ranged t.seen t.starts x;
        loops = λ k j a b c d x.
            let t = sub w fs ls l i e h q s k a (omega arith) in
            first_loop t.lines t.level k t.end t.rep t.ranged t.seen t.starts j b d x;
      }

  silent : (i : ℕ) (b : Block) → b ≡ block_at w i → point_at w i ≤ 1 → b.point ≡ false → point_at w i ≡ 0
  silent i b e le f =
      elim (dec_le 1 (point_at w i)) [
        | yes z ↦ absurd (differ b.point f (point_true w i e (omega arith)))
        | no z ↦ omega arith
      ]

  pub records_seen : (ls : Lines) (l i e : ℕ) → Rep w l i e ls → Ranged (length fs) ls → SeenRecords w has i e → Seen (forms fs ls)
  unfolding Rep Ranged Seen forms
  records_seen close l i e h q x = tt
  records_seen (leaf_line b r) l i e h q x = records_seen r l (after_at w i) e h.4 q.1 (records_part x (omega arith) (omega arith))
  records_seen (call_line b f r) l i e h q x =
      let k = rep_le w l (after_at w i) e r h.4 in (
        λ p n y.
            let z = silent i b h.0.1 h.0.2 p in
            let v = x.points i (omega arith) (omega arith) (inr (h.0.0, rw h.1 (flag_on g q.2 (n, y)))) in
            omega arith,
        records_seen r l (after_at w i) e h.4 q.3 (records_part x (omega arith) (omega arith)),
      )
  records_seen (loop_line b m body r) l i e h q x =
      let o = rep_le w (suc l) (i + 1) (after_at w i) body h.3 in
      let k = rep_le w l (after_at w i) e r h.4 in (
        λ p n y.
            let z = silent i b h.0.1 h.0.2 p in
            let c = pointed_record g w body (suc l) (i + 1) (after_at w i) n h.3 q.3 y in
            let d = silent_loop w i z h.0.0 in
            x.loops i c.place (omega arith) (omega (arith, c.low)) (omega (arith, c.high)) (omega (arith, c.high)) c.reaches,
        records_seen body (suc l) (i + 1) (after_at w i) h.3 q.3 (records_part x (omega arith) k),
        records_seen r l (after_at w i) e h.4 q.4 (records_part x (omega arith) (omega arith)),
      )
  records_seen (if_line b t u r) l i e h q x =
      let o = rep_le w l (i + 1) (other_at w i) t h.2 in
      let p = rep_le w l (other_at w i) (after_at w i) u h.3 in
      let k = rep_le w l (after_at w i) e r h.4 in (
        records_seen t l (i + 1) (other_at w i) h.2 q.1 (records_part x (omega arith) (omega arith)),
        records_seen u l (other_at w i) (after_at w i) h.3 q.2 (records_part x (omega arith) k),
        records_seen r l (after_at w i) e h.4 q.3 (records_part x (omega arith) (omega arith)),
      )

-- The records from i up to j keep the rule, and their silent loops reach up to `until`.
pub record SeenSoFar (w : List ℕ) (has : List Bool) (i j until : ℕ) : Type 0 where
  pub kept : SeenRecords w has i j
  pub all : (k : ℕ) → i ≤ k → k < j → silent_end w k ≤ until
  pub some : (until ≡ 0) ⊎ ((k : ℕ) × (i ≤ k) × (k < j) × (silent_end w k ≡ until))

module _ {w : List ℕ} {has : List Bool} {i j until : ℕ} (q : SeenSoFar w has i j until) where
  -- One record more.
  pub so_far_more : {r : ℕ} → i ≤ j → Allowed w has until j → r ≡ max until (silent_end w j) → SeenSoFar w has i (j + 1) r
  so_far_more {r} le ok hr =
      record {
        kept = record {
          points = λ k a b x.
              elim (dec_lt k j) [
                | yes z ↦ q.kept.points k a z x
                | no z ↦ let e : k ≡ j = omega arith in rw e (ok (rw e at x)).1
              ];
          loops = λ k n a b c d x.
              elim (dec_lt n j) [
                | yes z ↦ q.kept.loops k n a b z d x
                | no z ↦
                    let e : n ≡ j = omega arith in
                    let y = (ok (rw e at x)).0 in
                    let v = q.all k a (omega arith) in
                    omega arith
              ];
        };
        all = λ k a b.
            elim (dec_lt k j) [
              | yes z ↦ omega (arith, q.all k a z)
              | no z ↦ let e : k ≡ j = omega arith in omega (arith, ap (silent_end w) e)
            ];
        some = elim (dec_le until (silent_end w j)) [
          | yes z ↦ inr (j, le, omega arith, omega arith)
          | no z ↦ ⊎_elim (λ x. inl (omega arith)) (λ x. inr (x.0, x.1, omega arith, omega arith)) q.some
        ];
      }

  -- A record of a function that keeps the rule is allowed.
  pub records_allowed : {e : ℕ} → SeenRecords w has i e → i ≤ j → j < e → Allowed w has until j
  records_allowed {e} h le lt x = (
    elim (dec_le until j) [
      | yes z ↦ z
      | no z ↦
          ⊎_elim (λ y. omega arith) (λ y. absurd (h.loops y.0 j y.1 y.2 lt (omega arith) x)) q.some
    ],
    h.points j le lt x,
  )

-- A call names a function before its own.
module _ (w : List ℕ) (k j : ℕ) (c : kind_at w j ≡ 1) where
  below : (ls : Lines) (l i e : ℕ) → Rep w l i e ls → Ranged k ls → i ≤ j → j < e → detail_at w j < k
  unfolding Rep Ranged
  below close l i e h q a b = absurd (omega arith)
  below (leaf_line x r) l i e h q a b =
      elim (dec_le j i) [
        | yes z ↦ let v : j ≡ i = omega arith in absurd (omega (arith, ap (λ (y : ℕ). kind_at w y) v))
        | no z ↦ below r l (after_at w i) e h.4 q.1 (omega arith) b
      ]
  below (call_line x f r) l i e h q a b =
      elim (dec_le j i) [
        | yes z ↦ let v : j ≡ i = omega arith in omega (arith, ap (λ (y : ℕ). detail_at w y) v)
        | no z ↦ below r l (after_at w i) e h.4 q.3 (omega arith) b
      ]
  below (loop_line x n body r) l i e h q a b =
      elim (dec_le j i) [
        | yes z ↦ let v : j ≡ i = omega arith in absurd (omega (arith, ap (λ (y : ℕ). kind_at w y) v))
        | no z ↦
            elim (dec_lt j (after_at w i)) [
              | yes y ↦ below body (suc l) (i + 1) (after_at w i) h.3 q.3 (omega arith) y
              | no y ↦ below r l (after_at w i) e h.4 q.4 (omega arith) b
            ]
      ]
  below (if_line x t u r) l i e h q a b =
      elim (dec_le j i) [
        | yes z ↦ let v : j ≡ i = omega arith in absurd (omega (arith, ap (λ (y : ℕ). kind_at w y) v))
        | no z ↦
            elim (dec_lt j (other_at w i)) [
              | yes y ↦ below t l (i + 1) (other_at w i) h.2 q.1 (omega arith) y
              | no y ↦
                  elim (dec_lt j (after_at w i)) [
                    | yes v ↦ below u l (other_at w i) (after_at w i) h.3 q.2 (omega arith) v
                    | no v ↦ below r l (after_at w i) e h.4 q.3 (omega arith) b
                  ]
            ]
      ]

pub known_target : {w : List ℕ} {k i e : ℕ} (t : Text w k i e) (j : ℕ) → i ≤ j → j < e → kind_at w j ≡ 1 → detail_at w j < k
known_target {w} {k} {i} {e} t j a b c = below w k j c t.lines 1 i e t.rep t.ranged a b

-- Rule 8 of a function's text, by the flags of the functions before it.
module _ {w : List ℕ} {has : List Bool} {fs : List Forms} {i e : ℕ} (g : Flags has fs) (t : Text w (length has) i e) where
  pub text_records : Seen (forms fs t.lines) → SeenRecords w has i e
  text_records s = seen_records g w t.lines 1 i e t.rep (rw g.count at t.ranged) s

  pub records_text : SeenRecords w has i e → Seen (forms fs t.lines)
  records_text h = records_seen g w t.lines 1 i e t.rep (rw g.count at t.ranged) h

  pub text_record : Pointed (forms fs t.lines) → PointRecord w has i e
  text_record p = pointed_record g w t.lines 1 i e p.0 t.rep (rw g.count at t.ranged) p.1

  pub record_text : (j : ℕ) → i ≤ j → j < e → HasPoint w has j → Pointed (forms fs t.lines)
  record_text j a b x = record_pointed g w t.lines 1 i e t.rep (rw g.count at t.ranged) j a b x
