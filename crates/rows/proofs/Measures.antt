-- What the rules ask line by line, and what they ask of the measures of lines. Assumes nothing.
use mathlib.Core.Path.{◌≡◌, ap}
use mathlib.Core.List.{List}
use Prim.Native.Nat.{ℕ, suc, ◌+◌, ◌-◌, ◌≤◌}
use native.Mathlib.Omega.{arith}
use lib.ListN.{length}
use Rattle.model.specs.Plan.{Block, Lines, close, leaf_line, call_line, loop_line, if_line}
use Rattle.model.specs.Levels.{height}
use Rattle.model.specs.Acceptance.{size, depth, Numbered, Ranged, Function}
use Rattle.rows.specs.Rows.{other_at, after_at, Rep, Rules, Part}

-- The records of lines are as many as their leaves.
pub rep_size : (w : List ℕ) (ls : Lines) (l i e : ℕ) → Rep w l i e ls → e ≡ i + size ls
unfolding Rep size
rep_size w close l i e h = omega arith
rep_size w (leaf_line b r) l i e h = omega (arith, rep_size w r l (after_at w i) e h.4)
rep_size w (call_line b f r) l i e h = omega (arith, rep_size w r l (after_at w i) e h.4)
rep_size w (loop_line b n body r) l i e h =
    omega (arith, rep_size w body (suc l) (i + 1) (after_at w i) h.3, rep_size w r l (after_at w i) e h.4)
rep_size w (if_line b t s r) l i e h =
    omega
    (arith, rep_size w t l (i + 1) (other_at w i) h.2, rep_size w s l (other_at w i) (after_at w i) h.3, rep_size w r l (after_at w i) e h.4)

-- Lines that lie in a row are numbered by their places.
numbered : (w : List ℕ) (ls : Lines) (l i e : ℕ) → Rep w l i e ls → Numbered i ls
unfolding Rep Numbered
numbered w close l i e h = tt
numbered w (leaf_line b r) l i e h = (ap (λ (x : Block). x.number) h.0.1, rw h.3 at (numbered w r l (after_at w i) e h.4))
numbered w (call_line b f r) l i e h = (ap (λ (x : Block). x.number) h.0.1, rw h.3 at (numbered w r l (after_at w i) e h.4))
numbered w (loop_line b n body r) l i e h = (
  ap (λ (x : Block). x.number) h.0.1,
  numbered w body (suc l) (i + 1) (after_at w i) h.3,
  rw (rep_size w body (suc l) (i + 1) (after_at w i) h.3) at (numbered w r l (after_at w i) e h.4),
)
numbered w (if_line b t s r) l i e h =
    let x = rep_size w t l (i + 1) (other_at w i) h.2 in
    let y : after_at w i ≡ i + 1 + size t + size s = omega (arith, rep_size w s l (other_at w i) (after_at w i) h.3) in (
      ap (λ (x : Block). x.number) h.0.1,
      numbered w t l (i + 1) (other_at w i) h.2,
      rw x at (numbered w s l (other_at w i) (after_at w i) h.3),
      rw y at (numbered w r l (after_at w i) e h.4),
    )

module _ (hs : List ℕ) where
  -- From the measures to the lines.
  pub rules : (ls : Lines) (left l : ℕ) → Ranged (length hs) ls → l + height hs ls ≤ 33 → depth ls ≤ left → Rules hs left l ls
  unfolding Rules Ranged height depth
  rules close left l r h d = tt
  rules (leaf_line b rest) left l r h d = (r.0, omega arith, rules rest left l r.1 (omega arith) d)
  rules (call_line b f rest) left l r h d = (r.0, r.1, r.2, omega arith, rules rest left l r.3 (omega arith) d)
  rules (loop_line b n body rest) left l r h d = (
    r.0,
    r.1,
    r.2,
    omega arith,
    omega arith,
    rules body (left - 1) (suc l) r.3 (omega arith) (omega arith),
    rules rest left l r.4 (omega arith) (omega arith),
  )
  rules (if_line b t s rest) left l r h d = (
    r.0,
    omega arith,
    omega arith,
    rules t (left - 2) l r.1 (omega arith) (omega arith),
    rules s (left - 2) l r.2 (omega arith) (omega arith),
    rules rest left l r.3 (omega arith) (omega arith),
  )

  -- And back.
  ranged : (ls : Lines) (left l : ℕ) → Rules hs left l ls → Ranged (length hs) ls
  unfolding Rules Ranged
  ranged close left l q = tt
  ranged (leaf_line b rest) left l q = (q.0, ranged rest left l q.2)
  ranged (call_line b f rest) left l q = (q.0, q.1, q.2, ranged rest left l q.4)
  ranged (loop_line b n body rest) left l q = (q.0, q.1, q.2, ranged body (left - 1) (suc l) q.5, ranged rest left l q.6)
  ranged (if_line b t s rest) left l q = (q.0, ranged t (left - 2) l q.3, ranged s (left - 2) l q.4, ranged rest left l q.5)

  levels : (ls : Lines) (left l : ℕ) → Rules hs left l ls → l ≤ 33 → l + height hs ls ≤ 33
  unfolding Rules height
  levels close left l q z = omega arith
  levels (leaf_line b rest) left l q z = omega (arith, levels rest left l q.2 z)
  levels (call_line b f rest) left l q z = omega (arith, levels rest left l q.4 z)
  levels (loop_line b n body rest) left l q z = omega (arith, levels body (left - 1) (suc l) q.5 (omega arith), levels rest left l q.6 z)
  levels (if_line b t s rest) left l q z =
      let x = levels t (left - 2) l q.3 z in
      let y = levels s (left - 2) l q.4 z in
      let u = levels rest left l q.5 z in
      omega arith

  brackets : (ls : Lines) (left l : ℕ) → Rules hs left l ls → depth ls ≤ left
  unfolding Rules depth
  brackets close left l q = omega arith
  brackets (leaf_line b rest) left l q = brackets rest left l q.2
  brackets (call_line b f rest) left l q = brackets rest left l q.4
  brackets (loop_line b n body rest) left l q = omega (arith, brackets body (left - 1) (suc l) q.5, brackets rest left l q.6)
  brackets (if_line b t s rest) left l q =
      let x = brackets t (left - 2) l q.3 in
      let y = brackets s (left - 2) l q.4 in
      let u = brackets rest left l q.5 in
      omega arith

-- A part that is a whole function keeps the rules of a function, and a function that lies in the row is a part.
pub part_function : {w hs : List ℕ} {i e n : ℕ} (p : Part w hs 62 1 i e) → i ≡ n → Function hs n p.lines
part_function {w} {hs} {i} {e} p q =
    record {
      numbered = rw q at (numbered w p.lines 1 i e p.rep);
      ranged = ranged hs p.lines 62 1 p.rules;
      levels = omega (arith, levels hs p.lines 62 1 p.rules (omega arith));
      brackets = omega (arith, brackets hs p.lines 62 1 p.rules);
    }

abbrev pub function_part : {w hs gs : List ℕ} {i e n : ℕ} (ls : Lines) → Rep w 1 i e ls → Function gs n ls → gs ≡ hs → Part w hs 62 1 i e
function_part {w} {hs} {gs} ls r f q =
    record { lines = ls; rep = r; rules = rw q at (rules gs ls 62 1 f.ranged (omega (arith, f.levels)) (omega (arith, f.brackets))) }
