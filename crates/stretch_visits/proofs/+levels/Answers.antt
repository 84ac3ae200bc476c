-- `stretch_visits::levels` meets its contract. Assumes nothing.
use Prim.Native.Nat.{◌-◌, ◌≤◌}
use lib.ListN.{get_or}
use mathlib.Core.Bool.{true, false}
use mathlib.Core.Path.{◌≡◌}
use native.Mathlib.Omega.{arith}
use borrow.Author.Rules.{rules}
use Rattle.rows.specs.Leaves.{numbers}
use Rattle.rows.specs.Rows.{kind_at}
use Rattle.place.proofs.Lent.{leaf_held, level_open}
use Rattle.place.proofs.Falling.{head_of}
use Rattle.outlook.proofs.Levels.{code_running}
use Rattle.stretch_visits.proofs.Descending.{level_notes, run_stop, run_out, run_loop, run_call, room_level, room_lower}
use Rattle.stretch_visits.proofs.+levels.Goals.{then-not-out-via-then-not-out, then-not-out-via-else-not-out+then-l-eq1}
use Rattle.stretch_visits.proofs.+levels.Goals as goal

pub span-level-requires : goal.span-level-requires
span-level-requires t c = level_open (code_running c.requires.run)

pub behind-out-requires : goal.behind-out-requires
behind-out-requires t c = record { held = room_level c.requires c.span-level.ensures.0 c.span-level.ensures.1 c.beneath-e.ensures.small }

pub returns-then-not-out : goal.returns-then-not-out
returns-then-not-out t c =
    λ q. let n = level_notes q c.span-level.ensures.0 c.span-level.ensures.1 (c.beneath-e.ensures.sum q) c.behind-out.ensures in
    elim c.then-not-out.branch [
      | then-not-out-via-then-not-out w ↦ let z : c.behind-out.result ≡ false = search rules in run_stop q (rw z at n)
      | then-not-out-via-else-not-out+then-l-eq1 w ↦ let z : c.behind-out.result ≡ true = search rules in run_out q w.if-l-eq1.true (rw z at n)
    ]

pub kind_of-requires : goal.kind_of-requires
kind_of-requires t c =
    let q = c.requires.run in
    leaf_held c.args.priced.now.code.row.now (head_of q.running (omega (arith, q.least, c.if-l-eq1.false))).room

pub levels-requires : goal.levels-requires
levels-requires t c =
    let r = c.requires in
    let h : 2 ≤ c.args.l = omega (arith, r.run.least, c.if-l-eq1.false) in
    let n = level_notes r.run c.span-level.ensures.0 c.span-level.ensures.1 (c.beneath-e.ensures.sum r.run) c.behind-out.ensures in
    (omega (arith, c.decreases), room_lower r h n)

pub returns-then-ne : goal.returns-then-ne
returns-then-ne t c =
    let k : kind_at (numbers c.args.priced.now.code.row.now) (get_or c.args.leaves.now (c.args.l - 1) 0) ≡ 2 → ⊥ = search rules in
    let z : c.behind-out.result ≡ true = search rules in
    λ q. let n = level_notes q c.span-level.ensures.0 c.span-level.ensures.1 (c.beneath-e.ensures.sum q) c.behind-out.ensures in
    run_call q (omega (arith, q.least, c.if-l-eq1.false)) k (rw z at n) c.levels.ensures

pub returns-else-ne : goal.returns-else-ne
returns-else-ne t c =
    let k : kind_at (numbers c.args.priced.now.code.row.now) (get_or c.args.leaves.now (c.args.l - 1) 0) ≡ 2 = search rules in
    let z : c.behind-out.result ≡ true = search rules in
    λ q. let n = level_notes q c.span-level.ensures.0 c.span-level.ensures.1 (c.beneath-e.ensures.sum q) c.behind-out.ensures in
    run_loop q (omega (arith, q.least, c.if-l-eq1.false)) k (rw z at n)
