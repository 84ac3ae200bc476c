-- `outlook::downward` meets its contract. Assumes nothing.
use Prim.Native.Nat.{◌-◌, ◌≤◌}
use lib.ListN.{get_or}
use mathlib.Core.Path.{◌≡◌}
use native.Mathlib.Omega.{arith}
use borrow.Author.Rules.{rules}
use Rattle.rows.specs.Leaves.{numbers}
use Rattle.rows.specs.Rows.{kind_at}
use Rattle.place.proofs.Lent.{leaf_held, level_open}
use Rattle.place.proofs.Falling.{head_of}
use Rattle.outlook.proofs.Quieting.{low_of, stop}
use Rattle.outlook.proofs.Levels.{code_running, priced_at, level_found, level_is, fall_shut, fall_out, fall_loop, fall_call, priced_lower}
use Rattle.outlook.proofs.+downward.Goals.{then-l-eq1-via-then-l-eq1, then-l-eq1-via-else-l-eq1+then-is_none}
use Rattle.outlook.proofs.+downward.Goals as goal

pub span-level-requires : goal.span-level-requires
span-level-requires t c = level_open (code_running c.requires)

pub behind-requires : goal.behind-requires
behind-requires t c = priced_at c.requires c.span-level.ensures.0 c.span-level.ensures.1

pub unreachable-requires : goal.unreachable-requires
unreachable-requires t c =
    let (v, e, h) = level_found c.requires c.span-level.ensures.0 c.span-level.ensures.1 c.behind.ensures in
    search rules

pub returns-then-l-eq1 : goal.returns-then-l-eq1
returns-then-l-eq1 t c =
    λ q. let v = level_is q c.in-Some.is c.span-level.ensures.0 c.span-level.ensures.1 c.behind.ensures in
    elim c.then-l-eq1.branch [
      | then-l-eq1-via-then-l-eq1 w ↦ fall_out q w.if-l-eq1.true v
      | then-l-eq1-via-else-l-eq1+then-is_none w ↦ fall_shut q (search rules) v
    ]

pub kind_of-requires : goal.kind_of-requires
kind_of-requires t c =
    leaf_held c.args.priced.now.code.row.now (head_of c.requires.running (omega (arith, c.requires.least, c.if-l-eq1.false))).room

pub then-requires : goal.then-requires
then-requires t c =
    let v = level_is c.requires c.in-Some.is c.span-level.ensures.0 c.span-level.ensures.1 c.behind.ensures in
    (low_of v (omega arith), low_of stop (omega arith))

pub returns-then-eq : goal.returns-then-eq
returns-then-eq t c =
    let k : kind_at (numbers c.args.priced.now.code.row.now) (get_or c.args.leaves.now (c.args.l - 1) 0) ≡ 2 = search rules in
    λ q. fall_loop q (omega (arith, q.least, c.if-l-eq1.false)) k (level_is q c.in-Some.is c.span-level.ensures.0 c.span-level.ensures.1 c.behind.ensures) c.then.ensures

pub downward-requires : goal.downward-requires
downward-requires t c =
    let h : 2 ≤ c.args.l = omega (arith, c.requires.least, c.if-l-eq1.false) in
    (omega (arith, c.decreases), priced_lower c.requires h)

pub then-requires-2 : goal.then-requires-2
then-requires-2 t c =
    let q = c.requires in
    let h : 2 ≤ c.args.l = omega (arith, q.least, c.if-l-eq1.false) in
    (low_of (level_is q c.in-Some.is c.span-level.ensures.0 c.span-level.ensures.1 c.behind.ensures) (omega arith), low_of (c.downward.ensures (priced_lower q h)) (omega (arith, q.most)))

pub returns : goal.returns
returns t c =
    let k : kind_at (numbers c.args.priced.now.code.row.now) (get_or c.args.leaves.now (c.args.l - 1) 0) ≡ 2 → ⊥ = search rules in
    λ q. fall_call q (omega (arith, q.least, c.if-l-eq1.false)) k (level_is q c.in-Some.is c.span-level.ensures.0 c.span-level.ensures.1 c.behind.ensures) c.downward.ensures c.then-2.ensures
