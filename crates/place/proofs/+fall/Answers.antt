use Rattle.place.proofs.Lent.{leaf_held, leaves_held, level_open}
use Rattle.rows.specs.Leaves.{numbers}
use Rattle.place.proofs.Falling.{head_of, lower, ready, level_read, level_saw, fall_found, fall_stuck, fall_out, fall_head, fall_on}
use Rattle.rows.specs.Rows.{kind_at}
use lib.ListN.{get_or}
use Prim.Native.Nat.{◌-◌, ◌≤◌}
use mathlib.Core.Path.{◌≡◌, sym, ◌∙◌}
use native.Mathlib.Omega.{arith}
use borrow.Author.Rules.{rules}
use borrow.Author.Tests.{not-true}
use Rattle.place.proofs.+fall.Goals.{then-l-eq1-via-then-l-eq1, then-l-eq1-via-else-l-eq1+then-not-sight}
use Rattle.place.proofs.+fall.Goals as goal

pub span-level-requires : goal.span-level-requires
span-level-requires t c = level_open c.requires

pub behind-requires : goal.behind-requires
behind-requires t c =
    let h = ready c.requires.running c.requires.least c.span-level.ensures.0 c.span-level.ensures.1 in
    record { room = leaves_held c.args.code.now.row.now h.0; left = 62; forms = h.1 }

pub returns-in_err-sight : goal.returns-in_err-sight
returns-in_err-sight t c = λ s.
    let q = s.running in
    let e = sym c.in_err-sight.was ∙ level_read q c.requires.least c.args.x c.span-level.ensures.0 c.span-level.ensures.1 (c.behind.ensures 62) in
    absurd (search rules)

pub returns-then-sight : goal.returns-then-sight
returns-then-sight t c = λ s.
    let q = s.running in
    let s = level_saw q c.requires.least c.args.x c.span-level.ensures.0 c.span-level.ensures.1 c.in_ok-sight.was (c.behind.ensures 62) in
    fall_found q c.requires.least c.args.x s c.if-sight.true

pub returns-then-l-eq1 : goal.returns-then-l-eq1
returns-then-l-eq1 t c = λ s.
    let q = s.running in
    let s = level_saw q c.requires.least c.args.x c.span-level.ensures.0 c.span-level.ensures.1 c.in_ok-sight.was (c.behind.ensures 62) in
    elim c.then-l-eq1.branch [
      | then-l-eq1-via-then-l-eq1 w ↦ fall_out q c.requires.least c.args.x s c.if-sight.false w.if-l-eq1.true
      | then-l-eq1-via-else-l-eq1+then-not-sight w ↦ fall_stuck q c.requires.least c.args.x s c.if-sight.false (not-true _ w.if-not-sight.true)
    ]

pub kind_of-requires : goal.kind_of-requires
kind_of-requires t c =
    leaf_held c.args.code.now.row.now (head_of c.requires.running (omega (arith, c.requires.least, c.if-l-eq1.false))).room

pub fall-requires : goal.fall-requires
fall-requires t c =
    let h : 2 ≤ c.args.l = omega (arith, c.requires.least, c.if-l-eq1.false) in
    (omega (arith, c.decreases), record { least = omega arith; most = omega (arith, c.requires.most); running = lower c.requires.running c.requires.least h })

pub returns-then-ne : goal.returns-then-ne
returns-then-ne t c =
    let h : 2 ≤ c.args.l = omega (arith, c.requires.least, c.if-l-eq1.false) in
    let k : kind_at (numbers c.args.code.now.row.now) (get_or c.args.leaves.now (c.args.l - 1) 0) ≡ 2 → ⊥ = search rules in
    λ s.
    let q = s.running in
    let s = level_saw q c.requires.least c.args.x c.span-level.ensures.0 c.span-level.ensures.1 c.in_ok-sight.was (c.behind.ensures 62) in
    fall_on q c.requires.least h c.args.x c.fall.result s c.if-sight.false (search rules) k (λ z. c.fall.ensures (record { least = omega arith; most = omega (arith, c.requires.most); running = z }))

pub returns : goal.returns
returns t c =
    let h : 2 ≤ c.args.l = omega (arith, c.requires.least, c.if-l-eq1.false) in
    let k : kind_at (numbers c.args.code.now.row.now) (get_or c.args.leaves.now (c.args.l - 1) 0) ≡ 2 = search rules in
    λ s.
    let q = s.running in
    let s = level_saw q c.requires.least c.args.x c.span-level.ensures.0 c.span-level.ensures.1 c.in_ok-sight.was (c.behind.ensures 62) in
    fall_head q c.requires.least h c.args.x s c.if-sight.false (search rules) k c.then_some.ensures
