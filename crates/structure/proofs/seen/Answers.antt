use Rattle.structure.proofs.Seeing.{so_far_more, records_allowed, text_records, records_text, known_target}
use Rattle.rows.proofs.Shape.{rep_le}
use mathlib.Core.Path.{◌≡◌}
use native.Mathlib.Omega.{arith}
use Rattle.structure.proofs.seen.Goals as goal

pub allowed-requires-clause-i_in_bounds_2 : goal.allowed-requires-clause-i_in_bounds_2
allowed-requires-clause-i_in_bounds_2 c = known_target c.requires.text c.loop-i.i c.loop-i.auto.i c.loop-i-test.true

pub returns-then-not-allowed : goal.returns-then-not-allowed
returns-then-not-allowed c =
    λ fs g t s. c.if-not-allowed.ensures (records_allowed c.loop-i.invariant (text_records g t s) c.loop-i.auto.i c.loop-i-test.true)

pub loop-i-preserved : goal.loop-i-preserved
loop-i-preserved c = so_far_more c.loop-i.invariant c.loop-i.auto.i c.if-not-allowed.ensures c.silent_until-until.ensures

pub returns : goal.returns
returns c =
    let t = c.requires.text in
    let q : c.loop-i.i ≡ c.args.to = omega (arith, rep_le _ _ _ _ t.lines t.rep) in
    λ fs g t. records_text g t (rw q at c.loop-i.invariant.kept)
