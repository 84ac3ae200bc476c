use Rattle.std.proofs.Common.{rules, tests}
use Rattle.std.proofs.lemmas.Iterator.{serves_from_Range, cases_from_any, YieldsList-from_range}
use Rattle.std.specs.Prelude.{length}
use Rattle.rows.specs.Leaves.{numbers}
use Rattle.rows.specs.Rows.{kind_at, detail_at}
use Rattle.structure.specs.Private.{HasPoint}
use Prim.Native.Nat.{◌<◌, ◌-◌}
use Rattle.structure.proofs.Ranges.{any_says}
use Rattle.structure.proofs.Seeing.{text_record, record_text, known_target}
use native.Mathlib.Omega.{arith}
use mathlib.Core.Path.{◌≡◌, refl}
use Rattle.structure.proofs.pointed.Goals as goal

pub any-requires-clause-callable : goal.any-requires-clause-callable
any-requires-clause-callable c = serves_from_Range (λ x q r. search rules) (λ x a b.
    let low : x < length c.args.row.now = omega (arith, b, c.requires.to_in_bounds) in
    let known : kind_at (numbers c.args.row.now) x ≡ 1 → detail_at (numbers c.args.row.now) x < length c.args.has.now = known_target c.requires.text x a b in
    search (rules))

pub returns : goal.returns
returns c =
    let w = numbers c.args.row.now in
    let h = c.args.has.now in
    let i = c.args.from in
    let e = c.args.to in
    λ fs g t. any_says i e c.any.result
    (cases_from_any _ _ _ (λ j. HasPoint w h j) (λ j. HasPoint w h j → ⊥) c.any.ensures.ran (YieldsList-from_range i e (e - i) refl refl)
    (λ x q k. search (rules, tests)) (λ x q k. search (rules, tests)))
    (λ j a b x. record_text g t j a b x) (λ p. let x = text_record g t p in (x.place, x.low, x.high, x.reaches))
