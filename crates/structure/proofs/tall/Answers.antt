use Rattle.std.proofs.Common.{rules, tests, length}
use Rattle.std.proofs.lemmas.Iterator.{serves_from_Range, YieldsList-from_range, YieldsList-from_map}
use Rattle.std.proofs.lemmas.Iterator.Consumers.{max_from_yields_List}
use native.Mathlib.Omega.{arith}
use mathlib.Core.Path.{refl}
use Prim.Native.Nat.{◌-◌, ◌≤◌, ◌<◌}
use Rattle.rows.specs.Leaves.{numbers}
use Rattle.rows.proofs.Shape.{rep_le}
use Rattle.structure.specs.Private.{Readable, top}
use Rattle.structure.proofs.Levels.{height_reached, readable, highest_found}
use Rattle.structure.proofs.tall.Goals as goal

pub max-requires-clause-can : goal.max-requires-clause-can
max-requires-clause-can c = (
  tt,
  serves_from_Range (λ x q r. search rules) (λ x a b.
      let from : c.args.from ≤ x = search (rules, arith) in
      let to : x < c.args.to = search (rules, arith) in
      let low : x < length c.args.row.now = omega (arith, to, c.requires.to_in_bounds) in
      let known : Readable (numbers c.args.row.now) c.args.hs.now x = readable c.requires.part x from to in
      search rules),
)

pub returns : goal.returns
returns c =
    let w = numbers c.args.row.now in
    let hs = c.args.hs.now in
    let i = c.args.from in
    let e = c.args.to in
    let le : i ≤ e = rep_le w 1 i e c.requires.part.lines c.requires.part.rep in
    λ p. height_reached p.lines p.rep
    (rw c.unwrap_or.ensures
    (highest_found w hs i e le c.max.result
    (max_from_yields_List c.map.result c.max.result c.max.ensures.ran
    (YieldsList-from_map _ (λ j. top w hs j) (YieldsList-from_range i e (e - i) c.map.ensures.source refl) c.map.ensures.closure (λ x r q k. search (rules, tests))))))
