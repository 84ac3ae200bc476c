-- `outlook::weight` meets its contract. Assumes nothing.
use native.Mathlib.Omega.{arith}
use borrow.Author.Rules.{rules}
use mathlib.Core.Path.{◌≡◌}
use Rattle.rows.specs.Leaves.{numbers}
use Rattle.rows.specs.Rows.{kind_at}
use Rattle.outlook.proofs.Walking.{step_small, own_small, weight_call, weight_loop, weight_other}
use Rattle.outlook.proofs.weight.Goals as goal

pub offset_bounds-priced-target : goal.offset_bounds-priced-target
offset_bounds-priced-target c =
    let k : kind_at (numbers c.args.priced.now.code.row.now) c.args.i ≡ 1 = search rules in
    omega (arith, (weight_call c.requires.i_lt_to c.requires.held c.of-visit.ensures k c.target.ensures).1)

pub bounds-priced-target : goal.bounds-priced-target
bounds-priced-target c =
    let k : kind_at (numbers c.args.priced.now.code.row.now) c.args.i ≡ 1 = search rules in
    omega (arith, (weight_call c.requires.i_lt_to c.requires.held c.of-visit.ensures k c.target.ensures).1)

pub overflow_add-result : goal.overflow_add-result
overflow_add-result c =
    let k : kind_at (numbers c.args.priced.now.code.row.now) c.args.i ≡ 1 = search rules in
    omega (arith, (weight_call c.requires.i_lt_to c.requires.held c.of-visit.ensures k c.target.ensures).0, step_small c.requires.i_lt_to c.requires.held, own_small c.requires.i_lt_to c.requires.held)

pub overflow_mul-result : goal.overflow_mul-result
overflow_mul-result c =
    let k : kind_at (numbers c.args.priced.now.code.row.now) c.args.i ≡ 2 = search rules in
    omega (arith, weight_loop c.requires.i_lt_to c.requires.held c.of-visit.ensures k c.detail.ensures c.turn.ensures, step_small c.requires.i_lt_to c.requires.held, own_small c.requires.i_lt_to c.requires.held)

pub overflow_add-result-in-Some-Loop : goal.overflow_add-result-in-Some-Loop
overflow_add-result-in-Some-Loop c =
    let k : kind_at (numbers c.args.priced.now.code.row.now) c.args.i ≡ 2 = search rules in
    omega (arith, weight_loop c.requires.i_lt_to c.requires.held c.of-visit.ensures k c.detail.ensures c.turn.ensures, step_small c.requires.i_lt_to c.requires.held, own_small c.requires.i_lt_to c.requires.held)

pub returns-in-Some-Call : goal.returns-in-Some-Call
returns-in-Some-Call c =
    let k : kind_at (numbers c.args.priced.now.code.row.now) c.args.i ≡ 1 = search rules in
    λ h. (weight_call c.requires.i_lt_to h c.of-visit.ensures k c.target.ensures).0

pub returns-in-Some-Loop : goal.returns-in-Some-Loop
returns-in-Some-Loop c =
    let k : kind_at (numbers c.args.priced.now.code.row.now) c.args.i ≡ 2 = search rules in
    λ h. weight_loop c.requires.i_lt_to h c.of-visit.ensures k c.detail.ensures c.turn.ensures

pub returns-in_default : goal.returns-in_default
returns-in_default c =
    let a : kind_at (numbers c.args.priced.now.code.row.now) c.args.i ≡ 1 → ⊥ = search rules in
    let b : kind_at (numbers c.args.priced.now.code.row.now) c.args.i ≡ 2 → ⊥ = search rules in
    λ h. weight_other c.requires.i_lt_to h c.of-visit.ensures a b

pub returns-in_default-2 : goal.returns-in_default-2
returns-in_default-2 c =
    let a : kind_at (numbers c.args.priced.now.code.row.now) c.args.i ≡ 1 → ⊥ = search rules in
    let b : kind_at (numbers c.args.priced.now.code.row.now) c.args.i ≡ 2 → ⊥ = search rules in
    λ h. weight_other c.requires.i_lt_to h c.of-visit.ensures a b
