-- `columns::function_fits` meets its contract. Assumes nothing.
use native.Mathlib.Omega.{arith}
use Rattle.rows.specs.Leaves.{lent_turns, lent_tails}
use lib.ListN.{get_or}
use Rattle.columns.proofs.Functions.{fun_forms}
use Rattle.columns.proofs.Fitting.{says_no, says_same, begins}
use Rattle.columns.proofs.function_fits.Goals as goal

pub block_fits-requires-clause-forms : goal.block_fits-requires-clause-forms
block_fits-requires-clause-forms c =
    rw (c.function-leaves.ensures.0, c.function-leaves.ensures.1) (fun_forms c.requires.plan_of c.args.f c.requires.f_lt_n.0)

pub start-requires : goal.start-requires
start-requires c = omega (arith, (fun_forms c.requires.plan_of c.args.f c.requires.f_lt_n.0).held, c.function-leaves.ensures.1)

pub returns-then-block_fits : goal.returns-then-block_fits
returns-then-block_fits c =
    let ts = c.args.lent.now.sums.now in
    let row = c.args.lent.now.code.row.now in
    let e = c.function-leaves.ensures in
    record {
      says = λ v.
          let p = fun_forms v c.args.f c.requires.f_lt_n.0 in
          let a = (rw (e.0, e.1) at c.if-block_fits.ensures) p in
          let y = begins ts (lent_turns row) (lent_tails row) (rw (e.0, e.1) at c.start.ensures) p.part a in
          says_same (get_or ts c.args.f 0) c.start.result (λ h. (a, omega (arith, h, y))) (λ l. omega (arith, l.1, y));
    }

pub returns-else-block_fits : goal.returns-else-block_fits
returns-else-block_fits c =
    let e = c.function-leaves.ensures in
    record { says = λ v. says_no c.if-block_fits.false (λ l. (rw (e.0, e.1) at c.if-block_fits.ensures) (fun_forms v c.args.f c.requires.f_lt_n.0) l.0) }
