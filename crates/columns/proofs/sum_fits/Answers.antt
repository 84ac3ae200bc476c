-- `columns::sum_fits` meets its contract. Assumes nothing.
use lib.ListN.{get_or}
use Rattle.std.proofs.Common.{rules}
use Rattle.model.specs.Total.{tally}
use Rattle.rows.specs.Costs.{cost_in}
use Rattle.rows.specs.Plans.{lines_of}
use Rattle.columns.proofs.Functions.{fun_forms}
use Rattle.columns.proofs.Adding.{fits_says}
use Rattle.columns.proofs.sum_fits.Goals as goal

pub block_total-total-requires : goal.block_total-total-requires
block_total-total-requires c =
    let e = c.function-leaves.ensures in
    rw (e.0, e.1) (fun_forms c.requires.plan_of c.args.f c.requires.f_lt_n.0)

pub returns : goal.returns
returns c =
    let a = c.args.priced.now in
    let f = c.args.f in
    let e = c.function-leaves.ensures in
    record {
      says = λ v.
          fits_says _ (tally (cost_in a.cost) a.totals.now (lines_of v f)) (get_or a.totals.now f 0) c.block_total-total.result c.is_some_and.result
          ((rw (e.0, e.1) at c.block_total-total.ensures) (fun_forms v f c.requires.f_lt_n.0)) (search rules);
    }
