-- `enumeration::show_plan` meets its contract: the code of the table is that of its plan. Assumes nothing.
use Rattle.table.proofs.Codes.{leaves_held}
use Rattle.enumeration.specs.Showing.{all_shown}
use Rattle.enumeration.proofs.Showing.{same_lines}
use Rattle.enumeration.proofs.Coding.{owned, planned_code, table_here, few_functions, few_records, short_runs_on, first_enumerates, first_lines, no_lines}
use Rattle.enumeration.proofs.show_plan.Goals as goal

pub code-code-requires : goal.code-code-requires
code-code-requires g c = let (p, e) = c.requires.table in leaves_held (owned c.args.row.now c.args.head.now p e)

pub least_visits-leasts-requires-clause-table : goal.least_visits-leasts-requires-clause-table
least_visits-leasts-requires-clause-table g c =
    let (p, e) = c.requires.table in
    let k = c.code-code.ensures in
    table_here (planned_code c.args.row.now c.args.head.now p e c.code-code.result k.row k.bounds k.functions)

pub least_visits-leasts-requires-clause-few : goal.least_visits-leasts-requires-clause-few
least_visits-leasts-requires-clause-few g c =
    let (p, e) = c.requires.table in
    let k = c.code-code.ensures in
    few_functions (planned_code c.args.row.now c.args.head.now p e c.code-code.result k.row k.bounds k.functions)

pub least_visits-leasts-requires-clause-within : goal.least_visits-leasts-requires-clause-within
least_visits-leasts-requires-clause-within g c =
    let (p, e) = c.requires.table in
    let k = c.code-code.ensures in
    few_records (planned_code c.args.row.now c.args.head.now p e c.code-code.result k.row k.bounds k.functions)

pub first-requires : goal.first-requires
first-requires g c =
    let (p, e) = c.requires.table in
    let k = c.code-code.ensures in
    let q = planned_code c.args.row.now c.args.head.now p e c.code-code.result k.row k.bounds k.functions in
    short_runs_on q c.least_visits-leasts.result c.least_visits-leasts.ensures

pub show_from-requires-clause-stands : goal.show_from-requires-clause-stands
show_from-requires-clause-stands g c =
    let (p, e) = c.requires.table in
    let k = c.code-code.ensures in
    let q = planned_code c.args.row.now c.args.head.now p e c.code-code.result k.row k.bounds k.functions in
    first_enumerates q c.least_visits-leasts.result c.least_visits-leasts.ensures c.in-Some.trail (rw c.in-Some.is at c.first.ensures)

pub returns-in-Some : goal.returns-in-Some
returns-in-Some g c =
    let k = c.code-code.ensures in
    λ p e.
    let q = planned_code c.args.row.now c.args.head.now p e c.code-code.result k.row k.bounds k.functions in
    let b = rw c.in-Some.is at c.first.ensures in
    let l = c.least_visits-leasts in
    same_lines (first_lines q l.result l.ensures c.in-Some.trail b)
    (c.show_from.ensures (first_enumerates q l.result l.ensures c.in-Some.trail b))

pub returns-in-None : goal.returns-in-None
returns-in-None g c =
    let k = c.code-code.ensures in
    λ p e.
    let q = planned_code c.args.row.now c.args.head.now p e c.code-code.result k.row k.bounds k.functions in
    let l = c.least_visits-leasts in
    rw (no_lines q l.result l.ensures (rw c.in-None.is at c.first.ensures)) all_shown
