-- `explanation::explain_decision` meets its contract: the lines of the leaves, and the last line behind them. Assumes nothing.
use mathlib.Core.Path.{subst}
use native.Mathlib.Omega.{arith}
use Rattle.model.specs.declared.Outlook.{Outlook}
use Rattle.print.specs.Printed.{PrintedWithin}
use Rattle.print.proofs.Laws.{joined, wider}
use Rattle.explanation.specs.Explanation.{last_line}
use Rattle.explanation.proofs.Deciding.{leaves_fit, head_is, level_low, priced_here, outlook_here, counted_here, row_small, listed_here}
use Rattle.explanation.proofs.explain_decision.Goals as goal

pub code-code-requires : goal.code-code-requires
code-code-requires c = leaves_fit c.requires

pub leaf_counts-visits-requires : goal.leaf_counts-visits-requires
leaf_counts-visits-requires c =
    let k = c.code-code in
    counted_here c.requires k.result k.ensures.row k.ensures.bounds k.ensures.functions c.at_max_load-priced.ensures

pub at_report-ahead-requires : goal.at_report-ahead-requires
at_report-ahead-requires c =
    let k = c.code-code in
    priced_here c.requires k.result k.ensures.row k.ensures.bounds k.ensures.functions c.at_max_load-priced.ensures

pub offset_bounds-release-release : goal.offset_bounds-release-release
offset_bounds-release-release c = omega (arith, level_low c.requires)

pub bounds-release-release : goal.bounds-release-release
bounds-release-release c = omega (arith, level_low c.requires)

pub returns : goal.returns
returns c =
    λ q n.
    let k = c.code-code in
    let m = c.at_max_load-priced.ensures in
    let leaves =
    rw (listed_here q k.result k.ensures.row k.ensures.bounds k.ensures.functions m c.leaf_counts-visits.result c.leaf_counts-visits.ensures) at c.put_leaves-end.ensures in
    let last =
    subst (λ (y : Outlook). PrintedWithin 84 c.put_leaves-end.new.out c.put_leaves-end.result (last_line q.plan y c.args.release.now.reading c.args.before) c.put_last.new.out c.put_last.result)
    (outlook_here q k.result k.ensures.row k.ensures.bounds k.ensures.functions m n c.at_report-ahead.ensures) (c.put_last.ensures q.plan (head_is q)) in
    wider (omega (arith, row_small q k.result k.ensures.row k.ensures.bounds k.ensures.functions m)) (joined leaves last)
