-- `outlook::enclosed` meets its contract. Assumes nothing.
use Rattle.rows.specs.Costs.{cost_in}
use Rattle.outlook.specs.Quiets.{QuietForms}
use Rattle.outlook.proofs.Walking.{between}
use Rattle.outlook.proofs.enclosed.Goals as goal

pub returns : goal.returns
returns c =
    let (x, y) = c.opening-inner.ensures in
    between (λ f. QuietForms c.scan.result (cost_in c.args.priced.now.cost) f) x y c.scan.ensures
