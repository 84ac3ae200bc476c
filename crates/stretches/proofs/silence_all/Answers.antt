-- `stretches::silence_all` meets its contract. Assumes nothing.
use Rattle.rows.specs.Costs.{cost_in}
use Rattle.outlook.specs.Quiets.{QuietForms}
use Rattle.outlook.proofs.Walking.{between}
use Rattle.stretches.proofs.Silences.{fun_priced}
use Rattle.stretches.proofs.Driving.{keep_on}
use Rattle.stretches.proofs.silence_all.Goals as goal

pub scan-requires : goal.scan-requires
scan-requires c =
    let e = c.function-leaves.ensures in
    rw (e.0, e.1) (fun_priced c.args.priced.now c.requires.summed c.loop-f.f c.loop-f-test.true)

pub loop-f-preserved : goal.loop-f-preserved
loop-f-preserved c =
    let e = c.function-leaves.ensures in
    let v = c.requires.summed in
    keep_on c.loop-f-test.true v.plan.bounds.few v (between (λ f. QuietForms c.scan.result (cost_in c.args.priced.now.cost) f) e.0 e.1 c.scan.ensures) c.loop-f.invariant
