-- `stretches::stretches` meets its contract. Assumes nothing.
use native.Mathlib.Omega.{arith}
use mathlib.Core.Path.{◌∙◌}
use Rattle.rows.specs.Costs.{cost_in}
use Rattle.model.specs.Static.{line_silence}
use Rattle.rows.specs.Plans.{lines_of}
use Rattle.outlook.specs.Quiets.{quiet_sum}
use Rattle.stretches.specs.Private.{head_at}
use Rattle.stretches.proofs.Written.{written_same}
use Rattle.stretches.proofs.stretches.Goals as goal

pub returns : goal.returns
returns c =
    let priced = c.args.priced.now in
    let k = cost_in priced.cost in
    let ms = priced.totals.now in
    let heads = c.silence_all-heads.result in
    λ v. c.stretch_all.ensures v ∙
    written_same k ms (λ f x. quiet_sum (head_at heads f) x) (λ f x. line_silence k ms (lines_of v.plan f) x) v.plan (λ f x h. c.silence_all-heads.ensures.s_value v f x h) priced.code.functions (omega arith) c.args.stretch.now
