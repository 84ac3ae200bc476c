-- `enumeration::show_refusal` meets its contract. Assumes nothing.
use mathlib.Core.Path.{refl, ap, ◌∙◌}
use Rattle.print.specs.Lines.{refused_plan_line}
use Rattle.print.proofs.Theorems.{handed}
use Rattle.enumeration.proofs.Showing.{one_line}
use Rattle.enumeration.proofs.show_refusal.Goals as goal

pub returns : goal.returns
returns g c =
    one_line _ c.show.result
    (_, handed refl c.refused_plan_line-n.ensures ∙ ap (λ k. refused_plan_line k c.args.refused.line) c.from-number.ensures, c.show.ensures)
