-- `control::answer_to` meets its contract. Assumes nothing.
use mathlib.Core.Path.{refl, ap, sym, ◌∙◌}
use Rattle.table.proofs.Codes.{good_table, leaves_held}
use Rattle.control.proofs.Calling.{bad_table, lent_whole, on_owned}
use Rattle.control.specs.Calls.{as_step}
use Rattle.control.proofs.answer_to.Goals as goal

pub code-code-requires : goal.code-code-requires
code-code-requires c =
    let a = c.args in
    leaves_held (good_table a.row.now a.head.now (sym c.requires ∙ c.if-not-checked.false))

pub good_call-requires : goal.good_call-requires
good_call-requires c =
    let a = c.args in
    let k = c.code-code.ensures in
    lent_whole (good_table a.row.now a.head.now (sym c.requires ∙ c.if-not-checked.false)) _ k.row k.bounds k.functions refl

pub returns-then-not-checked : goal.returns-then-not-checked
returns-then-not-checked c =
    let a = c.args in
    ap (λ x. as_step x) (sym (bad_table a.row.now a.head.now (sym c.requires ∙ c.if-not-checked.true) a.state.now a.call))

pub returns-in-Ok : goal.returns-in-Ok
returns-in-Ok c =
    let a = c.args in
    let o = good_table a.row.now a.head.now (sym c.requires ∙ c.if-not-checked.false) in
    let k = c.code-code.ensures in
    rw c.in-Ok.is at (c.good_call.ensures (lent_whole o _ k.row k.bounds k.functions refl)) ∙ ap (λ x. as_step x) (sym (on_owned o a.state.now a.call))

pub returns-in-Err : goal.returns-in-Err
returns-in-Err c =
    let a = c.args in
    let o = good_table a.row.now a.head.now (sym c.requires ∙ c.if-not-checked.false) in
    let k = c.code-code.ensures in
    rw c.in-Err.is at (c.good_call.ensures (lent_whole o _ k.row k.bounds k.functions refl)) ∙ ap (λ x. as_step x) (sym (on_owned o a.state.now a.call))
