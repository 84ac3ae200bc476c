-- `columns::form_kind` meets its contract. Assumes nothing.
use Rattle.std.proofs.Common.{rules}
use Rattle.columns.proofs.Inner.{kind_three}
use Rattle.columns.proofs.form_kind.Goals as goal

pub unwrap-requires : goal.unwrap-requires
unwrap-requires c = let h = kind_three c.requires in search rules
