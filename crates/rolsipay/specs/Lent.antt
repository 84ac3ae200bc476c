-- The table in the row and the head that the caller lends (01: 'The table is a row of at most 512 leaf records lent by the caller, with the deadline,
-- costs and function bounds beside it').
-- Assumes nothing: these are definitions.
use Rattle.std.specs.Prelude.{List, take}
use Rattle.rows.specs.declared.Leaf.{Leaf}
use Rattle.table.specs.declared.Head.{Head}
use Rattle.table.specs.Table.{Table}
use Rattle.table.specs.Lent.{table_with}

-- The table in a lent row: of a longer row only the first 512 are used (01).
abbrev pub table_in : List Leaf → Head → Table
table_in ls h = table_with (take 512 ls) h
