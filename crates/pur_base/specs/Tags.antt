-- The tags of the tables.
use Rattle.std.specs.Prelude.{ℕ}
use Rattle.pur_base.specs.declared.request.Table.{Table}
use Rattle.pur_base.specs.declared.request.Table.TheVariants as table

-- the number that stands for a table
abbrev pub tag_of : Table → ℕ
tag_of table.Object = 1
tag_of table.Medium = 2
tag_of table.Address = 3
tag_of table.Segment = 4
tag_of table.Elision = 5
