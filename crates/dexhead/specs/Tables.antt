-- the tables of the code
use Rattle.dexspec.specs.Header as header
use Rattle.dexhead.specs.declared.tables.Table.{Table}
use Rattle.dexhead.specs.declared.tables.Table.TheVariants.{StringIds, TypeIds, ProtoIds, FieldIds, MethodIds}
use Rattle.dexhead.specs.declared.tables.Table.TheVariants.{ClassDefs}

-- the table that is meant
abbrev pub meant : Table → header.Table
meant StringIds = header.StringIds
meant TypeIds = header.TypeIds
meant ProtoIds = header.ProtoIds
meant FieldIds = header.FieldIds
meant MethodIds = header.MethodIds
meant ClassDefs = header.ClassDefs
