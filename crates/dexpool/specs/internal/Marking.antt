-- Marks on every symbol.
use Rattle.std.specs.Prelude.{IsTrue, All}
use Rattle.dexpool.specs.declared.marks.Marks.{Marks}

-- every symbol is marked
pub record HaveAllMarks (marks : Marks) : Type 0 where
  pub strings_marked : All IsTrue marks.strings.items
  pub types_marked : All IsTrue marks.types.items
  pub protos_marked : All IsTrue marks.protos.items
  pub fields_marked : All IsTrue marks.fields.items
  pub methods_marked : All IsTrue marks.methods.items
