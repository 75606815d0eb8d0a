-- The five tables of a file together.
use Rattle.std.specs.Prelude.{ℕ, List}
use Rattle.dexspec.specs.Texts.{Text}
use Rattle.dexrows.specs.declared.fields.FieldRow.{FieldRow}
use Rattle.dexrows.specs.declared.methods.MethodRow.{MethodRow}
use Rattle.dexids.specs.declared.rows.ProtoEntry.{ProtoEntry}
use Rattle.dexids.specs.declared.tables.FileTables.{FileTables}
use Rattle.dexids.specs.Reading.{AreNames, AreProtos, AreFields, AreMethods}

-- the five tables of a file
pub record AreRead (b : List ℕ) (texts : List Text) (types ps : List ℕ) (protos : List ProtoEntry)
    (fields : List FieldRow) (methods : List MethodRow) : Type 0 where
  pub names : AreNames b texts types
  pub protos_are : AreProtos b texts types ps protos
  pub fields_are : AreFields b texts types fields
  pub methods_are : AreMethods b texts types ps protos methods

-- so these tables are
abbrev pub AreFileTables : List ℕ → FileTables → Type 0
AreFileTables b t =
    AreRead b t.strings.items t.types.items t.parameters t.protos.items t.fields.items t.methods.items
