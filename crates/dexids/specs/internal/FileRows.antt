-- Rows of a file whose texts and types are read.
use Rattle.std.specs.Prelude.{◌≡◌, ◌<◌, ℕ, Bool, false, List, [], length, slice_index_or, IsTrue, IfSome}
use Rattle.dexspec.specs.Names.{IsMemberName}
use Rattle.dexspec.specs.Texts.{Text}
use Rattle.dexspec.specs.Rows as rows
use Rattle.dexids.specs.declared.names.Names.{Names}
use Rattle.dexids.specs.declared.rows.ProtoEntry.{ProtoEntry}
use Rattle.dexids.specs.declared.protos.CheckedList.{CheckedList}
use Rattle.dexids.specs.declared.protos.ProtoReader.{ProtoReader}
use Rattle.dexids.specs.declared.protos.CheckedLists.{CheckedLists}
use Rattle.dexrows.specs.declared.fields.FieldRow.{FieldRow}
use Rattle.dexrows.specs.declared.methods.MethodRow.{MethodRow}
use Rattle.dexids.specs.Reading.{AreNames, IsText, IsType, FieldRowAt, ProtoRowAt, MethodRowAt, AreFields, AreProtos}
use Rattle.dexids.specs.Reading.{AreMethods, file_numbers}
use Rattle.dexids.specs.internal.CheckedLists.{AreLetters, letters_in, IsChecked, AreChecked}

-- ---- texts and types

-- row i is no text
abbrev pub NoFileText : Names → ℕ → Type 0
NoFileText names i = (s : Text) → rows.StringRow names.frame.now i s → ⊥

-- row i is this text, of this number
abbrev pub IsFileText : Names → ℕ → Text → Type 0
IsFileText names = IsText names.frame.now names.strings.now

-- row i is no type
abbrev pub NoFileType : Names → ℕ → Type 0
NoFileType names i = (t : Text) → rows.TypeRow names.frame.now i t → ⊥

-- row i is this type, of this number
abbrev pub IsFileType : Names → ℕ → Text → Type 0
IsFileType names = IsType names.frame.now names.strings.now names.types.now

-- ---- protos

-- row i is the proto of these numbers
abbrev pub IsFileProto : Names → ℕ → ProtoEntry → Type 0
IsFileProto names = ProtoRowAt names.strings.now names.types.now (file_numbers names.frame.now) names.frame.now

-- the protos of all rows
abbrev pub AreFileProtos : Names → List ProtoEntry → Type 0
AreFileProtos names = AreProtos names.frame.now names.strings.now names.types.now (file_numbers names.frame.now)

-- the list is there, and its shorty is the text of this number after this letter
abbrev pub IsFileList : Names → ℕ → CheckedList → Type 0
IsFileList names = IsChecked names.frame.now names.strings.now names.types.now

-- the reader has the names of a file, the letters of its types and its numbers
pub record IsReader (reader : ProtoReader) : Type 0 where
  pub names_are : AreNames reader.names.now.frame.now reader.names.now.strings.now reader.names.now.types.now
  pub letters_are : AreLetters reader.names.now.strings.now reader.names.now.types.now reader.letters.now
  pub numbers_are : reader.file.now ≡ file_numbers reader.names.now.frame.now

-- each list that is noted is as IsFileList says, and the letters are those of all numbers of the file
pub record AreFileLists (reader : ProtoReader) (lists : CheckedLists) : Type 0 where
  pub checked : AreChecked reader.names.now.frame.now reader.names.now.strings.now reader.names.now.types.now lists.long
  pub letters_are : IfSome lists.letters
      (λ letters. letters.items ≡ letters_in reader.letters.now (file_numbers reader.names.now.frame.now))

-- ---- fields and methods

-- the texts that are marked are names of members
pub record AreMemberNames (texts : List Text) (known : List Bool) : Type 0 where
  pub count : length known ≡ length texts
  pub each : (i : ℕ) → i < length texts → IsTrue (slice_index_or known i false)
      → IsMemberName (slice_index_or texts i [])

-- row i is the field of these numbers
abbrev pub IsFileField : Names → ℕ → FieldRow → Type 0
IsFileField names = FieldRowAt names.strings.now names.types.now names.frame.now

-- the fields of all rows
abbrev pub AreFileFields : Names → List FieldRow → Type 0
AreFileFields names = AreFields names.frame.now names.strings.now names.types.now

-- row i is the method of these numbers, by these protos
abbrev pub IsFileMethod : Names → List ProtoEntry → ℕ → MethodRow → Type 0
IsFileMethod names protos =
    MethodRowAt names.strings.now names.types.now (file_numbers names.frame.now) protos names.frame.now

-- the methods of all rows, by these protos
abbrev pub AreFileMethods : Names → List ProtoEntry → List MethodRow → Type 0
AreFileMethods names protos =
    AreMethods names.frame.now names.strings.now names.types.now (file_numbers names.frame.now) protos
