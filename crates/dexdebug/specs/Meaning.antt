-- What numbered debug programs denote under a numbering.
use Rattle.std.specs.Prelude.{◌≡◌, ℕ, ◌<◌, length, map, All, Option, IfSome, Result}
use Rattle.std.specs.Global.{Vec}
use Rattle.std.specs.Option.{option_map}
use Rattle.dexspec.specs.Mentions.{Mentions}
use Rattle.dexspec.specs.Debug as symbolic
use Rattle.dexspec.specs.Spellings.{debug_bytes}
use Rattle.dexspec.specs.internal.Writing.{Puts}
use Rattle.dexpool.specs.Numberings.{AreRising}
use Rattle.dexpool.specs.NumberedSymbols.{text_at, type_at}
use Rattle.dexdebug.specs.declared.debug_operation.Operation.{Operation}
use Rattle.dexdebug.specs.declared.debug_operation.Operation.TheVariants.{AdvancePc, AdvanceLine, StartLocal}
use Rattle.dexdebug.specs.declared.debug_operation.Operation.TheVariants.{StartLocalExtended, EndLocal, RestartLocal}
use Rattle.dexdebug.specs.declared.debug_operation.Operation.TheVariants.{SetPrologueEnd, SetEpilogueBegin, SetFile}
use Rattle.dexdebug.specs.declared.debug_operation.Operation.TheVariants.{Special}
use Rattle.dexdebug.specs.Debug.{NumberedDebug, name_of, type_of, signature_of}

-- the operation with the texts and types of its numbers
abbrev pub operation_in : Mentions → Operation → symbolic.Operation
operation_in m (AdvancePc addresses) = symbolic.AdvancePc addresses
operation_in m (AdvanceLine lines) = symbolic.AdvanceLine lines
operation_in m (StartLocal register name typ) =
    symbolic.StartLocal register (option_map (text_at m) name) (option_map (type_at m) typ)
operation_in m (StartLocalExtended register name typ signature) =
    symbolic.StartLocalExtended register (option_map (text_at m) name) (option_map (type_at m) typ)
    (option_map (text_at m) signature)
operation_in m (EndLocal register) = symbolic.EndLocal register
operation_in m (RestartLocal register) = symbolic.RestartLocal register
operation_in m SetPrologueEnd = symbolic.SetPrologueEnd
operation_in m SetEpilogueBegin = symbolic.SetEpilogueBegin
operation_in m (SetFile name) = symbolic.SetFile (option_map (text_at m) name)
operation_in m (Special opcode) = symbolic.Special opcode

-- the debug program with the texts and types of its numbers
abbrev pub debug_in : Mentions → NumberedDebug → symbolic.Debug
debug_in m d = record {
  line_start = d.line_start;
  parameter_names = map (option_map (text_at m)) d.parameter_names;
  operations = map (operation_in m) d.operations;
}

-- the number is that of a text, if there is one
abbrev pub IsKnownText : Mentions → Option ℕ → Type 0
IsKnownText m i = IfSome i (λ n. n < length m.texts)

-- the number is that of a type, if there is one
abbrev pub IsKnownType : Mentions → Option ℕ → Type 0
IsKnownType m i = IfSome i (λ n. n < length m.types)

-- each number of the operation is that of a text or of a type, as its place asks
pub record IsKnownOperation (m : Mentions) (op : Operation) : Type 0 where
  pub name_known : IsKnownText m (name_of op)
  pub type_known : IsKnownType m (type_of op)
  pub signature_known : IsKnownText m (signature_of op)

-- each number of the debug program is
pub record IsKnownDebug (m : Mentions) (d : NumberedDebug) : Type 0 where
  pub names_known : All (IsKnownText m) d.parameter_names
  pub operations_known : All (IsKnownOperation m) d.operations

-- the numbers are those of texts and types, and denote the debug program
pub record DenotesDebug (m : Mentions) (d : NumberedDebug) (x : symbolic.Debug) : Type 0 where
  pub known : IsKnownDebug m d
  pub means : debug_in m d ≡ x

-- it holds of each debug program that the numbers denote under a numbering whose symbols rise
abbrev pub ForDenotedDebug : NumberedDebug → (Mentions → symbolic.Debug → Type 0) → Type 0
ForDenotedDebug d P = (m : Mentions) (x : symbolic.Debug) → AreRising m → DenotesDebug m d x → P m x

-- what is put is the debug_info_item of the debug program that the numbers denote
abbrev pub PutsDenotedDebug : {T E : Type 0} → Mentions → NumberedDebug → Vec ℕ → Vec ℕ → Result T E → Type 0
PutsDenotedDebug m d old new r = (x : symbolic.Debug) → DenotesDebug m d x → Puts (debug_bytes m x) old new r
