-- Debug programs whose symbols are numbers, and what becomes of them when the numbers change.
use Rattle.std.specs.Prelude.{◌≡◌, ℕ, ◌+◌, ◌*◌, ◌^◌, ◌<◌, ◌≤◌, List, [], ◌∷◌, ◌++◌, length, map, All, Option, Some}
use Rattle.std.specs.Prelude.{None, option_to_list}
use Rattle.std.specs.List.{flat_map}
use Rattle.dexspec.specs.Numbers.{plus_one, uleb128, sleb128, uleb128p1}
use Rattle.dexspec.specs.Debug as symbolic
use Rattle.dexspec.specs.Weight.{operands}
use Rattle.dexpool.specs.declared.symbols.SymbolKind.{SymbolKind}
use Rattle.dexpool.specs.declared.symbols.SymbolKind.TheVariants as kinds
use Rattle.dexpool.specs.Numberings.{Maps, image_of}
use Rattle.dexpool.specs.Uses.{Use}
use Rattle.dexdebug.specs.declared.debug_operation.Operation.{Operation}
use Rattle.dexdebug.specs.declared.debug_operation.Operation.TheVariants.{AdvancePc, AdvanceLine, StartLocal}
use Rattle.dexdebug.specs.declared.debug_operation.Operation.TheVariants.{StartLocalExtended, EndLocal, RestartLocal}
use Rattle.dexdebug.specs.declared.debug_operation.Operation.TheVariants.{SetPrologueEnd, SetEpilogueBegin, SetFile}
use Rattle.dexdebug.specs.declared.debug_operation.Operation.TheVariants.{Special}

-- A debug program: the line that it starts at, the number of each parameter's name, and operations, with numbers for
-- texts and types. None is NO_INDEX.
pub record NumberedDebug : Type 0 where
  pub line_start : ℕ
  pub parameter_names : List (Option ℕ)
  pub operations : List Operation

-- ---- the numbers in an operation

-- the number of the name in it
abbrev pub name_of : Operation → Option ℕ
name_of (StartLocal register name typ) = name
name_of (StartLocalExtended register name typ signature) = name
name_of (SetFile name) = name
name_of _ = None

-- the number of the type in it
abbrev pub type_of : Operation → Option ℕ
type_of (StartLocal register name typ) = typ
type_of (StartLocalExtended register name typ signature) = typ
type_of _ = None

-- the number of the signature in it
abbrev pub signature_of : Operation → Option ℕ
signature_of (StartLocalExtended register name typ signature) = signature
signature_of _ = None

-- the operation with other numbers in their places
abbrev pub with_numbers : Operation → Option ℕ → Option ℕ → Option ℕ → Operation
with_numbers (StartLocal register name typ) s t u = StartLocal register s t
with_numbers (StartLocalExtended register name typ signature) s t u = StartLocalExtended register s t u
with_numbers (SetFile name) s t u = SetFile s
with_numbers op s t u = op

-- a special operation has an opcode of its own
abbrev pub IsSpecial : Operation → Type 0
IsSpecial (Special opcode) = 0x0a ≤ opcode
IsSpecial _ = Unit {0}

-- ---- places of numbers

-- the number, or none, has an encoding as a uleb128p1
abbrev pub FitsIndex : Option ℕ → Type 0
FitsIndex i = plus_one i < 2 ^ 32

-- each number of the operation has an encoding, and a special operation is none of the others
pub record IsFormedOperation (op : Operation) : Type 0 where
  pub name_fits : FitsIndex (name_of op)
  pub type_fits : FitsIndex (type_of op)
  pub signature_fits : FitsIndex (signature_of op)
  pub is_special : IsSpecial op

-- each number of the debug program has an encoding, its names can be counted, and it has no more operations than a file
-- has bytes
pub record IsFormedDebug (d : NumberedDebug) : Type 0 where
  pub names_count : length d.parameter_names < 2 ^ 32
  pub names_fit : All FitsIndex d.parameter_names
  pub operations_count : length d.operations < 2 ^ 30
  pub operations_fit : All IsFormedOperation d.operations

-- ---- without symbols

-- the operation, every text and type left out
abbrev pub unindexed_operation : Operation → symbolic.Operation
unindexed_operation (AdvancePc addresses) = symbolic.AdvancePc addresses
unindexed_operation (AdvanceLine lines) = symbolic.AdvanceLine lines
unindexed_operation (StartLocal register name typ) = symbolic.StartLocal register None None
unindexed_operation (StartLocalExtended register name typ signature) =
    symbolic.StartLocalExtended register None None None
unindexed_operation (EndLocal register) = symbolic.EndLocal register
unindexed_operation (RestartLocal register) = symbolic.RestartLocal register
unindexed_operation SetPrologueEnd = symbolic.SetPrologueEnd
unindexed_operation SetEpilogueBegin = symbolic.SetEpilogueBegin
unindexed_operation (SetFile name) = symbolic.SetFile None
unindexed_operation (Special opcode) = symbolic.Special opcode

-- the debug program, every text and type left out: it weighs as much and has the same positions
abbrev pub unindexed : NumberedDebug → symbolic.Debug
unindexed d =
    record {
      line_start = d.line_start;
      parameter_names = map (λ i. None) d.parameter_names;
      operations = map unindexed_operation d.operations;
    }

-- what an operation weighs
abbrev pub operation_weight : Operation → ℕ
operation_weight op = 1 + 5 * operands (unindexed_operation op)

-- ---- the bytes

-- an operation, its numbers put in
abbrev pub numbered_operation_bytes : Operation → List ℕ
numbered_operation_bytes (AdvancePc addresses) = 0x01 ∷ uleb128 addresses
numbered_operation_bytes (AdvanceLine lines) = 0x02 ∷ sleb128 lines
numbered_operation_bytes (StartLocal register name typ) = 0x03 ∷ (uleb128 register ++ (uleb128p1 name ++ uleb128p1 typ))
numbered_operation_bytes (StartLocalExtended register name typ signature) =
    0x04 ∷ (uleb128 register ++ (uleb128p1 name ++ (uleb128p1 typ ++ uleb128p1 signature)))
numbered_operation_bytes (EndLocal register) = 0x05 ∷ uleb128 register
numbered_operation_bytes (RestartLocal register) = 0x06 ∷ uleb128 register
numbered_operation_bytes SetPrologueEnd = 0x07 ∷ []
numbered_operation_bytes SetEpilogueBegin = 0x08 ∷ []
numbered_operation_bytes (SetFile name) = 0x09 ∷ uleb128p1 name
numbered_operation_bytes (Special opcode) = opcode ∷ []

-- a debug_info_item, its numbers put in
unfoldable pub numbered_debug_bytes : NumberedDebug → List ℕ
numbered_debug_bytes d =
    uleb128 d.line_start
    ++ (uleb128 (length d.parameter_names)
    ++ (flat_map uleb128p1 d.parameter_names ++ (flat_map numbered_operation_bytes d.operations ++ 0x00 ∷ [])))

-- ---- the symbols that occur

-- the symbol of a kind, if there is a number
abbrev pub number_uses : SymbolKind → Option ℕ → List Use
number_uses kind i = map (λ n. record { kind = kind; number = n }) (option_to_list i)

-- the texts and types of an operation
abbrev pub operation_uses : Operation → List Use
operation_uses op =
    number_uses kinds.Text (name_of op)
    ++ (number_uses kinds.Typ (type_of op) ++ number_uses kinds.Text (signature_of op))

-- those of parameter names and operations, in order
abbrev pub debug_uses : NumberedDebug → List Use
debug_uses d = flat_map (number_uses kinds.Text) d.parameter_names ++ flat_map operation_uses d.operations

-- ---- other numbers

-- it has an image that has an encoding as a uleb128p1
abbrev pub HasPlace : Maps → Use → Type 0
HasPlace r u = (j : ℕ) × (image_of r u.kind u.number ≡ Some j) × (j + 1 < 2 ^ 32)

-- the image of a number, if it has one
abbrev pub image_or_none : Maps → SymbolKind → Option ℕ → Option ℕ
image_or_none r kind None = None
image_or_none r kind (Some n) = image_of r kind n

-- the operation with the images of its numbers
abbrev pub renumbered_operation : Maps → Operation → Operation
renumbered_operation r op =
    with_numbers op (image_or_none r kinds.Text (name_of op)) (image_or_none r kinds.Typ (type_of op))
    (image_or_none r kinds.Text (signature_of op))

-- the debug program with the images of its numbers
abbrev pub renumbered_debug : Maps → NumberedDebug → NumberedDebug
renumbered_debug r d =
    record {
      line_start = d.line_start;
      parameter_names = map (image_or_none r kinds.Text) d.parameter_names;
      operations = map (renumbered_operation r) d.operations;
    }
