-- Debug programs. Source: "Dalvik Executable format", "debug_info_item" and "Byte code values". Registers and addresses
-- are not checked (this project's rule).
use Rattle.std.specs.Prelude.{◌≡◌, ℕ, ℤ, ◌+◌, ◌≤◌, List, [], ◌∷◌, length, Option}
use Rattle.dexspec.specs.Lists.{Sequence, BothOrNone}
use Rattle.dexspec.specs.Bytes.{BytesAt}
use Rattle.dexspec.specs.Numbers.{Uleb128At, Sleb128At, Uleb128p1At}
use Rattle.dexspec.specs.Texts.{Text}
use Rattle.dexspec.specs.Header.{data_off}
use Rattle.dexspec.specs.Rows.{StringRow, TypeRow}

-- an operation, with texts and types instead of indices; none is NO_INDEX
pub data Operation : Type 0 where
  AdvancePc : (addresses : ℕ) → Operation
  AdvanceLine : (lines : ℤ) → Operation
  StartLocal : (register : ℕ) → (name type : Option Text) → Operation
  StartLocalExtended : (register : ℕ) → (name type signature : Option Text) → Operation
  EndLocal RestartLocal : (register : ℕ) → Operation
  SetPrologueEnd SetEpilogueBegin : Operation
  SetFile : (name : Option Text) → Operation
  Special : (opcode : ℕ) → Operation

-- a debug_info_item
pub record Debug : Type 0 where
  pub line_start : ℕ
  pub parameter_names : List (Option Text)
  pub operations : List Operation

-- ---- in a file

-- a uleb128p1 that names a string, or nothing, is at offset o
abbrev pub OptionalTextAt : List ℕ → ℕ → Option Text → ℕ → Type 0
OptionalTextAt b o s n = (i : Option ℕ) × Uleb128p1At b o i n × BothOrNone (StringRow b) i s

-- the same for a type
abbrev pub OptionalTypeAt : List ℕ → ℕ → Option Text → ℕ → Type 0
OptionalTypeAt b o t n = (i : Option ℕ) × Uleb128p1At b o i n × BothOrNone (TypeRow b) i t

-- the operation is at offset o
abbrev pub OperationAt : List ℕ → ℕ → Operation → ℕ → Type 0
OperationAt b o (AdvancePc count) n = BytesAt b o (0x01 ∷ []) × (k : ℕ) × Uleb128At b (o + 1) count k × (n ≡ 1 + k)
OperationAt b o (AdvanceLine lines) n = BytesAt b o (0x02 ∷ []) × (k : ℕ) × Sleb128At b (o + 1) lines k × (n ≡ 1 + k)
OperationAt b o (StartLocal register name type) n = BytesAt b o (0x03 ∷ [])
    × (i j k : ℕ) × Uleb128At b (o + 1) register i
    × OptionalTextAt b (o + 1 + i) name j × OptionalTypeAt b (o + 1 + i + j) type k × (n ≡ 1 + i + j + k)
OperationAt b o (StartLocalExtended register name type signature) n = BytesAt b o (0x04 ∷ [])
    × (i j k l : ℕ) × Uleb128At b (o + 1) register i × OptionalTextAt b (o + 1 + i) name j
    × OptionalTypeAt b (o + 1 + i + j) type k
    × OptionalTextAt b (o + 1 + i + j + k) signature l × (n ≡ 1 + i + j + k + l)
OperationAt b o (EndLocal v) n = BytesAt b o (0x05 ∷ []) × (k : ℕ) × Uleb128At b (o + 1) v k × (n ≡ 1 + k)
OperationAt b o (RestartLocal v) n = BytesAt b o (0x06 ∷ []) × (k : ℕ) × Uleb128At b (o + 1) v k × (n ≡ 1 + k)
OperationAt b o SetPrologueEnd n = BytesAt b o (0x07 ∷ []) × (n ≡ 1)
OperationAt b o SetEpilogueBegin n = BytesAt b o (0x08 ∷ []) × (n ≡ 1)
OperationAt b o (SetFile name) n = BytesAt b o (0x09 ∷ []) × (k : ℕ) × OptionalTextAt b (o + 1) name k × (n ≡ 1 + k)
OperationAt b o (Special opcode) n = BytesAt b o (opcode ∷ []) × (0x0a ≤ opcode) × (opcode ≤ 0xff) × (n ≡ 1)

-- a debug_info_item is at offset o of the data
pub record DebugAt (b : List ℕ) (o : ℕ) (d : Debug) : Type 0 where
  pub in_data : data_off b ≤ o
  pub start_size : ℕ
  pub count_size : ℕ
  pub names_size : ℕ
  pub operations_size : ℕ
  pub line_start : Uleb128At b o d.line_start start_size
  pub count : Uleb128At b (o + start_size) (length d.parameter_names) count_size
  pub names : Sequence OptionalTextAt b (o + start_size + count_size) d.parameter_names names_size
  pub operations : Sequence OperationAt b (o + start_size + count_size + names_size) d.operations operations_size
  pub end : BytesAt b (o + start_size + count_size + names_size + operations_size) (0x00 ∷ [])
