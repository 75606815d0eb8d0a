-- Debug programs as they are read from a file.
use Rattle.std.specs.Prelude.{◌≡◌, ℕ, ◌+◌, ◌-◌, ◌*◌, ◌^◌, ◌<◌, ◌≤◌, List, [], ◌∷◌, ◌++◌, All, length, map, sum_by}
use Rattle.std.specs.Prelude.{Option, IfSome}
use Rattle.std.specs.List.{flat_map}
use Rattle.dexspec.specs.Lists.{Item, Sequence}
use Rattle.dexspec.specs.Bytes.{BytesAt}
use Rattle.dexspec.specs.Numbers.{Uleb128At, Sleb128At, Uleb128p1At}
use Rattle.dexspec.specs.Mentions.{Mentions}
use Rattle.dexspec.specs.Debug as symbolic
use Rattle.dexspec.specs.Weight.{debug_weight}
use Rattle.dexspec.specs.Header.{data_off}
use Rattle.dexpool.specs.declared.faults.ItemFault.{ItemFault}
use Rattle.dexpool.specs.declared.faults.ItemFault.TheVariants.{Refused, Memory}
use Rattle.dexpool.specs.declared.symbols.SymbolKind.TheVariants as kinds
use Rattle.dexdebug.specs.declared.debug_operation.Operation.{Operation}
use Rattle.dexdebug.specs.declared.debug_operation.Operation.TheVariants.{AdvancePc, AdvanceLine, StartLocal}
use Rattle.dexdebug.specs.declared.debug_operation.Operation.TheVariants.{StartLocalExtended, EndLocal, RestartLocal}
use Rattle.dexdebug.specs.declared.debug_operation.Operation.TheVariants.{SetPrologueEnd, SetEpilogueBegin, SetFile}
use Rattle.dexdebug.specs.declared.debug_operation.Operation.TheVariants.{Special}
use Rattle.dexdebug.specs.declared.debug_reading.Counts.{Counts}
use Rattle.dexdebug.specs.declared.debug_reading.Tally.{Tally}
use Rattle.dexdebug.specs.declared.debug_reading.DebugShape.{DebugShape}
use Rattle.dexdebug.specs.declared.indices.Index.{Index}
use Rattle.dexdebug.specs.Debug.{NumberedDebug, unindexed, FitsIndex, IsFormedOperation, operation_weight}
use Rattle.dexdebug.specs.Meaning.{DenotesDebug}

-- the debug program is that at an offset, where symbols are numbered by their rows
pub record IsDebugAt (b : List ℕ) (off : ℕ) (m : Mentions) (d : NumberedDebug) : Type 0 where
  pub program : symbolic.Debug
  pub at : symbolic.DebugAt b off program
  pub encodes : DenotesDebug m d program

-- there is no debug program at the offset
abbrev pub HasNoDebug : List ℕ → ℕ → Type 0
HasNoDebug b off = (x : symbolic.Debug) → symbolic.DebugAt b off x → ⊥

-- there is no debug program at the offset; a failed allocation says nothing
abbrev pub IsDebugFault : List ℕ → ℕ → ItemFault → Type 0
IsDebugFault b off (Refused number) = (number ≡ 20) × ((x : symbolic.Debug) → symbolic.DebugAt b off x → ⊥)
IsDebugFault b off Memory = Unit {0}

-- ---- numbers at a place

-- at offset o is a uleb128p1 of a number below the count, or of none
abbrev pub IndexAt : ℕ → Item (Option ℕ)
IndexAt count b o i n = Uleb128p1At b o i n × IfSome i (λ k. k < count)

-- at offset o are the operands that declare a local variable
pub record LocalAt (m : Counts) (b : List ℕ) (o register : ℕ) (name typ : Option ℕ) (n : ℕ) : Type 0 where
  pub register_size : ℕ
  pub name_size : ℕ
  pub type_size : ℕ
  pub at_register : Uleb128At b o register register_size
  pub at_name : IndexAt m.texts b (o + register_size) name name_size
  pub at_type : IndexAt m.types b (o + register_size + name_size) typ type_size
  pub size : n ≡ register_size + name_size + type_size

-- they and a signature
pub record ExtendedAt (m : Counts) (b : List ℕ) (o register : ℕ) (name typ signature : Option ℕ) (n : ℕ) : Type 0 where
  pub local_size : ℕ
  pub signature_size : ℕ
  pub at_local : LocalAt m b o register name typ local_size
  pub at_signature : IndexAt m.texts b (o + local_size) signature signature_size
  pub size : n ≡ local_size + signature_size

-- at offset o are the operands of an operation of this opcode, their numbers in range
abbrev pub OperandsAt : Counts → ℕ → Item Operation
OperandsAt m c b o (AdvancePc addresses) n = (c ≡ 0x01) × Uleb128At b o addresses n
OperandsAt m c b o (AdvanceLine lines) n = (c ≡ 0x02) × Sleb128At b o lines n
OperandsAt m c b o (StartLocal register name typ) n = (c ≡ 0x03) × LocalAt m b o register name typ n
OperandsAt m c b o (StartLocalExtended register name typ signature) n =
    (c ≡ 0x04) × ExtendedAt m b o register name typ signature n
OperandsAt m c b o (EndLocal register) n = (c ≡ 0x05) × Uleb128At b o register n
OperandsAt m c b o (RestartLocal register) n = (c ≡ 0x06) × Uleb128At b o register n
OperandsAt m c b o SetPrologueEnd n = (c ≡ 0x07) × (n ≡ 0)
OperandsAt m c b o SetEpilogueBegin n = (c ≡ 0x08) × (n ≡ 0)
OperandsAt m c b o (SetFile name) n = (c ≡ 0x09) × IndexAt m.texts b o name n
OperandsAt m c b o (Special opcode) n = (c ≡ opcode) × (0x0a ≤ opcode) × (n ≡ 0)

-- at offset o is the operation: an opcode other than that of the end, and its operands
pub record NumberedAt (m : Counts) (b : List ℕ) (o : ℕ) (op : Operation) (n : ℕ) : Type 0 where
  pub opcode : ℕ
  pub operands_size : ℕ
  pub at_opcode : BytesAt b o (opcode ∷ [])
  pub byte : opcode ≤ 0xff
  pub operands : OperandsAt m opcode b (o + 1) op operands_size
  pub size : n ≡ 1 + operands_size

-- from offset o on are the operations, and after them the end
pub record ProgramAt (m : Counts) (b : List ℕ) (o : ℕ) (ops : List Operation) : Type 0 where
  pub size : ℕ
  pub operations : Sequence (NumberedAt m) b o ops size
  pub end : BytesAt b (o + size) (0x00 ∷ [])

-- from offset o on are `count` names, in n bytes
pub record NamesAt (texts : ℕ) (b : List ℕ) (o count : ℕ) (names : List (Option ℕ)) (n : ℕ) : Type 0 where
  pub many : length names ≡ count
  pub each : Sequence (IndexAt texts) b o names n

-- at offset o is the debug program
pub record NumberedDebugAt (m : Counts) (b : List ℕ) (o : ℕ) (d : NumberedDebug) : Type 0 where
  pub start_size : ℕ
  pub count_size : ℕ
  pub names_size : ℕ
  pub at_start : Uleb128At b o d.line_start start_size
  pub at_count : Uleb128At b (o + start_size) (length d.parameter_names) count_size
  pub at_names : NamesAt m.texts b (o + start_size + count_size) (length d.parameter_names) d.parameter_names names_size
  pub program : ProgramAt m b (o + start_size + count_size + names_size) d.operations

-- the number of a text
abbrev pub text_index : Option ℕ → Index
text_index i = record { kind = kinds.Text; number = i }

-- the numbers of the symbols of an operation, in the order of its operands
abbrev pub indices_of : Operation → List Index
indices_of (StartLocal register name typ) =
    record { kind = kinds.Text; number = name } ∷ record { kind = kinds.Typ; number = typ } ∷ []
indices_of (StartLocalExtended register name typ signature) =
    record { kind = kinds.Text; number = name } ∷ record { kind = kinds.Typ; number = typ }
    ∷ record { kind = kinds.Text; number = signature } ∷ []
indices_of (SetFile name) = record { kind = kinds.Text; number = name } ∷ []
indices_of _ = []

-- ---- what is checked

-- at offset o are `count` names, which end at offset `end`
pub record EndNames (texts : ℕ) (b : List ℕ) (o count end : ℕ) : Type 0 where
  pub names : List (Option ℕ)
  pub before : o ≤ end
  pub within : end ≤ length b
  pub names_at : NamesAt texts b o count names (end - o)
  pub fit : All FitsIndex names
  pub ends : (others : List (Option ℕ)) (n : ℕ) → NamesAt texts b o count others n → o + n ≡ end

-- at offset o are operations, whose number and weight are those of the tally
pub record AreTallied (m : Counts) (b : List ℕ) (o : ℕ) (t : Tally) : Type 0 where
  pub operations : List Operation
  pub program : ProgramAt m b o operations
  pub formed : All IsFormedOperation operations
  pub few : length operations < 2 ^ 30
  pub count : length operations ≡ t.operations
  pub indices : length (flat_map indices_of operations) ≡ t.indices
  pub weight : sum_by operation_weight operations ≡ t.weight
  pub light : t.weight ≤ 21 * t.operations
  pub bounded : t.indices ≤ 3 * t.operations

-- at offset o is a debug program of this shape
pub record IsShape (m : Counts) (b : List ℕ) (o : ℕ) (s : DebugShape) : Type 0 where
  pub start_size : ℕ
  pub count_size : ℕ
  pub at_start : Uleb128At b o s.line_start start_size
  pub at_count : Uleb128At b (o + start_size) s.names count_size
  pub at_names : s.names_at ≡ o + start_size + count_size
  pub few : s.names < 2 ^ 32
  pub names : EndNames m.texts b s.names_at s.names s.operations_at
  pub operations : AreTallied m b s.operations_at s.tally
  pub weight : s.weight ≡ 11 + 5 * s.names + s.tally.weight

-- how many texts and types there are
abbrev pub counts_of : Mentions → Counts
counts_of m = record { texts = length m.texts; types = length m.types }

-- as many as a file can have
abbrev pub every : Counts
every = record { texts = 4294967295; types = 4294967295 }

-- that is what there is in the debug_info_item at an offset
pub record IsShapeAt (b : List ℕ) (off : ℕ) (m : Mentions) (s : DebugShape) : Type 0 where
  pub in_data : data_off b ≤ off
  pub within : off ≤ length b
  pub small : length b ≤ 2 ^ 30
  pub shape : IsShape (counts_of m) b off s

-- at the offset is a debug program of that weight
pub record HasDebugOf (b : List ℕ) (off : ℕ) (m : Mentions) (weight : ℕ) : Type 0 where
  pub debug : NumberedDebug
  pub at : IsDebugAt b off m debug
  pub weighs : debug_weight (unindexed debug) ≡ weight

-- at the offset is a debug program of the shape's weight
abbrev pub HasDebugOfShape : List ℕ → ℕ → Mentions → DebugShape → Type 0
HasDebugOfShape b off m s = HasDebugOf b off m s.weight

-- ---- what is built

-- at offset o are these `count` names
pub record AreTheNames (texts : ℕ) (b : List ℕ) (o count : ℕ) (names : List (Option ℕ)) : Type 0 where
  pub size : ℕ
  pub names_at : NamesAt texts b o count names size
  pub fit : All FitsIndex names

-- at offset o are `count` names
pub record HaveNames (texts : ℕ) (b : List ℕ) (o count : ℕ) : Type 0 where
  pub names : List (Option ℕ)
  pub are : AreTheNames texts b o count names

-- at offset o are these operations, whose number and weight are those of the tally
pub record AreTheOperations (m : Counts) (b : List ℕ) (o : ℕ) (t : Tally) (ops : List Operation) : Type 0 where
  pub many : length ops ≡ t.operations
  pub program : ProgramAt m b o ops
  pub formed : All IsFormedOperation ops
  pub indices : length (flat_map indices_of ops) ≡ t.indices
  pub weight : sum_by operation_weight ops ≡ t.weight

-- these `count` names at offset o are stored after others
pub record KeepsNames (texts : ℕ) (b : List ℕ) (o count : ℕ) (old new : List Index) : Type 0 where
  pub names : List (Option ℕ)
  pub are : AreTheNames texts b o count names
  pub kept : new ≡ old ++ map text_index names

-- the numbers of the symbols of operations of that tally at offset o are stored after others
pub record KeepsSymbols (m : Counts) (b : List ℕ) (o : ℕ) (t : Tally) (old new : List Index) : Type 0 where
  pub operations : List Operation
  pub are : AreTheOperations m b o t operations
  pub kept : new ≡ old ++ flat_map indices_of operations
