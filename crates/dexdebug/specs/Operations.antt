-- Operations as they are stored: their bytes in a file, and beside them the numbers of their symbols.
use Rattle.std.specs.Prelude.{◌≡◌, ◌==◌, ℕ, zero, suc, ℤ, ◌+◌, if◌then◌else◌, nat_lt, List, [], ◌∷◌, ◌++◌, take, drop}
use Rattle.std.specs.Prelude.{length, map, slice_index_or, Option, None}
use Rattle.std.specs.List.{flat_map}
use Rattle.dexspec.specs.Lists.{Sequence}
use Rattle.dexspec.specs.Numbers.{sum_of_groups, signed_sum}
use Rattle.dexspec.specs.Weight.{operands}
use Rattle.dexpool.specs.declared.symbols.SymbolKind.TheVariants as kinds
use Rattle.dexpool.specs.Numberings.{Maps}
use Rattle.dexdebug.specs.declared.debug_operation.Operation.{Operation}
use Rattle.dexdebug.specs.declared.debug_operation.Operation.TheVariants.{AdvancePc, AdvanceLine, StartLocal}
use Rattle.dexdebug.specs.declared.debug_operation.Operation.TheVariants.{StartLocalExtended, EndLocal, RestartLocal}
use Rattle.dexdebug.specs.declared.debug_operation.Operation.TheVariants.{SetPrologueEnd, SetEpilogueBegin, SetFile}
use Rattle.dexdebug.specs.declared.debug_operation.Operation.TheVariants.{Special}
use Rattle.dexdebug.specs.declared.indices.Index.{Index}
use Rattle.dexdebug.specs.Debug.{NumberedDebug, image_or_none, unindexed_operation, with_numbers}
use Rattle.dexdebug.specs.DebugReading.{NumberedAt, every, indices_of, text_index}

-- ---- the bytes

-- the bytes of the first number of a list: up to the first that has its top bit clear
abbrev pub chain_of : List ℕ → List ℕ
chain_of [] = []
chain_of (b ∷ bs) = if nat_lt b 128 then b ∷ [] else b ∷ chain_of bs

-- the bytes of the number at offset o
abbrev pub chain_at : List ℕ → ℕ → List ℕ
chain_at b o = chain_of (drop o b)

-- the offset after `count` numbers
abbrev pub after_numbers : List ℕ → ℕ → ℕ → ℕ
after_numbers b o zero = o
after_numbers b o (suc count) = after_numbers b (o + length (chain_at b o)) count

-- the offset after the operation at offset o
abbrev pub after_operation : List ℕ → ℕ → Operation → ℕ
after_operation b o op = after_numbers b (o + 1) (operands (unindexed_operation op))

-- ---- the operations

-- the operation of an opcode: its first operand without and with a sign, and the numbers at its places
abbrev pub operation_of : ℕ → ℕ → ℤ → Option ℕ → Option ℕ → Option ℕ → Operation
operation_of c number lines first second third =
    if nat_lt c 0x0a then
    (if c == 0x01 then AdvancePc number
    else if c == 0x02 then AdvanceLine lines
    else if c == 0x03 then StartLocal number first second
    else if c == 0x04 then StartLocalExtended number first second third
    else if c == 0x05 then EndLocal number
    else if c == 0x06 then RestartLocal number
    else if c == 0x07 then SetPrologueEnd
    else if c == 0x08 then SetEpilogueBegin
    else SetFile first)
    else Special c

-- the number at a place
abbrev pub number_in : List Index → ℕ → Option ℕ
number_in is place = (slice_index_or is place (record { kind = kinds.Text; number = None })).number

-- the operation at offset o, whose numbers are the first of these
unfoldable pub operation_in : List ℕ → ℕ → List Index → Operation
operation_in b o is =
    operation_of (slice_index_or b o 0) (sum_of_groups (chain_at b (o + 1))) (signed_sum (chain_at b (o + 1)))
    (number_in is 0) (number_in is 1) (number_in is 2)

-- `count` operations from offset o on, which take the numbers in order
abbrev pub operations_in : ℕ → List ℕ → ℕ → List Index → List Operation
operations_in zero b o is = []
operations_in (suc count) b o is =
    operation_in b o is
    ∷ operations_in count b (after_operation b o (operation_in b o is))
    (drop (length (indices_of (operation_in b o is))) is)

-- ---- what is stored

-- the operation without numbers of symbols
abbrev pub unindexed_of : Operation → Operation
unindexed_of op = with_numbers op None None None

-- at offset o is the operation, whatever the numbers of its symbols, in n bytes
pub record IsStoredAt (b : List ℕ) (o : ℕ) (op : Operation) (n : ℕ) : Type 0 where
  pub encoded : Operation
  pub at : NumberedAt every b o encoded n
  pub same : unindexed_of encoded ≡ unindexed_of op

-- from offset o on are `count` operations, and these are the numbers of their symbols
pub record AreStored (count : ℕ) (b : List ℕ) (o : ℕ) (is : List Index) : Type 0 where
  pub operations : List Operation
  pub size : ℕ
  pub many : length operations ≡ count
  pub each : Sequence IsStoredAt b o operations size
  pub indices_are : is ≡ flat_map indices_of operations

-- the numbers without the kinds of their symbols
abbrev pub numbers_in : List Index → List (Option ℕ)
numbers_in is = map (λ (i : Index). i.number) is

-- the debug program of these names and the operations from offset o on, which take the numbers after the names
abbrev pub stored_debug : ℕ → ℕ → ℕ → List ℕ → ℕ → List Index → NumberedDebug
stored_debug line_start names count b o is =
    record {
      line_start = line_start;
      parameter_names = numbers_in (take names is);
      operations = operations_in count b o (drop names is);
    }

-- the first are as many names, and those after them are of the operations from offset o on
pub record IsStored (names count : ℕ) (b : List ℕ) (o : ℕ) (is : List Index) : Type 0 where
  pub named : List (Option ℕ)
  pub many : length named ≡ names
  pub symbols : List Index
  pub stored : AreStored count b o symbols
  pub indices_are : is ≡ map text_index named ++ symbols

-- the number mapped to its image
abbrev pub renumbered_index : Maps → Index → Index
renumbered_index r i = record { kind = i.kind; number = image_or_none r i.kind i.number }
