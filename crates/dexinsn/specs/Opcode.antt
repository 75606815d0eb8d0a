-- The enums of the code, as what they mean.
use Rattle.std.specs.Prelude.{◌≡◌, ℕ, ◌+◌, ◌^◌, ◌<◌, ◌≤◌, Bool, false, List, [], length, map, slice_index, Option, Some}
use Rattle.std.specs.Prelude.{None}
use Rattle.std.specs.List.{range_with_len}
use Rattle.std.specs.Borrow.{Bor}
use Rattle.std.specs.Option.{option_and_then, option_map, option_map_or}
use Rattle.dexspec.specs.Opcodes.{opcode_of, units_in, Format as Meant, F10x, F12x, F11n, F11x, F10t, F20t, F22x, F21t}
use Rattle.dexspec.specs.Opcodes.{F21s, F21h, F21c, F23x, F22b, F22s, F22t, F22c, F30t, F32x, F31i, F31t, F31c, F35c}
use Rattle.dexspec.specs.Opcodes.{F3rc, F51l}
use Rattle.dexinsn.specs.declared.format.Format.{Format}
use Rattle.dexinsn.specs.declared.format.Format.TheVariants.{Format10x, Format12x, Format11n, Format11x, Format10t}
use Rattle.dexinsn.specs.declared.format.Format.TheVariants.{Format20t, Format22x, Format21t, Format21s, Format21h}
use Rattle.dexinsn.specs.declared.format.Format.TheVariants.{Format21c, Format23x, Format22b, Format22s, Format22t}
use Rattle.dexinsn.specs.declared.format.Format.TheVariants.{Format22c, Format30t, Format32x, Format31i, Format31t}
use Rattle.dexinsn.specs.declared.format.Format.TheVariants.{Format31c, Format35c, Format3rc, Format51l}
use Rattle.dexinsn.specs.declared.opcodes.IndexKind.{IndexKind}
use Rattle.dexinsn.specs.declared.opcodes.IndexKind.TheVariants as indices
use Rattle.dexinsn.specs.declared.opcodes.Row.{Row}
use Rattle.dexspec.specs.Pieces.{low_byte}
use Rattle.dexinsn.specs.Checking.{branches}
use Rattle.dexpool.specs.declared.symbols.SymbolKind.TheVariants as kinds
use Rattle.dexpool.specs.declared.symbols.SymbolKind.{SymbolKind}
use Rattle.dexinsn.specs.Numbered.{kind_of_pool}

-- the format that the page names so
abbrev pub format_of : Format → Meant
format_of Format10x = F10x
format_of Format12x = F12x
format_of Format11n = F11n
format_of Format11x = F11x
format_of Format10t = F10t
format_of Format20t = F20t
format_of Format22x = F22x
format_of Format21t = F21t
format_of Format21s = F21s
format_of Format21h = F21h
format_of Format21c = F21c
format_of Format23x = F23x
format_of Format22b = F22b
format_of Format22s = F22s
format_of Format22t = F22t
format_of Format22c = F22c
format_of Format30t = F30t
format_of Format32x = F32x
format_of Format31i = F31i
format_of Format31t = F31t
format_of Format31c = F31c
format_of Format35c = F35c
format_of Format3rc = F3rc
format_of Format51l = F51l

-- The greatest first unit of an instruction of this format, if each first unit up to it with the opcode begins one and
-- an index has 16 bits; 0 for the one format whose index has 32.
abbrev pub greatest_first : Meant → ℕ
greatest_first F10x = 0x00ff
greatest_first F20t = 0x00ff
greatest_first F30t = 0x00ff
greatest_first F32x = 0x00ff
greatest_first F35c = 0x5fff
greatest_first F31c = 0
greatest_first _ = 0xffff

-- of an opcode: the number of units, and the greatest first unit; 0 where it is unused
abbrev pub units_at : ℕ → ℕ
units_at op = option_map_or (λ o. units_in o.format) (opcode_of op) 0

abbrev pub greatest_at : ℕ → ℕ
greatest_at op = option_map_or (λ o. greatest_first o.format) (opcode_of op) 0

-- of an opcode: the kind of symbol that its index names, if it has one
abbrev pub kind_at : ℕ → Option SymbolKind
kind_at op = option_map kind_of_pool (option_and_then (λ o. o.index) (opcode_of op))

-- whether instructions of an opcode have a target
abbrev pub branches_at : ℕ → Bool
branches_at op = option_map_or (λ o. branches o.format) (opcode_of op) false

-- the kind of symbol that an index names, if there is one
abbrev pub kind_of_index : IndexKind → Option SymbolKind
kind_of_index indices.Text = Some kinds.Text
kind_of_index indices.Typ = Some kinds.Typ
kind_of_index indices.Proto = Some kinds.Proto
kind_of_index indices.Field = Some kinds.Field
kind_of_index indices.Method = Some kinds.Method
kind_of_index indices.Absent = None

-- what a row says
abbrev pub meant : Row → Option Meant × Option SymbolKind × ℕ × Bool × ℕ
meant row = (option_map format_of row.format, kind_of_index row.index, row.units, row.branches, row.greatest)

-- what it is to say of an opcode
abbrev pub row_meant : ℕ → Option Meant × Option SymbolKind × ℕ × Bool × ℕ
row_meant op = (option_map (λ o. o.format) (opcode_of op), kind_at op, units_at op, branches_at op, greatest_at op)

-- the row says so
pub record IsRowOf (op : ℕ) (row : Row) : Type 0 where
  pub format : option_map format_of row.format ≡ option_map (λ o. o.format) (opcode_of op)
  pub index : kind_of_index row.index ≡ kind_at op
  pub units : row.units ≡ units_at op
  pub branches : row.branches ≡ branches_at op
  pub greatest : row.greatest ≡ greatest_at op

-- it is that of the instruction that begins at the unit, which has no index or one of 16 bits, and a unit follows it
pub record IsPlainRow (us : List ℕ) (at : ℕ) (row : Row) : Type 0 where
  pub row_is : IsRowOf (low_byte (slice_index us at)) row
  pub within : at + row.units < length us
  pub small : at < 2 ^ 62
  pub least : slice_index us at ≤ row.greatest

-- the table says so of each opcode
pub record AreRows (rows : List Row) : Type 0 where
  pub each : map meant rows ≡ map row_meant (range_with_len 0 256)

-- the mnemonic of an opcode; empty where the opcode is unused
abbrev pub mnemonic_of : ℕ → List ℕ
mnemonic_of op = option_map_or (λ o. o.mnemonic) (opcode_of op) []

-- the table has the mnemonic of each opcode
pub record AreMnemonics (texts : List (Bor (List ℕ))) : Type 0 where
  pub each : map (λ text. text.now) texts ≡ map mnemonic_of (range_with_len 0 256)
