-- The 256 opcodes of version 035, of which 218 are used: formats, kinds of index and mnemonics, as one table.
-- Source: "Dalvik bytecode", "Summary of bytecode set", and "Dalvik executable instruction formats". An
-- opcode that the table lacks is unused in this version (this project's rule).
use Rattle.std.specs.Prelude.{ℕ, ◌+◌, ◌-◌, ◌&&◌, Bool, List, [], ◌∷◌, ◌++◌, length, map, Option, Some, None}
use Rattle.std.specs.Prelude.{slice_index_or, nat_le, nat_lt, codes}
use Rattle.std.specs.List.{find}
use Rattle.std.specs.Option.{option_map}
use Rattle.dexspec.specs.Symbols.{Pool, StringPool, TypePool, FieldPool, MethodPool}

-- The formats, by the names of the page: the number of units, the number of registers, and a letter for other operands.
pub data Format : Type 0 where
  F10x F12x F11n F11x F10t F20t F22x F21t F21s F21h F21c F23x F22b F22s F22t F22c F30t F32x F31i F31t F31c F35c : Format
  F3rc F51l : Format

-- the number of 16-bit units
abbrev pub units_in : Format → ℕ
units_in F10x = 1
units_in F12x = 1
units_in F11n = 1
units_in F11x = 1
units_in F10t = 1
units_in F20t = 2
units_in F22x = 2
units_in F21t = 2
units_in F21s = 2
units_in F21h = 2
units_in F21c = 2
units_in F23x = 2
units_in F22b = 2
units_in F22s = 2
units_in F22t = 2
units_in F22c = 2
units_in F30t = 3
units_in F32x = 3
units_in F31i = 3
units_in F31t = 3
units_in F31c = 3
units_in F35c = 3
units_in F3rc = 3
units_in F51l = 5

-- an opcode: its format, the pool of its index, if it has one, and its mnemonic
pub record Opcode : Type 0 where
  pub format : Format
  pub index : Option Pool
  pub mnemonic : List ℕ

-- consecutive opcodes of one format and one kind of index
pub record OpcodeRun : Type 0 where
  pub first : ℕ
  pub format : Format
  pub index : Option Pool
  pub mnemonics : List (List ℕ)

-- a stem with each of the endings
abbrev pub each_with : List ℕ → List (List ℕ) → List (List ℕ)
each_with stem endings = map (λ ending. stem ++ ending) endings

-- each of the stems with an ending
abbrev pub all_with : List (List ℕ) → List ℕ → List (List ℕ)
all_with stems ending = map (λ stem. stem ++ ending) stems

-- the endings of moves and returns
abbrev pub move_endings : List (List ℕ)
move_endings = codes "" ∷ codes "-wide" ∷ codes "-object" ∷ []

-- the seven endings of kinds, of elements, fields and arrays
abbrev pub kind_endings : List (List ℕ)
kind_endings =
    codes "" ∷ codes "-wide" ∷ codes "-object" ∷ codes "-boolean" ∷ codes "-byte" ∷ codes "-char" ∷ codes "-short" ∷ []

-- the six comparisons of branches
abbrev pub comparisons : List (List ℕ)
comparisons = codes "if-eq" ∷ codes "if-ne" ∷ codes "if-lt" ∷ codes "if-ge" ∷ codes "if-gt" ∷ codes "if-le" ∷ []

-- the five ways to invoke
abbrev pub invocations : List (List ℕ)
invocations =
    codes "invoke-virtual" ∷ codes "invoke-super" ∷ codes "invoke-direct" ∷ codes "invoke-static"
    ∷ codes "invoke-interface" ∷ []

-- the operations that exist for floats too
abbrev pub arithmetic : List (List ℕ)
arithmetic = codes "add" ∷ codes "sub" ∷ codes "mul" ∷ codes "div" ∷ codes "rem" ∷ []

-- the operations for whole numbers alone
abbrev pub bitwise : List (List ℕ)
bitwise = codes "and" ∷ codes "or" ∷ codes "xor" ∷ []

-- the three shifts
abbrev pub shifts : List (List ℕ)
shifts = codes "shl" ∷ codes "shr" ∷ codes "ushr" ∷ []

-- the 32 operations on two registers
abbrev pub binary_operations : List (List ℕ)
binary_operations =
    all_with (arithmetic ++ (bitwise ++ shifts)) (codes "-int")
    ++ (all_with (arithmetic ++ (bitwise ++ shifts)) (codes "-long")
    ++ (all_with arithmetic (codes "-float") ++ all_with arithmetic (codes "-double")))

-- opcodes without an index
abbrev pub run : ℕ → Format → List (List ℕ) → OpcodeRun
run first format names = record { first = first; format = format; index = None; mnemonics = names }

-- opcodes with an index of this pool
abbrev pub run_with : ℕ → Format → Pool → List (List ℕ) → OpcodeRun
run_with first format pool names = record { first = first; format = format; index = Some pool; mnemonics = names }

-- the table
unfoldable pub opcode_runs : List OpcodeRun
opcode_runs =
    run 0x00 F10x (codes "nop" ∷ [])
    ∷ run 0x01 F12x (codes "move" ∷ []) ∷ run 0x02 F22x (codes "move/from16" ∷ [])
    ∷ run 0x03 F32x (codes "move/16" ∷ []) ∷ run 0x04 F12x (codes "move-wide" ∷ [])
    ∷ run 0x05 F22x (codes "move-wide/from16" ∷ []) ∷ run 0x06 F32x (codes "move-wide/16" ∷ [])
    ∷ run 0x07 F12x (codes "move-object" ∷ []) ∷ run 0x08 F22x (codes "move-object/from16" ∷ [])
    ∷ run 0x09 F32x (codes "move-object/16" ∷ []) ∷ run 0x0a F11x (each_with (codes "move-result") move_endings)
    ∷ run 0x0d F11x (codes "move-exception" ∷ [])
    ∷ run 0x0e F10x (codes "return-void" ∷ []) ∷ run 0x0f F11x (each_with (codes "return") move_endings)
    ∷ run 0x12 F11n (codes "const/4" ∷ []) ∷ run 0x13 F21s (codes "const/16" ∷ []) ∷ run 0x14 F31i (codes "const" ∷ [])
    ∷ run 0x15 F21h (codes "const/high16" ∷ []) ∷ run 0x16 F21s (codes "const-wide/16" ∷ [])
    ∷ run 0x17 F31i (codes "const-wide/32" ∷ []) ∷ run 0x18 F51l (codes "const-wide" ∷ [])
    ∷ run 0x19 F21h (codes "const-wide/high16" ∷ []) ∷ run_with 0x1a F21c StringPool (codes "const-string" ∷ [])
    ∷ run_with 0x1b F31c StringPool (codes "const-string/jumbo" ∷ [])
    ∷ run_with 0x1c F21c TypePool (codes "const-class" ∷ [])
    ∷ run 0x1d F11x (codes "monitor-enter" ∷ codes "monitor-exit" ∷ [])
    ∷ run_with 0x1f F21c TypePool (codes "check-cast" ∷ []) ∷ run_with 0x20 F22c TypePool (codes "instance-of" ∷ [])
    ∷ run 0x21 F12x (codes "array-length" ∷ [])
    ∷ run_with 0x22 F21c TypePool (codes "new-instance" ∷ []) ∷ run_with 0x23 F22c TypePool (codes "new-array" ∷ [])
    ∷ run_with 0x24 F35c TypePool (codes "filled-new-array" ∷ [])
    ∷ run_with 0x25 F3rc TypePool (codes "filled-new-array/range" ∷ [])
    ∷ run 0x26 F31t (codes "fill-array-data" ∷ [])
    ∷ run 0x27 F11x (codes "throw" ∷ [])
    ∷ run 0x28 F10t (codes "goto" ∷ []) ∷ run 0x29 F20t (codes "goto/16" ∷ []) ∷ run 0x2a F30t (codes "goto/32" ∷ [])
    ∷ run 0x2b F31t (codes "packed-switch" ∷ codes "sparse-switch" ∷ [])
    ∷ run 0x2d F23x
    (codes "cmpl-float" ∷ codes "cmpg-float" ∷ codes "cmpl-double" ∷ codes "cmpg-double" ∷ codes "cmp-long" ∷ [])
    ∷ run 0x32 F22t comparisons ∷ run 0x38 F21t (all_with comparisons (codes "z"))
    ∷ run 0x44 F23x (each_with (codes "aget") kind_endings) ∷ run 0x4b F23x (each_with (codes "aput") kind_endings)
    ∷ run_with 0x52 F22c FieldPool (each_with (codes "iget") kind_endings)
    ∷ run_with 0x59 F22c FieldPool (each_with (codes "iput") kind_endings)
    ∷ run_with 0x60 F21c FieldPool (each_with (codes "sget") kind_endings)
    ∷ run_with 0x67 F21c FieldPool (each_with (codes "sput") kind_endings)
    ∷ run_with 0x6e F35c MethodPool invocations ∷ run_with 0x74 F3rc MethodPool (all_with invocations (codes "/range"))
    ∷ run 0x7b F12x
    (codes "neg-int" ∷ codes "not-int" ∷ codes "neg-long" ∷ codes "not-long" ∷ codes "neg-float" ∷ codes "neg-double"
    ∷ [])
    ∷ run 0x81 F12x (codes "int-to-long" ∷ codes "int-to-float" ∷ codes "int-to-double"
    ∷ codes "long-to-int" ∷ codes "long-to-float" ∷ codes "long-to-double" ∷ [])
    ∷ run 0x87 F12x (codes "float-to-int" ∷ codes "float-to-long" ∷ codes "float-to-double"
    ∷ codes "double-to-int" ∷ codes "double-to-long" ∷ codes "double-to-float" ∷ [])
    ∷ run 0x8d F12x (codes "int-to-byte" ∷ codes "int-to-char" ∷ codes "int-to-short" ∷ [])
    ∷ run 0x90 F23x binary_operations ∷ run 0xb0 F12x (all_with binary_operations (codes "/2addr"))
    ∷ run 0xd0 F22s
    (codes "add-int/lit16" ∷ codes "rsub-int"
    ∷ all_with (codes "mul" ∷ codes "div" ∷ codes "rem" ∷ bitwise) (codes "-int/lit16"))
    ∷ run 0xd8 F22b
    (all_with (codes "add" ∷ codes "rsub" ∷ codes "mul" ∷ codes "div" ∷ codes "rem" ∷ bitwise ++ shifts)
    (codes "-int/lit8"))
    ∷ []

-- the opcode is one of the run
abbrev pub is_in_run : ℕ → OpcodeRun → Bool
is_in_run op r = nat_le r.first op && nat_lt op (r.first + length r.mnemonics)

-- the opcode of a number that is in the run
abbrev pub opcode_in : ℕ → OpcodeRun → Opcode
opcode_in op r = record { format = r.format; index = r.index; mnemonic = slice_index_or r.mnemonics (op - r.first) [] }

-- the opcode of a number, or nothing if it is unused
unfoldable pub opcode_of : ℕ → Option Opcode
opcode_of op = option_map (opcode_in op) (find (is_in_run op) opcode_runs)
