-- Units of code, and debug programs.
use Rattle.std.specs.Prelude.{ℕ, List, [], ◌∷◌, negsuc}
use Rattle.dexspec.specs.Pieces.{Cut}
use Rattle.dexspec.specs.Debug.{Debug, Operation, Special, AdvancePc, AdvanceLine}

abbrev pub cut : ℕ → ℕ → Cut
cut unit units = record { unit = unit; units = units }

-- return-void, then the packed-switch payload's first unit at an odd unit
abbrev pub odd_payload : List ℕ
odd_payload = 0x000e ∷ 0x0100 ∷ 0x0000 ∷ 0x0000 ∷ 0x0000 ∷ []

-- packed-switch to a payload of one target: the return-void after the switch
abbrev pub packed : List ℕ
packed = 0x002b ∷ 0x0004 ∷ 0x0000 ∷ 0x000e ∷ 0x0100 ∷ 0x0001 ∷ 0x0000 ∷ 0x0000 ∷ 0x0003 ∷ 0x0000 ∷ []

-- the same with a target inside the switch
abbrev pub packed_bad_target : List ℕ
packed_bad_target = 0x002b ∷ 0x0004 ∷ 0x0000 ∷ 0x000e ∷ 0x0100 ∷ 0x0001 ∷ 0x0000 ∷ 0x0000 ∷ 0x0002 ∷ 0x0000 ∷ []

-- invoke-virtual of five registers, and of six
abbrev pub invoke : List ℕ
invoke = 0x506e ∷ 0x0000 ∷ 0x0000 ∷ []

abbrev pub six_registers : List ℕ
six_registers = 0x606e ∷ 0x0000 ∷ 0x0000 ∷ []

-- fill-array-data to one element of one byte, and the same with a width of three
abbrev pub array_data : List ℕ
array_data = 0x0026 ∷ 0x0004 ∷ 0x0000 ∷ 0x000e ∷ 0x0300 ∷ 0x0001 ∷ 0x0001 ∷ 0x0000 ∷ 0x00ff ∷ []

abbrev pub array_of_threes : List ℕ
array_of_threes = 0x0300 ∷ 0x0003 ∷ 0x0001 ∷ 0x0000 ∷ 0x00ff ∷ []

-- sparse-switch with the keys -1 and 0
abbrev pub sparse : List ℕ
sparse =
    0x002c ∷ 0x0004 ∷ 0x0000 ∷ 0x000e ∷ 0x0200 ∷ 0x0002 ∷ 0xffff ∷ 0xffff ∷ 0x0000 ∷ 0x0000 ∷ 0x0003 ∷ 0x0000 ∷ 0x0003
    ∷ 0x0000 ∷ []

-- the cuts of `sparse`
abbrev pub sparse_cuts : List Cut
sparse_cuts = cut 0 3 ∷ cut 3 1 ∷ cut 4 10 ∷ []

-- its payload with the key 1 twice
abbrev pub sparse_equal : List ℕ
sparse_equal = 0x0200 ∷ 0x0002 ∷ 0x0001 ∷ 0x0000 ∷ 0x0001 ∷ 0x0000 ∷ 0x0003 ∷ 0x0000 ∷ 0x0003 ∷ 0x0000 ∷ []

-- packed-switch to a sparse payload
abbrev pub sparse_as_packed : List ℕ
sparse_as_packed =
    0x002b ∷ 0x0004 ∷ 0x0000 ∷ 0x000e ∷ 0x0200 ∷ 0x0002 ∷ 0xffff ∷ 0xffff ∷ 0x0000 ∷ 0x0000 ∷ 0x0003 ∷ 0x0000 ∷ 0x0003
    ∷ 0x0000 ∷ []

-- a debug program without names
abbrev pub debug_of : ℕ → List Operation → Debug
debug_of line operations = record { line_start = line; parameter_names = []; operations = operations }

-- five addresses on and three lines back from line 10
abbrev pub five_on : Debug
five_on = debug_of 10 (AdvancePc 5 ∷ AdvanceLine (negsuc 2) ∷ Special 0x0e ∷ [])
