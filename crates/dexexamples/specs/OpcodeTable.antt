-- The public page's table of opcodes, written out opcode by opcode: three letters for the format, one for the kind of
-- index, dots if the opcode is unused, and all mnemonics in one text.
use Rattle.std.specs.Prelude.{ℕ, List, ◌++◌, Option, Some, None, codes}
use Rattle.std.specs.List.{flat_map, range_with_len}
use Rattle.dexspec.specs.Symbols.{Pool, StringPool, TypePool, ProtoPool, FieldPool, MethodPool}
use Rattle.dexspec.specs.Opcodes.{Format, Opcode, opcode_of, F10x, F12x, F11n, F11x, F10t, F20t, F22x, F21t, F21s, F21h}
use Rattle.dexspec.specs.Opcodes.{F21c, F23x, F22b, F22s, F22t, F22c, F30t, F32x, F31i, F31t, F31c, F35c, F3rc, F51l}

abbrev pub opcode_numbers : List ℕ
opcode_numbers = range_with_len 0 256

abbrev pub letters : Format → List ℕ
letters F10x = codes "10x"
letters F12x = codes "12x"
letters F11n = codes "11n"
letters F11x = codes "11x"
letters F10t = codes "10t"
letters F20t = codes "20t"
letters F22x = codes "22x"
letters F21t = codes "21t"
letters F21s = codes "21s"
letters F21h = codes "21h"
letters F21c = codes "21c"
letters F23x = codes "23x"
letters F22b = codes "22b"
letters F22s = codes "22s"
letters F22t = codes "22t"
letters F22c = codes "22c"
letters F30t = codes "30t"
letters F32x = codes "32x"
letters F31i = codes "31i"
letters F31t = codes "31t"
letters F31c = codes "31c"
letters F35c = codes "35c"
letters F3rc = codes "3rc"
letters F51l = codes "51l"

abbrev pub index_letter_of : Option Pool → List ℕ
index_letter_of None = codes "-"
index_letter_of (Some StringPool) = codes "s"
index_letter_of (Some TypePool) = codes "t"
index_letter_of (Some ProtoPool) = codes "p"
index_letter_of (Some FieldPool) = codes "f"
index_letter_of (Some MethodPool) = codes "m"

abbrev format_of : Option Opcode → List ℕ
format_of None = codes "..."
format_of (Some op) = letters op.format

abbrev index_of : Option Opcode → List ℕ
index_of None = codes "."
index_of (Some op) = index_letter_of op.index

abbrev mnemonic_of : Option Opcode → List ℕ
mnemonic_of None = codes "."
mnemonic_of (Some op) = op.mnemonic

-- the formats, kinds of index and mnemonics of all opcodes, by the definitions
abbrev pub all_formats : List ℕ
all_formats = flat_map (λ n. format_of (opcode_of n)) opcode_numbers

abbrev pub all_indices : List ℕ
all_indices = flat_map (λ n. index_of (opcode_of n)) opcode_numbers

abbrev pub all_mnemonics : List ℕ
all_mnemonics = flat_map (λ n. mnemonic_of (opcode_of n) ++ codes " ") opcode_numbers

-- the formats, 16 opcodes a line
abbrev pub expected_formats : List ℕ
expected_formats =
    codes "10x12x22x32x12x22x32x12x22x32x11x11x11x11x10x11x" ++ (
    codes "11x11x11n21s31i21h21s31i51l21h21c31c21c11x11x21c" ++ (
    codes "22c12x21c22c35c3rc31t11x10t20t30t31t31t23x23x23x" ++ (
    codes "23x23x22t22t22t22t22t22t21t21t21t21t21t21t......" ++ (
    codes "............23x23x23x23x23x23x23x23x23x23x23x23x" ++ (
    codes "23x23x22c22c22c22c22c22c22c22c22c22c22c22c22c22c" ++ (
    codes "21c21c21c21c21c21c21c21c21c21c21c21c21c21c35c35c" ++ (
    codes "35c35c35c...3rc3rc3rc3rc3rc......12x12x12x12x12x" ++ (
    codes "12x12x12x12x12x12x12x12x12x12x12x12x12x12x12x12x" ++ (
    codes "23x23x23x23x23x23x23x23x23x23x23x23x23x23x23x23x" ++ (
    codes "23x23x23x23x23x23x23x23x23x23x23x23x23x23x23x23x" ++ (
    codes "12x12x12x12x12x12x12x12x12x12x12x12x12x12x12x12x" ++ (
    codes "12x12x12x12x12x12x12x12x12x12x12x12x12x12x12x12x" ++ (
    codes "22s22s22s22s22s22s22s22s22b22b22b22b22b22b22b22b" ++ (
    codes "22b22b22b......................................." ++ (
    codes "................................................")))))))))))))))

-- the kinds of index, 64 opcodes a line
abbrev pub expected_indices : List ℕ
expected_indices =
    codes "--------------------------sst--tt-tttt------------------------.." ++ (
    codes "....--------------ffffffffffffffffffffffffffffmmmmm.mmmmm..-----" ++ (
    codes "----------------------------------------------------------------" ++ (
    codes "-----------------------------------.............................")))

-- the mnemonics, 4 opcodes a line
abbrev pub expected_mnemonics : List ℕ
expected_mnemonics =
    codes "nop move move/from16 move/16 " ++ (
    codes "move-wide move-wide/from16 move-wide/16 move-object " ++ (
    codes "move-object/from16 move-object/16 move-result move-result-wide " ++ (
    codes "move-result-object move-exception return-void return " ++ (
    codes "return-wide return-object const/4 const/16 " ++ (
    codes "const const/high16 const-wide/16 const-wide/32 " ++ (
    codes "const-wide const-wide/high16 const-string const-string/jumbo " ++ (
    codes "const-class monitor-enter monitor-exit check-cast " ++ (
    codes "instance-of array-length new-instance new-array " ++ (
    codes "filled-new-array filled-new-array/range fill-array-data throw " ++ (
    codes "goto goto/16 goto/32 packed-switch " ++ (
    codes "sparse-switch cmpl-float cmpg-float cmpl-double " ++ (
    codes "cmpg-double cmp-long if-eq if-ne " ++ (
    codes "if-lt if-ge if-gt if-le " ++ (
    codes "if-eqz if-nez if-ltz if-gez " ++ (
    codes "if-gtz if-lez . . " ++ (
    codes ". . . . " ++ (
    codes "aget aget-wide aget-object aget-boolean " ++ (
    codes "aget-byte aget-char aget-short aput " ++ (
    codes "aput-wide aput-object aput-boolean aput-byte " ++ (
    codes "aput-char aput-short iget iget-wide " ++ (
    codes "iget-object iget-boolean iget-byte iget-char " ++ (
    codes "iget-short iput iput-wide iput-object " ++ (
    codes "iput-boolean iput-byte iput-char iput-short " ++ (
    codes "sget sget-wide sget-object sget-boolean " ++ (
    codes "sget-byte sget-char sget-short sput " ++ (
    codes "sput-wide sput-object sput-boolean sput-byte " ++ (
    codes "sput-char sput-short invoke-virtual invoke-super " ++ (
    codes "invoke-direct invoke-static invoke-interface . " ++ (
    codes "invoke-virtual/range invoke-super/range invoke-direct/range invoke-static/range " ++ (
    codes "invoke-interface/range . . neg-int " ++ (
    codes "not-int neg-long not-long neg-float " ++ (
    codes "neg-double int-to-long int-to-float int-to-double " ++ (
    codes "long-to-int long-to-float long-to-double float-to-int " ++ (
    codes "float-to-long float-to-double double-to-int double-to-long " ++ (
    codes "double-to-float int-to-byte int-to-char int-to-short " ++ (
    codes "add-int sub-int mul-int div-int " ++ (
    codes "rem-int and-int or-int xor-int " ++ (
    codes "shl-int shr-int ushr-int add-long " ++ (
    codes "sub-long mul-long div-long rem-long " ++ (
    codes "and-long or-long xor-long shl-long " ++ (
    codes "shr-long ushr-long add-float sub-float " ++ (
    codes "mul-float div-float rem-float add-double " ++ (
    codes "sub-double mul-double div-double rem-double " ++ (
    codes "add-int/2addr sub-int/2addr mul-int/2addr div-int/2addr " ++ (
    codes "rem-int/2addr and-int/2addr or-int/2addr xor-int/2addr " ++ (
    codes "shl-int/2addr shr-int/2addr ushr-int/2addr add-long/2addr " ++ (
    codes "sub-long/2addr mul-long/2addr div-long/2addr rem-long/2addr " ++ (
    codes "and-long/2addr or-long/2addr xor-long/2addr shl-long/2addr " ++ (
    codes "shr-long/2addr ushr-long/2addr add-float/2addr sub-float/2addr " ++ (
    codes "mul-float/2addr div-float/2addr rem-float/2addr add-double/2addr " ++ (
    codes "sub-double/2addr mul-double/2addr div-double/2addr rem-double/2addr " ++ (
    codes "add-int/lit16 rsub-int mul-int/lit16 div-int/lit16 " ++ (
    codes "rem-int/lit16 and-int/lit16 or-int/lit16 xor-int/lit16 " ++ (
    codes "add-int/lit8 rsub-int/lit8 mul-int/lit8 div-int/lit8 " ++ (
    codes "rem-int/lit8 and-int/lit8 or-int/lit8 xor-int/lit8 " ++ (
    codes "shl-int/lit8 shr-int/lit8 ushr-int/lit8 . " ++ (
    codes ". . . . " ++ (
    codes ". . . . " ++ (
    codes ". . . . " ++ (
    codes ". . . . " ++ (
    codes ". . . . " ++ (
    codes ". . . . " ++ (
    codes ". . . . ")))))))))))))))))))))))))))))))))))))))))))))))))))))))))))))))
