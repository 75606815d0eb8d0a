-- Values that hold no other value, by their type codes.
use Rattle.std.specs.Prelude.{◌≡◌, ℕ, ◌-◌, ◌*◌, ◌^◌, ◌<◌, ◌≤◌, ◌==◌, if◌then◌else◌, List, length, Option, Some, None}
use Rattle.dexspec.specs.Bytes.{number_of, signed_in}
use Rattle.dexspec.specs.Values.{Value, ValueAt, value_depth}
use Rattle.dexspec.specs.Mentions.{Mentions}
use Rattle.dexpool.specs.declared.symbols.SymbolKind.{SymbolKind}
use Rattle.dexpool.specs.declared.symbols.SymbolKind.TheVariants as kinds
use Rattle.dexpool.specs.Pools.{count_of}
use Rattle.dexval.specs.Numbered.{NumberedValue, Literal, Reference, Plain, Named, Array, Annotated, ByteLiteral}
use Rattle.dexval.specs.Numbered.{ShortLiteral, CharLiteral, IntLiteral, LongLiteral, FloatLiteral, DoubleLiteral}
use Rattle.dexval.specs.Numbered.{NullLiteral, BooleanLiteral, StringReference, TypeReference, FieldReference}
use Rattle.dexval.specs.Numbered.{MethodReference, EnumReference, IsKnown, value_in, kind_of_reference}

-- the maximum number of bytes of a value of a type code, if an argument counts them
abbrev pub width_of : ℕ → Option ℕ
width_of code =
    if code == 0x00 then Some 1
    else if code == 0x02 then Some 2
    else if code == 0x03 then Some 2
    else if code == 0x04 then Some 4
    else if code == 0x06 then Some 8
    else if code == 0x10 then Some 4
    else if code == 0x11 then Some 8
    else if code == 0x17 then Some 4
    else if code == 0x18 then Some 4
    else if code == 0x19 then Some 4
    else if code == 0x1a then Some 4
    else if code == 0x1b then Some 4
    else None

-- the kind of symbol that a value of a type code names, if it names one
abbrev pub kind_of_code : ℕ → Option SymbolKind
kind_of_code code =
    if code == 0x17 then Some kinds.Text
    else if code == 0x18 then Some kinds.Typ
    else if code == 0x19 then Some kinds.Field
    else if code == 0x1a then Some kinds.Method
    else if code == 0x1b then Some kinds.Field
    else None

-- the bytes encode the number of a symbol
pub record HasNumber (m : Mentions) (kind : SymbolKind) (bytes : List ℕ) (i : ℕ) : Type 0 where
  pub is : i ≡ number_of bytes
  pub known : i < count_of kind m

-- the bytes encode the number of no symbol
abbrev pub HasNoSymbol : Mentions → SymbolKind → List ℕ → Type 0
HasNoSymbol m kind bytes = count_of kind m ≤ number_of bytes

-- the type code names a kind of symbol and the bytes encode the number of no symbol of it, or the code names no kind
-- and has no width
pub record IsUnknown (m : Mentions) (code : ℕ) (bytes : List ℕ) : Type 0 where
  pub unknown : (kind : SymbolKind) → kind_of_code code ≡ Some kind → count_of kind m ≤ number_of bytes
  pub names : (width : ℕ) → width_of code ≡ Some width → (kind : SymbolKind) × (kind_of_code code ≡ Some kind)

-- the bytes after a first byte of a type code encode the literal
abbrev pub SpellsLiteral : ℕ → List ℕ → Literal → Type 0
SpellsLiteral code bytes (ByteLiteral z) = (code ≡ 0x00) × (z ≡ signed_in (length bytes) (number_of bytes))
SpellsLiteral code bytes (ShortLiteral z) = (code ≡ 0x02) × (z ≡ signed_in (length bytes) (number_of bytes))
SpellsLiteral code bytes (CharLiteral u) = (code ≡ 0x03) × (u ≡ number_of bytes)
SpellsLiteral code bytes (IntLiteral z) = (code ≡ 0x04) × (z ≡ signed_in (length bytes) (number_of bytes))
SpellsLiteral code bytes (LongLiteral z) = (code ≡ 0x06) × (z ≡ signed_in (length bytes) (number_of bytes))
SpellsLiteral code bytes (FloatLiteral bits) = (code ≡ 0x10) × (bits ≡ 256 ^ (4 - length bytes) * number_of bytes)
SpellsLiteral code bytes (DoubleLiteral bits) = (code ≡ 0x11) × (bits ≡ 256 ^ (8 - length bytes) * number_of bytes)
SpellsLiteral code bytes NullLiteral = ⊥
SpellsLiteral code bytes (BooleanLiteral is) = ⊥

-- the type code of values that name a symbol in this way
abbrev pub code_of_reference : Reference → ℕ
code_of_reference StringReference = 0x17
code_of_reference TypeReference = 0x18
code_of_reference FieldReference = 0x19
code_of_reference MethodReference = 0x1a
code_of_reference EnumReference = 0x1b

-- a value that holds no other, and whose type code this is if it names a symbol
abbrev pub IsScalar : ℕ → NumberedValue → Type 0
IsScalar code (Plain literal) = Unit {0}
IsScalar code (Named reference i) = code ≡ code_of_reference reference
IsScalar code (Array xs) = ⊥
IsScalar code (Annotated t es) = ⊥

-- the bytes after a first byte of a type code encode the value
abbrev pub Spells : Mentions → ℕ → List ℕ → NumberedValue → Type 0
Spells m code bytes (Plain literal) = SpellsLiteral code bytes literal
Spells m code bytes (Named reference i) =
    (code ≡ code_of_reference reference) × HasNumber m (kind_of_reference reference) bytes i
Spells m code bytes (Array xs) = ⊥
Spells m code bytes (Annotated t es) = ⊥

-- no value of at most this depth is at the offset
abbrev pub NoValueAt : List ℕ → ℕ → ℕ → Type 0
NoValueAt b o depth = (v : Value) (n : ℕ) → ValueAt b o v n → value_depth v ≤ depth → ⊥

-- the value that the numbers denote is at the offset, in n bytes, and nests at most `depth` deep
pub record IsReadAt (b : List ℕ) (o : ℕ) (m : Mentions) (depth : ℕ) (x : NumberedValue) (n : ℕ) : Type 0 where
  pub known : IsKnown m x
  pub encodes : ValueAt b o (value_in m x) n
  pub shallow : value_depth (value_in m x) ≤ depth
