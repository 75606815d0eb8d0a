-- Values, annotations, sets and directories whose symbols are numbers, and what they denote.
use Rattle.std.specs.Prelude.{◌≡◌, ℕ, ℤ, ◌<◌, Bool, List, [], ◌∷◌, map, length, All, slice_index_or}
use Rattle.dexspec.specs.Symbols.{Field, Method}
use Rattle.dexspec.specs.Values.{Value, ByteValue, ShortValue, CharValue, IntValue, LongValue, FloatValue, DoubleValue}
use Rattle.dexspec.specs.Values.{StringValue, TypeValue, FieldValue, MethodValue, EnumValue, ArrayValue}
use Rattle.dexspec.specs.Values.{AnnotationValue, NullValue, BooleanValue, Values, NoValues, ThenValue, Elements}
use Rattle.dexspec.specs.Values.{NoElements, ThenElement}
use Rattle.dexspec.specs.Annotations.{Annotation, AnnotationSet, Directory}
use Rattle.dexspec.specs.Mentions.{Mentions}
use Rattle.dexpool.specs.declared.symbols.SymbolKind.{SymbolKind}
use Rattle.dexpool.specs.declared.symbols.SymbolKind.TheVariants as kinds
pub use Rattle.dexpool.specs.NumberedSymbols.{text_at, type_at}
use Rattle.dexpool.specs.Pools.{count_of}

-- ---- values, annotations, sets

-- A value that names no symbol and holds no other value. Floats are their bit patterns.
pub data Literal : Type 0 where
  ByteLiteral : (number : ℤ) → Literal
  ShortLiteral : (number : ℤ) → Literal
  CharLiteral : (unit : ℕ) → Literal
  IntLiteral : (number : ℤ) → Literal
  LongLiteral : (number : ℤ) → Literal
  FloatLiteral : (bits : ℕ) → Literal
  DoubleLiteral : (bits : ℕ) → Literal
  NullLiteral : Literal
  BooleanLiteral : (is : Bool) → Literal

-- The kinds of value that name a symbol.
pub data Reference : Type 0 where
  StringReference : Reference
  TypeReference : Reference
  FieldReference : Reference
  MethodReference : Reference
  EnumReference : Reference

-- A value with numbers instead of symbols: one that names no symbol, one that names a symbol, an array, or an
-- annotation of a type.
mutual
  pub data NumberedValue : Type 0 where
    Plain : (literal : Literal) → NumberedValue
    Named : (reference : Reference) → (number : ℕ) → NumberedValue
    Array : (values : NumberedValues) → NumberedValue
    Annotated : (type : ℕ) → (elements : NumberedElements) → NumberedValue

  pub data NumberedValues : Type 0 where
    NoValue : NumberedValues
    ThenNext : (first : NumberedValue) → (rest : NumberedValues) → NumberedValues

  pub data NumberedElements : Type 0 where
    NoElement : NumberedElements
    ThenNamed : (name : ℕ) → (value : NumberedValue) → (rest : NumberedElements) → NumberedElements

-- An annotation: its visibility, the number of its type, and its elements.
pub record NumberedAnnotation : Type 0 where
  pub visibility : ℕ
  pub type : ℕ
  pub elements : NumberedElements

-- A set: its annotations by type.
abbrev pub NumberedSet : Type 0
NumberedSet = List NumberedAnnotation

-- The annotations of a class, and of its members by their numbers.
pub record NumberedDirectory : Type 0 where
  pub own : NumberedSet
  pub fields : List (ℕ × NumberedSet)
  pub methods : List (ℕ × NumberedSet)
  pub parameters : List (ℕ × List NumberedSet)

-- ---- lists

-- values in sequence
abbrev pub values_of_list : List NumberedValue → NumberedValues
values_of_list [] = NoValue
values_of_list (x ∷ xs) = ThenNext x (values_of_list xs)

-- elements in sequence, each a name and a value
abbrev pub elements_of_list : List (ℕ × NumberedValue) → NumberedElements
elements_of_list [] = NoElement
elements_of_list ((name, x) ∷ es) = ThenNamed name x (elements_of_list es)

-- the numbers of the names of elements
abbrev pub name_numbers : NumberedElements → List ℕ
name_numbers NoElement = []
name_numbers (ThenNamed name x es) = name ∷ name_numbers es

-- ---- what numbers denote

-- the field of a number
abbrev pub field_at : Mentions → ℕ → Field
field_at m i = slice_index_or m.fields i (record { class = []; name = []; type = [] })

-- the method of a number
abbrev pub method_at : Mentions → ℕ → Method
method_at m i =
    slice_index_or m.methods i (record { class = []; name = []; proto = record { return_type = []; parameters = [] } })

-- a value that names no symbol denotes itself
abbrev pub plain_value : Literal → Value
plain_value (ByteLiteral z) = ByteValue z
plain_value (ShortLiteral z) = ShortValue z
plain_value (CharLiteral u) = CharValue u
plain_value (IntLiteral z) = IntValue z
plain_value (LongLiteral z) = LongValue z
plain_value (FloatLiteral bits) = FloatValue bits
plain_value (DoubleLiteral bits) = DoubleValue bits
plain_value NullLiteral = NullValue
plain_value (BooleanLiteral is) = BooleanValue is

-- a value that names the symbol of a number
abbrev pub named_value : Mentions → Reference → ℕ → Value
named_value m StringReference i = StringValue (text_at m i)
named_value m TypeReference i = TypeValue (type_at m i)
named_value m FieldReference i = FieldValue (field_at m i)
named_value m MethodReference i = MethodValue (method_at m i)
named_value m EnumReference i = EnumValue (field_at m i)

abbrev mutual
  -- the value that the numbers denote
  pub value_in : Mentions → NumberedValue → Value
  value_in m (Plain literal) = plain_value literal
  value_in m (Named reference i) = named_value m reference i
  value_in m (Array xs) = ArrayValue (values_in m xs)
  value_in m (Annotated t es) = AnnotationValue (type_at m t) (elements_in m es)

  -- the values that the numbers denote
  pub values_in : Mentions → NumberedValues → Values
  values_in m NoValue = NoValues
  values_in m (ThenNext x xs) = ThenValue (value_in m x) (values_in m xs)

  -- the elements: each name and its value
  pub elements_in : Mentions → NumberedElements → Elements
  elements_in m NoElement = NoElements
  elements_in m (ThenNamed name x es) = ThenElement (text_at m name) (value_in m x) (elements_in m es)

-- the annotation that the numbers denote
abbrev pub annotation_in : Mentions → NumberedAnnotation → Annotation
annotation_in m a = record { visibility = a.visibility; type = type_at m a.type; elements = elements_in m a.elements }

-- the set that the numbers denote
abbrev pub set_in : Mentions → NumberedSet → AnnotationSet
set_in m s = map (annotation_in m) s

-- the directory that the numbers denote
abbrev pub directory_in : Mentions → NumberedDirectory → Directory
directory_in m d = record {
  own = set_in m d.own;
  fields = map (λ e. (field_at m e.0, set_in m e.1)) d.fields;
  methods = map (λ e. (method_at m e.0, set_in m e.1)) d.methods;
  parameters = map (λ e. (method_at m e.0, map (set_in m) e.1)) d.parameters;
}

-- ---- numbers that are those of symbols

-- the kind of symbol that such a value names
abbrev pub kind_of_reference : Reference → SymbolKind
kind_of_reference StringReference = kinds.Text
kind_of_reference TypeReference = kinds.Typ
kind_of_reference FieldReference = kinds.Field
kind_of_reference MethodReference = kinds.Method
kind_of_reference EnumReference = kinds.Field

abbrev mutual
  -- each number of the value is that of a symbol
  pub IsKnown : Mentions → NumberedValue → Type 0
  IsKnown m (Plain literal) = Unit {0}
  IsKnown m (Named reference i) = i < count_of (kind_of_reference reference) m
  IsKnown m (Array xs) = AreKnown m xs
  IsKnown m (Annotated t es) = (t < length m.types) × HaveKnown m es

  -- each number of these values
  pub AreKnown : Mentions → NumberedValues → Type 0
  AreKnown m NoValue = Unit {0}
  AreKnown m (ThenNext x xs) = IsKnown m x × AreKnown m xs

  -- each number of these elements
  pub HaveKnown : Mentions → NumberedElements → Type 0
  HaveKnown m NoElement = Unit {0}
  HaveKnown m (ThenNamed name x es) = (name < length m.texts) × IsKnown m x × HaveKnown m es

-- each number of the annotation
pub record IsKnownAnnotation (m : Mentions) (a : NumberedAnnotation) : Type 0 where
  pub type_in : a.type < length m.types
  pub elements_known : HaveKnown m a.elements

-- each number of the set
abbrev pub IsKnownSet : Mentions → NumberedSet → Type 0
IsKnownSet m s = All (IsKnownAnnotation m) s

-- each number of the directory
pub record IsKnownDirectory (m : Mentions) (d : NumberedDirectory) : Type 0 where
  pub own_known : IsKnownSet m d.own
  pub fields_known : All (λ e. (e.0 < length m.fields) × IsKnownSet m e.1) d.fields
  pub methods_known : All (λ e. (e.0 < length m.methods) × IsKnownSet m e.1) d.methods
  pub parameters_known : All (λ e. (e.0 < length m.methods) × All (IsKnownSet m) e.1) d.parameters

-- ---- denoting

-- the numbers are those of symbols, and denote the value
pub record Denotes (m : Mentions) (x : NumberedValue) (v : Value) : Type 0 where
  pub known : IsKnown m x
  pub means : value_in m x ≡ v

-- and denote the values
pub record Denote (m : Mentions) (xs : NumberedValues) (vs : Values) : Type 0 where
  pub known : AreKnown m xs
  pub mean : values_in m xs ≡ vs

-- and denote the annotation
pub record DenotesAnnotation (m : Mentions) (x : NumberedAnnotation) (a : Annotation) : Type 0 where
  pub known : IsKnownAnnotation m x
  pub means : annotation_in m x ≡ a

-- and denote the set
pub record DenotesSet (m : Mentions) (x : NumberedSet) (s : AnnotationSet) : Type 0 where
  pub known : IsKnownSet m x
  pub means : set_in m x ≡ s

-- and denote the directory
pub record DenotesDirectory (m : Mentions) (x : NumberedDirectory) (d : Directory) : Type 0 where
  pub known : IsKnownDirectory m x
  pub means : directory_in m x ≡ d
