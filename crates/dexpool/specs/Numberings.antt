-- Numberings: five sets of symbols, each symbol numbered by its place in its order; and maps from the numbers of one
-- to those of another.
use Rattle.std.specs.Prelude.{◌≡◌, ℕ, ◌<◌, ◌++◌, true, List, length, map, All, slice_index_or, Option, Some, None}
use Rattle.std.specs.Borrow.{Bor}
use Rattle.std.specs.List.{AllZip, Contains, flat_map}
use Rattle.dexspec.specs.Lists.{rises, in_order}
use Rattle.dexspec.specs.Texts.{text_cmp}
use Rattle.dexspec.specs.Names.{IsDescriptor, shorty}
use Rattle.dexspec.specs.Symbols.{Proto, Field, Method, Symbol, TextSymbol, TypeSymbol, ProtoSymbol, FieldSymbol}
use Rattle.dexspec.specs.Symbols.{MethodSymbol, IsProto, IsField, IsMethod, proto_cmp, field_cmp, method_cmp}
use Rattle.dexspec.specs.Mentions.{Mentions, proto_types}
use Rattle.dexrows.specs.Numbers.{ProtoNumbers}
use Rattle.dexpool.specs.Cut.{kept}
use Rattle.dexrows.specs.declared.fields.FieldRow.{FieldRow}
use Rattle.dexrows.specs.declared.methods.MethodRow.{MethodRow}
use Rattle.dexpool.specs.declared.symbols.SymbolKind.{SymbolKind}
use Rattle.dexpool.specs.declared.symbols.SymbolKind.TheVariants as kinds
use Rattle.dexpool.specs.declared.marks.Marks.{Marks}

-- ---- numbers of symbols

-- number i of the list is x
pub record IsAt {X : Type 0} (xs : List X) (i : ℕ) (x : X) : Type 0 where
  pub within : i < length xs
  pub is : (d : X) → slice_index_or xs i d ≡ x

-- the symbol has this number among those of its kind
abbrev pub IsNumbered : Mentions → ℕ → Symbol → Type 0
IsNumbered m i (TextSymbol s) = IsAt m.texts i s
IsNumbered m i (TypeSymbol t) = IsAt m.types i t
IsNumbered m i (ProtoSymbol p) = IsAt m.protos i p
IsNumbered m i (FieldSymbol f) = IsAt m.fields i f
IsNumbered m i (MethodSymbol x) = IsAt m.methods i x

-- the symbol is one of the pool that a kind names
abbrev pub IsOfKind : SymbolKind → Symbol → Type 0
IsOfKind kinds.Text (TextSymbol s) = Unit {0}
IsOfKind kinds.Typ (TypeSymbol t) = Unit {0}
IsOfKind kinds.Proto (ProtoSymbol p) = Unit {0}
IsOfKind kinds.Field (FieldSymbol f) = Unit {0}
IsOfKind kinds.Method (MethodSymbol x) = Unit {0}
IsOfKind _ _ = ⊥

-- ---- rows of numbers

-- the row's numbers are those of the proto's shorty and types
pub record DenotesProto (m : Mentions) (row : ProtoNumbers) (p : Proto) : Type 0 where
  pub shorty_is : IsAt m.texts row.shorty (shorty p.return_type p.parameters)
  pub return_is : IsAt m.types row.return_type p.return_type
  pub parameters_are : AllZip (IsAt m.types) row.parameters p.parameters

-- the row's numbers are those of the field's class, name and type
pub record DenotesField (m : Mentions) (row : FieldRow) (f : Field) : Type 0 where
  pub class_is : IsAt m.types row.class f.class
  pub name_is : IsAt m.texts row.name f.name
  pub type_is : IsAt m.types row.typ f.type

-- the row's numbers are those of the method's class, name and proto
pub record DenotesMethod (m : Mentions) (row : MethodRow) (x : Method) : Type 0 where
  pub class_is : IsAt m.types row.class x.class
  pub name_is : IsAt m.texts row.name x.name
  pub proto_is : IsAt m.protos row.proto x.proto

-- ---- what a numbering is

-- each member of the first is one of the second
abbrev pub AreIn : {X : Type 0} → List X → List X → Type 0
AreIn {X} xs ys = (x : X) → Contains xs x → Contains ys x

-- the proto's shorty and types are among the texts and types
pub record HasProtoParts (m : Mentions) (p : Proto) : Type 0 where
  pub shorty_in : Contains m.texts (shorty p.return_type p.parameters)
  pub types_in : AreIn (proto_types p) m.types

-- the field's class, name and type are among the types and texts
pub record HasFieldParts (m : Mentions) (f : Field) : Type 0 where
  pub class_in : Contains m.types f.class
  pub name_in : Contains m.texts f.name
  pub type_in : Contains m.types f.type

-- the method's class, name and proto are among the types, texts and protos
pub record HasMethodParts (m : Mentions) (x : Method) : Type 0 where
  pub class_in : Contains m.types x.class
  pub name_in : Contains m.texts x.name
  pub proto_in : Contains m.protos x.proto

-- the five lists rise strictly
pub record AreRising (m : Mentions) : Type 0 where
  pub texts_rise : rises text_cmp m.texts ≡ true
  pub types_rise : rises text_cmp m.types ≡ true
  pub protos_rise : rises proto_cmp m.protos ≡ true
  pub fields_rise : rises field_cmp m.fields ≡ true
  pub methods_rise : rises method_cmp m.methods ≡ true

-- The five sets rise strictly, their symbols are well formed, and what a symbol names is there too.
pub record IsNumbering (m : Mentions) : Type 0 where
  pub rising : AreRising m
  pub types_formed : All IsDescriptor m.types
  pub protos_formed : All IsProto m.protos
  pub fields_formed : All IsField m.fields
  pub methods_formed : All IsMethod m.methods
  pub types_named : AreIn m.types m.texts
  pub protos_named : All (HasProtoParts m) m.protos
  pub fields_named : All (HasFieldParts m) m.fields
  pub methods_named : All (HasMethodParts m) m.methods

-- ---- maps of numbers

-- For each number of five lists its image, if it has one.
pub record Maps : Type 0 where
  pub texts : List (Option ℕ)
  pub types : List (Option ℕ)
  pub protos : List (Option ℕ)
  pub fields : List (Option ℕ)
  pub methods : List (Option ℕ)

-- the image of a number, if it has one
abbrev pub image : List (Option ℕ) → ℕ → Option ℕ
image images i = slice_index_or images i None

-- the image of a number of a kind
abbrev pub image_of : Maps → SymbolKind → ℕ → Option ℕ
image_of r kinds.Text i = image r.texts i
image_of r kinds.Typ i = image r.types i
image_of r kinds.Proto i = image r.protos i
image_of r kinds.Field i = image r.fields i
image_of r kinds.Method i = image r.methods i

-- The image of each number is that of the same member, if the other list has it. Images keep the order of numbers.
pub record MapsTo {X : Type 0} (from to : List X) (images : List (Option ℕ)) : Type 0 where
  pub count : length images ≡ length from
  pub same : (i j : ℕ) (d : X) → image images i ≡ Some j → IsAt to j (slice_index_or from i d)
  pub none : (i : ℕ) (d : X) → i < length from → image images i ≡ None → Contains to (slice_index_or from i d) → ⊥
  pub rising : (h i j k : ℕ) → h < i → image images h ≡ Some j → image images i ≡ Some k → j < k

-- the five maps map one numbering to the other
pub record AllMapTo (from to : Mentions) (r : Maps) : Type 0 where
  pub texts_mapped : MapsTo from.texts to.texts r.texts
  pub types_mapped : MapsTo from.types to.types r.types
  pub protos_mapped : MapsTo from.protos to.protos r.protos
  pub fields_mapped : MapsTo from.fields to.fields r.fields
  pub methods_mapped : MapsTo from.methods to.methods r.methods

-- ---- joining

-- the symbols of all of them, each once and in order
abbrev pub union_of : List Mentions → Mentions
union_of ms = record {
  texts = in_order text_cmp (flat_map (λ m. m.texts) ms);
  types = in_order text_cmp (flat_map (λ m. m.types) ms);
  protos = in_order proto_cmp (flat_map (λ m. m.protos) ms);
  fields = in_order field_cmp (flat_map (λ m. m.fields) ms);
  methods = in_order method_cmp (flat_map (λ m. m.methods) ms);
}

-- each map maps its part to the whole
abbrev pub PartsMapTo : List (Bor Mentions) → Mentions → List Maps → Type 0
PartsMapTo parts whole maps = AllZip (λ part r. AllMapTo part whole r) (map (λ part. part.now) parts) maps

-- ---- keeping

-- there is a mark for each symbol
pub record AreMarksOf (m : Mentions) (marks : Marks) : Type 0 where
  pub strings_count : length marks.strings.items ≡ length m.texts
  pub types_count : length marks.types.items ≡ length m.types
  pub protos_count : length marks.protos.items ≡ length m.protos
  pub fields_count : length marks.fields.items ≡ length m.fields
  pub methods_count : length marks.methods.items ≡ length m.methods

-- the symbols that are marked
abbrev pub marked : Mentions → Marks → List Symbol
marked m marks = map TextSymbol (kept marks.strings.items m.texts)
    ++ (map TypeSymbol (kept marks.types.items m.types)
    ++ (map ProtoSymbol (kept marks.protos.items m.protos)
    ++ (map FieldSymbol (kept marks.fields.items m.fields)
    ++ map MethodSymbol (kept marks.methods.items m.methods))))
