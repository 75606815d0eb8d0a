-- The statements of the laws of written items.
use Rattle.std.specs.Prelude.{◌≡◌, ℕ, ◌+◌, ◌%◌, ◌^◌, ◌<◌, ◌≤◌, IsTrue, All, List, [], ◌++◌, length, map, take, drop}
use Rattle.std.specs.Prelude.{Option, Some, None, IfSome}
use Rattle.std.specs.List.{Contains, AllZip}
use Rattle.std.specs.Ordering.{nat_cmp}
use Rattle.dexspec.specs.Lists.{rises, zip_with, OrNone, SomeAt, Item}
use Rattle.dexspec.specs.Bytes.{uint, BytesAt}
use Rattle.dexspec.specs.Numbers.{Uleb128p1At, plus_one, uleb128, uleb128p1}
use Rattle.dexspec.specs.Texts.{Text, text_cmp}
use Rattle.dexspec.specs.Symbols.{Symbol, field_cmp, method_cmp}
use Rattle.dexspec.specs.Header.{data_off}
use Rattle.dexspec.specs.Rows.{FieldRow, MethodRow, SymbolRow}
use Rattle.dexspec.specs.Values.{Values, count_values, EncodedArrayAt}
use Rattle.dexspec.specs.Annotations.{PairAt, AnnotationSet, AnnotationAt, SetAt, RefListAt, Directory, DirectoryAt}
use Rattle.dexspec.specs.Annotations.{no_directory, annotated}
use Rattle.dexspec.specs.Debug.{DebugAt}
use Rattle.dexspec.specs.Pieces.{Cut}
use Rattle.dexspec.specs.Code.{Handler, HandlerAt, Code, CodeAt, handlers_weight, most_handlers}
use Rattle.dexspec.specs.Placing.{SetOffsets, pairs_bytes, directory_bytes}
use Rattle.dexspec.specs.ClassData.{EncodedField, EncodedMethod, ClassData, ClassDataAt}
use Rattle.dexspec.specs.Classes.{FieldDef, MethodDef, Body, Definition, declared_fields, declared_methods}
use Rattle.dexspec.specs.Mentions.{Mentions, mentions, field_of, method_of, symbols_of, values_symbols, handler_symbols}
use Rattle.dexspec.specs.Mentions.{code_symbols}
use Rattle.dexspec.specs.Spellings.{symbol_index, field_index, method_index, encoded_array_bytes, offsets_bytes}
use Rattle.dexspec.specs.Spellings.{handler_bytes, class_data_bytes, handler_off, code_bytes}
use Rattle.dexspec.specs.internal.IndexPlaces.{IndexFits}
use Rattle.dexspec.specs.internal.OwnDirectories.{HasSetsAt, own_directory}
use Rattle.dexspec.specs.WellFormed.{IsHandlerOf, IsCodeItem, IsWellFormed}
use Rattle.dexspec.specs.Merging.{Fits, greatest_caps}

-- the symbol is in the row of its index, and the index plus one fits 32 bits
abbrev pub IsInRow : List ℕ → Mentions → Symbol → Type 0
IsInRow b m s = SymbolRow b (symbol_index m s) s × (symbol_index m s + 1 < 2 ^ 32)

-- each symbol is in the row of its index
abbrev pub AreInRows : List ℕ → Mentions → List Symbol → Type 0
AreInRows b m ss = (s : Symbol) → Contains ss s → IsInRow b m s

-- the pairs name the entries, and their indices rise strictly and fit 32 bits
abbrev pub ArePairs : {M X : Type 0} → (List ℕ → ℕ → M → Type 0) → (List ℕ → ℕ → X → Type 0) → List ℕ → List (ℕ × ℕ)
    → List (M × X) → Type 0
ArePairs Row At b ps entries =
    AllZip (PairAt Row At b) ps entries × IsTrue (rises nat_cmp (map (λ p. p.0) ps)) × All (λ p. p.0 < 2 ^ 32) ps

-- if the bytes are at the offset, so is the item, in their length
abbrev pub Encodes : {X : Type 0} → Item X → List ℕ → ℕ → X → List ℕ → Type 0
Encodes At b o x bytes = BytesAt b o bytes → At b o x (length bytes)

-- the bytes that are written for a number plus one, or for none, encode it
abbrev pub PlusOnesAreWritten : List ℕ → ℕ → Type 0
PlusOnesAreWritten b o = (v : Option ℕ) → plus_one v < 2 ^ 32 → Encodes Uleb128p1At b o v (uleb128p1 v)

-- the bytes of a well-formed item whose symbols are in their rows encode it
abbrev pub AreWritten : {X : Type 0} → Item X → (X → Type 0) → (X → List Symbol) → (Mentions → X → List ℕ) → Type 0
AreWritten {X} At Is symbols bytes = (b : List ℕ) (m : Mentions) (o : ℕ) (x : X) → Is x → AreInRows b m (symbols x)
    → Encodes At b o x (bytes m x)

-- the same for an item in the data
abbrev pub AreWrittenInData : {X : Type 0} → (List ℕ → ℕ → X → Type 0) → (X → Type 0) → (X → List Symbol)
    → (Mentions → X → List ℕ) → Type 0
AreWrittenInData {X} At Is symbols bytes =
    (b : List ℕ) (m : Mentions) (o : ℕ) (x : X) → Is x → AreInRows b m (symbols x)
    → data_off b ≤ o → BytesAt b o (bytes m x) → At b o x

-- the bytes of an array of fewer than 2 ^ 32 values encode it
abbrev pub ArrayIsWritten : List ℕ → Mentions → ℕ → Values → Type 0
ArrayIsWritten b m o vs = count_values vs < 2 ^ 32 → AreInRows b m (values_symbols vs)
    → Encodes EncodedArrayAt b o vs (encoded_array_bytes m vs)

-- if the offset is in the data, at a multiple of four, the fact holds
abbrev pub OnAligned : List ℕ → ℕ → Type 0 → Type 0
OnAligned b o fact = length b < 2 ^ 32 → data_off b ≤ o → o % 4 ≡ 0 → fact

-- the offsets of the annotations of a set, after their count, encode the set
abbrev pub SetsAreWritten : List ℕ → ℕ → Type 0
SetsAreWritten b o = (offs : List ℕ) (set : AnnotationSet) → OnAligned b o (AllZip (AnnotationAt b) offs set
    → IsTrue (rises text_cmp (map (λ a. a.type) set)) → BytesAt b o (offsets_bytes offs) → SetAt b o set)

-- the offsets of sets, or 0 for an empty one, encode a ref list
abbrev pub RefListsAreWritten : List ℕ → ℕ → Type 0
RefListsAreWritten b o =
    (offs : List ℕ) (list : List AnnotationSet) → OnAligned b o (AllZip (OrNone SetAt [] b) offs list
    → BytesAt b o (offsets_bytes offs) → RefListAt b o list)

-- the bytes of a directory with these offsets
abbrev pub directory_of : ℕ → List (ℕ × ℕ) → List (ℕ × ℕ) → List (ℕ × ℕ) → List ℕ
directory_of own fields methods parameters =
    uint own
    ++ (uint (length fields)
    ++ (uint (length methods)
    ++ (uint (length parameters) ++ (pairs_bytes fields ++ (pairs_bytes methods ++ pairs_bytes parameters)))))

-- the counts and the pairs of a directory encode it
abbrev pub DirectoriesAreWritten : List ℕ → ℕ → ℕ → Type 0
DirectoriesAreWritten b o own = (fs ms ps : List (ℕ × ℕ)) (d : Directory) → OnAligned b o (OrNone SetAt [] b own d.own
    → ArePairs FieldRow SetAt b fs d.fields → ArePairs MethodRow SetAt b ms d.methods
    → ArePairs MethodRow RefListAt b ps d.parameters → BytesAt b o (directory_of own fs ms ps) → DirectoryAt b o d)

-- the bytes of a handler whose addresses fit 32 bits encode it
abbrev pub HandlersAreWritten : List ℕ → List Cut → Type 0
HandlersAreWritten units cuts = (b : List ℕ) (m : Mentions) (o : ℕ) (h : Handler) → IsHandlerOf units cuts h
    → length h.catches < 2 ^ 31 → All (λ c. c.address < 2 ^ 32) h.catches → IfSome h.catch_all (λ p. p < 2 ^ 32)
    → AreInRows b m (handler_symbols h) → Encodes (HandlerAt units cuts) b o h (handler_bytes m h)

-- the bytes of a code item encode it, if its debug program is at the offset and each index fits its field
abbrev pub CodeIsWritten : List ℕ → Mentions → ℕ → ℕ → Type 0
CodeIsWritten b m o debug_off = (c : Code) → length b < 2 ^ 32 → length m.types ≤ 65536 → IsCodeItem c
    → AreInRows b m (code_symbols c) → All (IndexFits m) c.pieces → data_off b ≤ o → o % 4 ≡ 0
    → OrNone (SomeAt DebugAt) None b debug_off c.debug → BytesAt b o (code_bytes m debug_off c) → CodeAt b o c

-- a declared field as class data has it
abbrev pub encoded_field : Text → FieldDef → EncodedField
encoded_field name f = record { field = field_of name f; flags = f.flags }

-- a declared method, with the offset of its code
abbrev pub encoded_method : Text → MethodDef → ℕ → EncodedMethod
encoded_method name x code_off = record { method = method_of name x; flags = x.flags; code_off = code_off }

-- a class's members as class data has them, with the offsets of the code of its methods
abbrev pub class_data_of : Text → Body → List ℕ → ClassData
class_data_of name c code_offs = record {
  static_fields = map (encoded_field name) c.static_fields;
  instance_fields = map (encoded_field name) c.instance_fields;
  direct_methods = zip_with (encoded_method name) c.direct_methods (take (length c.direct_methods) code_offs);
  virtual_methods = zip_with (encoded_method name) c.virtual_methods (drop (length c.direct_methods) code_offs);
}

-- the indices of each of the four lists rise strictly
abbrev pub IndicesRise : Mentions → Text → Body → Type 0
IndicesRise m name c =
    IsTrue (rises nat_cmp (map (λ f. field_index m (field_of name f)) c.static_fields))
    × IsTrue (rises nat_cmp (map (λ f. field_index m (field_of name f)) c.instance_fields))
    × IsTrue (rises nat_cmp (map (λ x. method_index m (method_of name x)) c.direct_methods))
    × IsTrue (rises nat_cmp (map (λ x. method_index m (method_of name x)) c.virtual_methods))

-- the bytes of class data encode the members of the class, with the offsets of their code
abbrev pub ClassDataIsWritten : List ℕ → Mentions → ℕ → Type 0
ClassDataIsWritten b m o = (name : Text) (c : Body) (code_offs : List ℕ) → IsWellFormed (name, c) → IndicesRise m name c
    → AreInRows b m (symbols_of (name, c)) → length code_offs ≡ length (declared_methods c)
    → All (λ p. p < 2 ^ 32) code_offs
    → data_off b ≤ o → BytesAt b o (class_data_bytes m (name, c) code_offs)
    → ClassDataAt b o (class_data_of name c code_offs)

-- if the class is a well-formed member of the definitions, the fact holds
abbrev pub OnMember : List Definition → Text → Body → Type 0 → Type 0
OnMember D name c fact = Contains D (name, c) → IsWellFormed (name, c) → fact

-- the indices of the members of a well-formed class of the definitions rise
abbrev pub MemberIndicesRise : List Definition → Text → Body → Type 0
MemberIndicesRise D name c = OnMember D name c (IndicesRise (mentions D) name c)

-- if also its symbols are in their rows, and its sets and ref lists at these offsets, the fact holds
abbrev pub OnSets : List Definition → List ℕ → Text → Body → SetOffsets → List ℕ → Type 0 → Type 0
OnSets D b name c sets ref_lists fact = length b < 2 ^ 32
    → OnMember D name c (AreInRows b (mentions D) (symbols_of (name, c)) → HasSetsAt b name c sets ref_lists → fact)

-- the bytes of a class's directory encode it
abbrev pub OwnDirectoryIsWritten : List Definition → List ℕ → ℕ → Type 0
OwnDirectoryIsWritten D b o = (name : Text) (c : Body) (sets : SetOffsets) (ref_lists bytes : List ℕ)
    → OnSets D b name c sets ref_lists
    (directory_bytes (mentions D) (name, c) sets ref_lists ≡ Some bytes → data_off b ≤ o
    → o % 4 ≡ 0 → BytesAt b o bytes → DirectoryAt b o (own_directory name c))

-- if a class's directory has no bytes, it is empty
abbrev pub OwnDirectoryIsEmpty : List Definition → List ℕ → Type 0
OwnDirectoryIsEmpty D b = (name : Text) (c : Body) (sets : SetOffsets) (ref_lists : List ℕ)
    → OnSets D b name c sets ref_lists (directory_bytes (mentions D) (name, c) sets ref_lists ≡ None
    → own_directory name c ≡ no_directory)

-- a class's directory has the annotations of each of its fields
abbrev pub HasFieldAnnotations : Text → Body → Type 0
HasFieldAnnotations name c = (f : FieldDef) → IsWellFormed (name, c) → Contains (declared_fields c) f
    → annotated field_cmp (own_directory name c).fields (field_of name f) ≡ f.annotations

-- the annotations of each of its methods
abbrev pub HasMethodAnnotations : Text → Body → Type 0
HasMethodAnnotations name c = (x : MethodDef) → IsWellFormed (name, c) → Contains (declared_methods c) x
    → annotated method_cmp (own_directory name c).methods (method_of name x) ≡ x.annotations

-- the annotations of the parameters of each of its methods
abbrev pub HasParameterAnnotations : Text → Body → Type 0
HasParameterAnnotations name c = (x : MethodDef) → IsWellFormed (name, c) → Contains (declared_methods c) x
    → annotated method_cmp (own_directory name c).parameters (method_of name x) ≡ x.parameter_annotations

-- in definitions that fit the greatest caps, each index of a definition's code fits its field
abbrev pub IndicesFit : List Definition → Definition → Type 0
IndicesFit D d = (x : MethodDef) (k : Code) → Fits greatest_caps D → Contains D d → Contains (declared_methods d.1) x
    → x.code ≡ Some k → IsCodeItem k → All (IndexFits (mentions D)) k.pieces

-- with few types and light handlers, the offset of each handler fits 16 bits
abbrev pub HandlerOffsetsFit : Mentions → List Handler → Type 0
HandlerOffsetsFit m hs = (h : Handler) → length m.types ≤ 65536 → handlers_weight hs ≤ most_handlers
    → handler_off m (length (uleb128 (length hs))) hs h < 2 ^ 16
