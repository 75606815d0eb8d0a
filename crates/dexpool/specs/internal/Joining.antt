-- Tables joined, one kind of symbol after the other.
use Rattle.std.specs.Prelude.{◌≡◌, ℕ, ◌<◌, List, [], ◌∷◌, map, length, drop, slice_index, slice_index_or, All, Some}
use Rattle.std.specs.Borrow.{Bor}
use Rattle.std.specs.Global.{Vec}
use Rattle.std.specs.List.{AllZip, flat_map}
use Rattle.std.specs.declared.cmp.Ordering.{Ordering}
use Rattle.dexspec.specs.Lists.{in_order}
use Rattle.dexspec.specs.Texts.{Text, text_cmp}
use Rattle.dexspec.specs.Names.{shorty}
use Rattle.dexspec.specs.Symbols as symbols
use Rattle.dexspec.specs.Mentions.{Mentions}
use Rattle.dexrows.specs.Numbers.{ProtoNumbers}
use Rattle.dexrows.specs.Join.{IsJoin}
use Rattle.dexrows.specs.declared.joining.Joined.{Joined}
use Rattle.dexrows.specs.declared.fields.FieldRow.{FieldRow}
use Rattle.dexrows.specs.declared.methods.MethodRow.{MethodRow}
use Rattle.dexids.specs.declared.rows.ProtoEntry.{ProtoEntry}
use Rattle.dexpool.specs.declared.renumbering.Protos.{Protos}
use Rattle.dexpool.specs.declared.joined_tables.JoinedProtos.{JoinedProtos}
use Rattle.dexpool.specs.declared.joined_tables.JoinedImages.{JoinedImages}
use Rattle.dexids.specs.Tables.{text_of, type_of, span_of, proto_of, field_of, method_of}
use Rattle.dexpool.specs.Numberings.{IsAt, Maps}
use Rattle.dexpool.specs.internal.Renumbering.{IsEntryWithin, IsFieldWithin, IsMethodWithin, numbers_in}

-- the image of each number is that of the same member
pub record Moves {X : Type 0} (from to : List X) (image : List ℕ) : Type 0 where
  pub count : length image ≡ length from
  pub same : (i : ℕ) (d : X) → i < length from → IsAt to (slice_index image i) (slice_index_or from i d)

-- the members of all parts, each once and in order, and where those of each part are
pub record IsUnion {P X : Type 0} (of : P → List X) (R : X → X → Ordering) (parts : List P) (joined : List X)
    (images : List (List ℕ)) : Type 0 where
  pub all : joined ≡ in_order R (flat_map of parts)
  pub moves : AllZip (λ part image. Moves (of part) joined image) parts images

-- the rows denote these symbols, and their numbers are in range
pub record Denote {R X : Type 0} (symbol : R → X) (Within : R → Type 0) (xs : List X) (rows : List R) : Type 0 where
  pub same : map symbol rows ≡ xs
  pub within : All Within rows

-- the texts of all parts
abbrev pub AreJoinedTexts : List Mentions → List Text → List (List ℕ) → Type 0
AreJoinedTexts parts texts images = IsUnion (λ m. m.texts) text_cmp parts texts images

-- the types of all parts
pub record AreJoinedTypes (parts : List Mentions) (texts : List Text) (types : List ℕ) (images : List (List ℕ)) :
    Type 0 where
  pub union : IsUnion (λ m. m.types) text_cmp parts (map (text_of texts) types) images
  pub within : All (λ n. n < length texts) types

-- the entry's shorty is the text of its shorty
abbrev pub HasShorty : List Text → List ℕ → List ℕ → ProtoEntry → Type 0
HasShorty texts types parameters p =
    text_of texts p.shorty
    ≡ shorty (type_of texts types p.return_type) (map (type_of texts types) (span_of parameters p.parameters))

-- the proto of a row
abbrev pub proto_of_row : List Text → List ℕ → ProtoNumbers → symbols.Proto
proto_of_row texts types row =
    record { return_type = type_of texts types row.return_type; parameters = map (type_of texts types) row.parameters }

-- the numbers that the row of a proto is ordered by
abbrev pub proto_key : ProtoNumbers → List ℕ
proto_key row = row.return_type ∷ row.parameters

-- the row's numbers are in range, and its shorty is the text of its shorty
pub record IsRowOf (texts : List Text) (types : List ℕ) (row : ProtoNumbers) : Type 0 where
  pub shorty_in : row.shorty < length texts
  pub return_in : row.return_type < length types
  pub parameters_in : All (λ n. n < length types) row.parameters
  pub shorty_is : text_of texts row.shorty
      ≡ shorty (type_of texts types row.return_type) (map (type_of texts types) row.parameters)

-- the protos of all parts
pub record AreJoinedProtos (parts : List Mentions) (texts : List Text) (types parameters : List ℕ)
    (protos : List ProtoEntry) (images : List (List ℕ)) : Type 0 where
  pub union : IsUnion (λ m. m.protos) symbols.proto_cmp parts (map (proto_of texts types parameters) protos) images
  pub within : All (IsEntryWithin (length texts) (length types) parameters) protos
  pub shorties : All (HasShorty texts types parameters) protos

-- the fields of all parts
pub record AreJoinedFields (parts : List Mentions) (texts : List Text) (types : List ℕ) (fields : List FieldRow)
    (images : List (List ℕ)) : Type 0 where
  pub union : IsUnion (λ m. m.fields) symbols.field_cmp parts (map (field_of texts types) fields) images
  pub within : All (IsFieldWithin (length texts) (length types)) fields

-- the methods of all parts
pub record AreJoinedMethods (parts : List Mentions) (texts : List Text) (types parameters : List ℕ)
    (protos : List ProtoEntry) (methods : List MethodRow) (images : List (List ℕ)) : Type 0 where
  pub union : IsUnion (λ m. m.methods) symbols.method_cmp parts (map (method_of texts types parameters protos) methods)
      images
  pub within : All (IsMethodWithin (length texts) (length types) (length protos)) methods

-- the maps have the images of each part
pub record AreMapsOf (strings types protos fields methods : List (List ℕ)) (maps : List Maps) : Type 0 where
  pub texts_are : map (λ m. m.texts) maps ≡ map (map Some) strings
  pub types_are : map (λ m. m.types) maps ≡ map (map Some) types
  pub protos_are : map (λ m. m.protos) maps ≡ map (map Some) protos
  pub fields_are : map (λ m. m.fields) maps ≡ map (map Some) fields
  pub methods_are : map (λ m. m.methods) maps ≡ map (map Some) methods

-- ---- the tables of all parts

-- the numberings that are joined
abbrev pub numberings_of : List (Bor Mentions) → List Mentions
numberings_of parts = map (λ part. part.now) parts

-- the lists that vectors have
abbrev pub lists_in : {X : Type 0} → List (Vec X) → List (List X)
lists_in vectors = map (λ v. v.items) vectors

-- the joined rows are those of the parts
abbrev pub JoinsRows : {R : Type 0} → (R → List ℕ) → List (Vec R) → Joined R → Type 0
JoinsRows key parts joined = IsJoin key (lists_in parts) joined.rows.items (lists_in joined.images.items)

-- the texts of all parts
abbrev pub AreTextsOf : List (Bor Mentions) → Joined Text → Type 0
AreTextsOf parts texts = AreJoinedTexts (numberings_of parts) texts.rows.items (lists_in texts.images.items)

-- the types of all parts, by these texts
abbrev pub AreTypesOf : List (Bor Mentions) → Joined Text → Joined ℕ → Type 0
AreTypesOf parts texts types =
    AreJoinedTypes (numberings_of parts) texts.rows.items types.rows.items (lists_in types.images.items)

-- the protos of all parts, by these texts and types
abbrev pub AreProtosOf : List (Bor Mentions) → Joined Text → Joined ℕ → JoinedProtos → Type 0
AreProtosOf parts texts types protos =
    AreJoinedProtos (numberings_of parts) texts.rows.items types.rows.items protos.table.parameters.items
    protos.table.rows.items (lists_in protos.images.items)

-- the fields of all parts, by these texts and types
abbrev pub AreFieldsOf : List (Bor Mentions) → Joined Text → Joined ℕ → Joined FieldRow → Type 0
AreFieldsOf parts texts types fields =
    AreJoinedFields (numberings_of parts) texts.rows.items types.rows.items fields.rows.items
    (lists_in fields.images.items)

-- the methods of all parts, by these texts, types and protos
abbrev pub AreMethodsOf : List (Bor Mentions) → Joined Text → Joined ℕ → JoinedProtos → Joined MethodRow → Type 0
AreMethodsOf parts texts types protos methods =
    AreJoinedMethods (numberings_of parts) texts.rows.items types.rows.items protos.table.parameters.items
    protos.table.rows.items methods.rows.items (lists_in methods.images.items)

-- each table has the protos of its part, by these texts and types
abbrev pub AreTablesOf : List (Bor Mentions) → Joined Text → Joined ℕ → List Protos → Type 0
AreTablesOf parts texts types tables =
    AllZip
    (λ part rows. Denote (proto_of_row texts.rows.items types.rows.items) (IsRowOf texts.rows.items types.rows.items)
    part.protos rows) (numberings_of parts) (map numbers_in tables)

-- these are the images of a part's members, by its place
abbrev pub MovesPart : {X : Type 0} → (Mentions → List X) → List (Bor Mentions) → List X → ℕ → List ℕ → Type 0
MovesPart of parts to i image =
    (part : Bor Mentions) → part ≡ slice_index_or parts i part → Moves (of part.now) to image

-- the images of a part's texts
abbrev pub MovesTextsOf : List (Bor Mentions) → Joined Text → ℕ → List ℕ → Type 0
MovesTextsOf parts texts = MovesPart (λ m. m.texts) parts texts.rows.items

-- the images of a part's types
abbrev pub MovesTypesOf : List (Bor Mentions) → Joined Text → Joined ℕ → ℕ → List ℕ → Type 0
MovesTypesOf parts texts types = MovesPart (λ m. m.types) parts (map (text_of texts.rows.items) types.rows.items)

-- ---- the maps of all parts

-- the images of the numbers of a part
abbrev pub image_at : ℕ → Vec (Vec ℕ) → List ℕ
image_at part images = slice_index_or (lists_in images.items) part []

-- the map by the images of a part, one for each number
abbrev pub total_maps : ℕ → JoinedImages → Maps
total_maps part images =
    record {
      texts = map Some (image_at part images.strings);
      types = map Some (image_at part images.types);
      protos = map Some (image_at part images.protos);
      fields = map Some (image_at part images.fields);
      methods = map Some (image_at part images.methods);
    }

-- there are images of as many parts of each kind
pub record HaveSameParts (images : JoinedImages) : Type 0 where
  pub types_count : length images.types.items ≡ length images.strings.items
  pub protos_count : length images.protos.items ≡ length images.strings.items
  pub fields_count : length images.fields.items ≡ length images.strings.items
  pub methods_count : length images.methods.items ≡ length images.strings.items

-- there are images of the part, of each kind
pub record HavePart (part : ℕ) (images : JoinedImages) : Type 0 where
  pub strings_in : part < length images.strings.items
  pub types_in : part < length images.types.items
  pub protos_in : part < length images.protos.items
  pub fields_in : part < length images.fields.items
  pub methods_in : part < length images.methods.items

-- from this part on the images are the same
pub record SameFrom (part : ℕ) (old new : JoinedImages) : Type 0 where
  pub strings_same : drop part new.strings.items ≡ drop part old.strings.items
  pub types_same : drop part new.types.items ≡ drop part old.types.items
  pub protos_same : drop part new.protos.items ≡ drop part old.protos.items
  pub fields_same : drop part new.fields.items ≡ drop part old.fields.items
  pub methods_same : drop part new.methods.items ≡ drop part old.methods.items

-- the maps have the images of each part
abbrev pub AreRemapsOf : JoinedImages → Vec Maps → Type 0
AreRemapsOf images maps =
    AreMapsOf (lists_in images.strings.items) (lists_in images.types.items) (lists_in images.protos.items)
    (lists_in images.fields.items) (lists_in images.methods.items) maps.items
