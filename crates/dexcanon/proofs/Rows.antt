-- Rows of symbols and of classes by their numbers, and parts that are written one after the other.
use Rattle.dexcanon.proofs.Common.{◌≡◌, ℕ, ◌<◌, List, [], ◌∷◌, ◌++◌, length, map, get_or, sym, ap, ◌∙◌, append-nil, flat_map, get_or-map, ushort, uint, Text, Mentions, text_index, type_index, proto_index, proto_row_bytes, field_row_bytes, method_row_bytes, zip_with, RanksAreNumbers, get_or-zip_with, ◌+◌, ◌^◌, Option, Some, None, refl, arith, All, IfSome, unwrap_or, option_to_list, length-map, no_index, uses_offsets, class_row_bytes, class_offsets, type_list_section, directory_section, class_data_section, array_section, length-zip_with, length-type_list_offsets, length-array_offsets, length-class_data_offsets, length-directory_offsets, length-class_offsets, class_at, NumberedClass, definition_of, text_at, type_at, IsKnownClass, ordered_of, drop, subst, concat, drop_more, end, section_bytes, string_data, string_section, class_row, no_offsets, rows_with}
use Rattle.dexspec.specs.Symbols.{Proto, Field, Method}
use Rattle.dexrows.specs.Numbers.{ProtoNumbers}
use Rattle.dexrows.specs.declared.fields.FieldRow.{FieldRow}
use Rattle.dexrows.specs.declared.methods.MethodRow.{MethodRow}
use Rattle.dexpool.specs.Numberings.{IsAt, DenotesProto, DenotesField, DenotesMethod}
use Rattle.std.specs.Option.{option_map, option_map_or}
use Rattle.std.proofs.lemmas.List.Elements.{All-head, All-tail}
use Rattle.dexpool.proofs.Parts.{all_prefix}
use Rattle.dexlayout.proofs.EncodedUses.{bytes_plain}

-- a type_id_item
abbrev pub type_row : Mentions → Text → List ℕ
type_row m t = uint (text_index m t)

-- the number of a text is its index
pub text_number : (m : Mentions) (n : ℕ) (s : Text) → RanksAreNumbers m → IsAt m.texts n s → text_index m s ≡ n
text_number m n s ranks at = ap (text_index m) (sym (at.is s)) ∙ ranks.texts_are n s at.within

-- the row of a type
pub type_row_at : (m : Mentions) (i n : ℕ) (d : Text) → RanksAreNumbers m → i < length m.types → IsAt m.texts n (get_or m.types i d) → get_or (map (type_row m) m.types) i [] ≡ uint n
type_row_at m i n d ranks lt at = get_or-map (type_row m) m.types i d [] lt ∙ ap uint (text_number m n (get_or m.types i d) ranks at)

-- the number of a type is its index
pub type_number : (m : Mentions) (n : ℕ) (t : Text) → RanksAreNumbers m → IsAt m.types n t → type_index m t ≡ n
type_number m n t ranks at = ap (type_index m) (sym (at.is t)) ∙ ranks.types_are n t at.within

-- the number of a proto is its index
pub proto_number : (m : Mentions) (n : ℕ) (p : Proto) → RanksAreNumbers m → IsAt m.protos n p → proto_index m p ≡ n
proto_number m n p ranks at = ap (proto_index m) (sym (at.is p)) ∙ ranks.protos_are n p at.within

-- the row of a proto
pub proto_row_at : (m : Mentions) (offs : List ℕ) (i a b : ℕ) (row : ProtoNumbers) (d : Proto) → RanksAreNumbers m → i < length m.protos → i < length offs → DenotesProto m row (get_or m.protos i d) → a ≡ row.shorty → b ≡ row.return_type
    → get_or (zip_with (proto_row_bytes m) m.protos offs) i [] ≡ flat_map uint (a ∷ b ∷ get_or offs i 0 ∷ [])
proto_row_at m offs i a b row d ranks lt less h ea eb =
    let R : ℕ → ℕ → List ℕ = λ x y. uint x ++ (uint y ++ uint (get_or offs i 0)) in
    get_or-zip_with (proto_row_bytes m) m.protos offs i d 0 [] lt less
    ∙ ap (λ n. R n (type_index m (get_or m.protos i d).return_type)) (text_number m row.shorty _ ranks h.shorty_is ∙ sym ea)
    ∙ ap (λ n. R a n) (type_number m row.return_type _ ranks h.return_is ∙ sym eb)
    ∙ ap (λ z. uint a ++ (uint b ++ z)) (sym (append-nil (uint (get_or offs i 0))))

-- the row of a field
pub field_row_at : (m : Mentions) (i : ℕ) (row : FieldRow) (d : Field) → RanksAreNumbers m → i < length m.fields → DenotesField m row (get_or m.fields i d) → get_or (map (field_row_bytes m) m.fields) i [] ≡ ushort row.class ++ (ushort row.typ ++ uint row.name)
field_row_at m i row d ranks lt h =
    let f = get_or m.fields i d in
    let R : ℕ → ℕ → ℕ → List ℕ = λ a b c. ushort a ++ (ushort b ++ uint c) in
    get_or-map (field_row_bytes m) m.fields i d [] lt
    ∙ ap (λ a. R a (type_index m f.type) (text_index m f.name)) (type_number m row.class _ ranks h.class_is)
    ∙ ap (λ b. R row.class b (text_index m f.name)) (type_number m row.typ _ ranks h.type_is)
    ∙ ap (λ c. R row.class row.typ c) (text_number m row.name _ ranks h.name_is)

-- the row of a method
pub method_row_at : (m : Mentions) (i : ℕ) (row : MethodRow) (d : Method) → RanksAreNumbers m → i < length m.methods → DenotesMethod m row (get_or m.methods i d) → get_or (map (method_row_bytes m) m.methods) i [] ≡ ushort row.class ++ (ushort row.proto ++ uint row.name)
method_row_at m i row d ranks lt h =
    let x = get_or m.methods i d in
    let R : ℕ → ℕ → ℕ → List ℕ = λ a b c. ushort a ++ (ushort b ++ uint c) in
    get_or-map (method_row_bytes m) m.methods i d [] lt
    ∙ ap (λ a. R a (proto_index m x.proto) (text_index m x.name)) (type_number m row.class _ ranks h.class_is)
    ∙ ap (λ b. R row.class b (text_index m x.name)) (proto_number m row.proto _ ranks h.proto_is)
    ∙ ap (λ c. R row.class row.proto c) (text_number m row.name _ ranks h.name_is)

-- for where there is none
abbrev pub no_proto : Proto
no_proto = record { return_type = []; parameters = [] }

abbrev pub no_field : Field
no_field = record { class = []; type = []; name = [] }

abbrev pub no_method : Method
no_method = record { class = []; proto = no_proto; name = [] }

-- ---- numbers

-- a number that is there, or that names nothing
index_of : {X : Type 0} (index : X → ℕ) (at : ℕ → X) (n : ℕ) (o : Option ℕ) → ((i : ℕ) → i < n → index (at i) ≡ i) → All (λ i. i < n) (option_to_list o) → option_map_or index (option_map at o) no_index ≡ unwrap_or o no_index
index_of index at n None law h = refl
index_of index at n (Some i) law h = law i (All-head (λ j. j < n) i [] h)

small_of : (n : ℕ) (o : Option ℕ) → n < 2 ^ 32 → All (λ i. i < n) (option_to_list o) → IfSome o (λ i. i < 2 ^ 32)
small_of n None lt h = tt
small_of n (Some i) lt h = let less = All-head (λ j. j < n) i [] h in omega (arith, less, lt)

module _ (m : Mentions) (c : NumberedClass) (h : IsKnownClass m c) where
  name_in : c.name < length m.types
  name_in = All-head (λ i. i < length m.types) c.name (option_to_list c.superclass ++ c.interfaces) h.types_in

  superclass_in : All (λ i. i < length m.types) (option_to_list c.superclass)
  superclass_in = all_prefix (λ i. i < length m.types) (option_to_list c.superclass) c.interfaces (All-tail (λ i. i < length m.types) c.name (option_to_list c.superclass ++ c.interfaces) h.types_in)

  pub name_small : length m.types < 2 ^ 32 → c.name < 2 ^ 32
  name_small lt = omega (arith, lt, name_in)

  pub superclass_small : length m.types < 2 ^ 32 → IfSome c.superclass (λ i. i < 2 ^ 32)
  superclass_small lt = small_of (length m.types) c.superclass lt superclass_in

  pub source_small : length m.texts < 2 ^ 32 → IfSome c.source (λ i. i < 2 ^ 32)
  source_small lt = small_of (length m.texts) c.source lt h.texts_in

  -- the row of the definition is that of the numbers
  pub row_is : RanksAreNumbers m → (offs : ℕ × ℕ × ℕ × ℕ) → class_row_bytes m (definition_of m c) offs ≡ class_row c offs
  row_is ranks offs =
      let R : ℕ → ℕ → ℕ → List ℕ = λ a b d. uint a ++ (uint c.flags ++ (uint b ++ (uint offs.0 ++ (uint d ++ (uint offs.1 ++ (uint offs.2 ++ uint offs.3)))))) in
      let texts : (i : ℕ) → i < length m.texts → text_index m (text_at m i) ≡ i = λ i lt. ranks.texts_are i [] lt in
      let types : (i : ℕ) → i < length m.types → type_index m (type_at m i) ≡ i = λ i lt. ranks.types_are i [] lt in
      ap (λ a. R a (option_map_or (type_index m) (option_map (type_at m) c.superclass) no_index) (option_map_or (text_index m) (option_map (text_at m) c.source) no_index)) (types c.name name_in)
      ∙ ap (λ b. R c.name b (option_map_or (text_index m) (option_map (text_at m) c.source) no_index)) (index_of (type_index m) (type_at m) (length m.types) c.superclass types superclass_in)
      ∙ ap (λ d. R c.name (unwrap_or c.superclass no_index) d) (index_of (text_index m) (text_at m) (length m.texts) c.source texts h.texts_in)

-- ---- rows

module _ (m : Mentions) (cs : List NumberedClass) where
  -- an offset of each kind for each class
  pub count_lists : length (uses_offsets (type_list_section (ordered_of m cs))) ≡ length m.protos + length cs
  count_lists = omega (arith, length-type_list_offsets (ordered_of m cs), length-map cs (definition_of m))

  pub count_directories : length (uses_offsets (directory_section (ordered_of m cs))) ≡ length cs
  count_directories = length-directory_offsets (ordered_of m cs) ∙ length-map cs (definition_of m)

  pub count_class_data : length (uses_offsets (class_data_section (ordered_of m cs))) ≡ length cs
  count_class_data = length-class_data_offsets (ordered_of m cs) ∙ length-map cs (definition_of m)

  pub count_static_values : length (uses_offsets (array_section (ordered_of m cs))) ≡ length cs
  count_static_values = length-array_offsets (ordered_of m cs) ∙ length-map cs (definition_of m)

  count_class_offsets : length (class_offsets (ordered_of m cs)) ≡ length cs
  count_class_offsets = length-class_offsets (ordered_of m cs) ∙ length-map cs (definition_of m)

  -- those of the r-th class
  pub class_offsets_at : (r : ℕ) → r < length cs → get_or (class_offsets (ordered_of m cs)) r no_offsets ≡ (
    get_or (uses_offsets (type_list_section (ordered_of m cs))) (length m.protos + r) 0,
    get_or (uses_offsets (directory_section (ordered_of m cs))) r 0,
    get_or (uses_offsets (class_data_section (ordered_of m cs))) r 0,
    get_or (uses_offsets (array_section (ordered_of m cs))) r 0,
  )
  class_offsets_at r lt = class_at (ordered_of m cs) r no_offsets (omega (arith, lt, length-map cs (definition_of m)))

  -- a row for each class
  pub count_class_rows : length (rows_with m cs (class_offsets (ordered_of m cs))) ≡ length cs
  count_class_rows = length-zip_with (class_row_bytes m) (map (definition_of m) cs) (class_offsets (ordered_of m cs)) (length cs) (length-map cs (definition_of m)) count_class_offsets

  -- the row of the r-th class
  pub class_row_at : (r : ℕ) (c : NumberedClass) → RanksAreNumbers m → IsKnownClass m c → r < length cs → c ≡ get_or cs r c → get_or (rows_with m cs (class_offsets (ordered_of m cs))) r [] ≡ class_row c (get_or (class_offsets (ordered_of m cs)) r no_offsets)
  class_row_at r c ranks h lt is =
      get_or-zip_with (class_row_bytes m) (map (definition_of m) cs) (class_offsets (ordered_of m cs)) r (definition_of m c) no_offsets [] (omega (arith, lt, length-map cs (definition_of m))) (omega (arith, lt, count_class_offsets))
      ∙ ap (λ z. class_row_bytes m z (get_or (class_offsets (ordered_of m cs)) r no_offsets)) (get_or-map (definition_of m) cs r c (definition_of m c) lt ∙ ap (definition_of m) (sym is))
      ∙ row_is m c h ranks (get_or (class_offsets (ordered_of m cs)) r no_offsets)

-- ---- items that need no alignment

-- the next of the rest
pub next_item : (xs : List (List ℕ)) (i : ℕ) → i < length xs → concat (drop i xs) ≡ get_or xs i [] ++ concat (drop (i + 1) xs)
next_item xs i lt = ap concat (drop_more xs i [] lt)

-- mapped items, one after the other
pub concat_map : {X : Type 0} (f : X → List ℕ) (xs : List X) → concat (map f xs) ≡ flat_map f xs
concat_map f [] = refl
concat_map f (x ∷ xs) = ap (λ z. f x ++ z) (concat_map f xs)

-- the data of the texts is their section
pub string_bytes : (m : Mentions) (cs : List NumberedClass) → concat (map string_data m.texts) ≡ section_bytes (string_section (ordered_of m cs))
unfolding string_section
string_bytes m cs = concat_map string_data m.texts ∙ sym (bytes_plain string_data (end (array_section (ordered_of m cs))) m.texts)

-- ---- parts that are written one after the other

-- a part, otherwise put, and what follows it
pub next_part : {O : Type 0} (gives : List ℕ → O → O → Type 0) (both : (x y : List ℕ) (a b c : O) → gives x a b → gives y b c → gives (x ++ y) a c) {x part rest : List ℕ} {a b c : O} → x ≡ part → gives x a b → gives rest b c → gives (part ++ rest) a c
next_part gives both {part = part} {rest = rest} {a = a} {b = b} {c = c} e h more = both part rest a b c (subst (λ z. gives z a b) e h) more
