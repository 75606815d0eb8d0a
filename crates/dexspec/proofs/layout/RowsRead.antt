-- The rows of a file with this layout, as they are read: indices, offsets, and the items at the offsets.
use Rattle.dexspec.proofs.Common.{◌≡◌, ℕ, ◌+◌, ◌*◌, ◌^◌, ◌<◌, ◌≤◌, List, [], ◌∷◌, ◌++◌, length, get_or, map, refl, sym, ap, subst, ◌∙◌, arith, slice_index, Option, Some, None, option_map_or, flat_map, is_lt, get_or-map, length-map, length-append, count_by-le-length}
use Rattle.dexspec.specs.{ushort, uint, ushort_at, uint_at, ushorts_at, BytesAt, Text, text_cmp, string_data, shorty, Proto, Field, Method, proto_cmp, Table, StringIds, TypeIds, ProtoIds, FieldIds, MethodIds, ClassDefs, IsInData, row_at, type_indices, Definition, class_idx, access_flags, superclass_idx, interfaces_off, source_file_idx, annotations_off, class_data_off, static_values_off, no_index, text_index, type_index, proto_index, encoded_array_bytes, class_data_bytes, type_list_bytes, unless_empty, values_unless_empty, offsets, Ordered, by_class, directory_bytes, uses_offsets, table_count, string_section, type_list_section, code_section, ref_list_section}
use Rattle.dexspec.proofs.written.PlacedBytes.{is_at, length_rows}
use Rattle.dexspec.proofs.numbers.ByteNumbers.{length-uint, length-ushort, ushort_at-encodes, uint_at-encodes}
use Rattle.dexspec.proofs.layout.Tables.{is_at_here, is_at_end, is_at_next}
use Rattle.dexspec.proofs.layout.SectionPlaces.{ItemIsAt, Laid, table_few, data_before_map, class_places}
use Rattle.dexspec.proofs.layout.HeaderLaws.{AreFew}
use Rattle.dexspec.proofs.layout.Uses.{UseIsAt, parameters_encoded, interfaces_encoded, static_values_encoded, class_data_encoded, directory_encoded, class_data_of, class_set_offsets}

-- ---- numbers in sequence

-- ushorts that were written are read
pub ushorts_at-encodes : {X : Type 0} {b : List ℕ} (f : X → ℕ) → ((x : X) → f x < 2 ^ 16) → (o : ℕ) (xs : List X) → BytesAt b o (flat_map (λ x. ushort (f x)) xs) → ushorts_at b o (length xs) ≡ map f xs
ushorts_at-encodes f small o [] h = refl
ushorts_at-encodes {b = b} f small o (x ∷ xs) h =
    let rest = flat_map (λ x. ushort (f x)) xs in
    let first : ushort_at b o ≡ f x = ushort_at-encodes (small x) (is_at_here (ushort (f x)) rest h) in
    let others : ushorts_at b (o + 2) (length xs) ≡ map f xs = ushorts_at-encodes f small (o + 2) xs (is_at_end (ushort (f x)) rest 2 (length-ushort (f x)) h) in
    ap (λ n. n ∷ ushorts_at b (o + 2) (length xs)) first ∙ ap (λ l. f x ∷ l) others

-- ---- bounds

-- an offset of a use fits four bytes
pub use_small : {X : Type 0} (b : List ℕ) (align : ℕ) (g : X → List ℕ) (u : Option X) (o : ℕ) → length b < 2 ^ 32 → UseIsAt b align g u o → o < 2 ^ 32
use_small b align g None o small h = omega (arith, h)
use_small b align g (Some x) o small h = omega (arith, h.in_data.within)

-- a proto's row, as it is read
pub record ProtoRead (K : Ordered) (b : List ℕ) (i : ℕ) (p : Proto) : Type 0 where
  pub shorty_is : uint_at b (row_at b ProtoIds i) ≡ text_index K.pools (shorty p.return_type p.parameters)
  pub return_is : uint_at b (row_at b ProtoIds i + 4) ≡ type_index K.pools p.return_type
  pub parameters_are : UseIsAt b 4 (type_list_bytes K.pools) (unless_empty p.parameters) (uint_at b (row_at b ProtoIds i + 8))

-- a field's row, as it is read
pub record FieldRead (K : Ordered) (b : List ℕ) (i : ℕ) (f : Field) : Type 0 where
  pub class_is : ushort_at b (row_at b FieldIds i) ≡ type_index K.pools f.class
  pub type_is : ushort_at b (row_at b FieldIds i + 2) ≡ type_index K.pools f.type
  pub name_is : uint_at b (row_at b FieldIds i + 4) ≡ text_index K.pools f.name

-- a method's row, as it is read
pub record MethodRead (K : Ordered) (b : List ℕ) (i : ℕ) (x : Method) : Type 0 where
  pub class_is : ushort_at b (row_at b MethodIds i) ≡ type_index K.pools x.class
  pub proto_is : ushort_at b (row_at b MethodIds i + 2) ≡ proto_index K.pools x.proto
  pub name_is : uint_at b (row_at b MethodIds i + 4) ≡ text_index K.pools x.name

-- a class's row, as it is read
pub record ClassRead (K : Ordered) (b : List ℕ) (r : ℕ) (d : Definition) : Type 0 where
  pub name_is : class_idx b r ≡ type_index K.pools d.0
  pub flags_are : d.1.flags < 2 ^ 32 → access_flags b r ≡ d.1.flags
  pub superclass_is : superclass_idx b r ≡ option_map_or (type_index K.pools) d.1.superclass no_index
  pub source_is : source_file_idx b r ≡ option_map_or (text_index K.pools) d.1.source no_index
  pub interfaces_are : UseIsAt b 4 (type_list_bytes K.pools) (unless_empty d.1.interfaces) (interfaces_off b r)
  pub directory_is : UseIsAt b 4 (λ (x : List ℕ). x) (directory_bytes K.pools d (class_set_offsets K r) (get_or (by_class K (uses_offsets (ref_list_section K))) r [])) (annotations_off b r)
  pub class_data_is : UseIsAt b 1 (λ (p : Definition × List ℕ). class_data_bytes K.pools p.0 p.1) (class_data_of d (get_or (by_class K (uses_offsets (code_section K))) r [])) (class_data_off b r)
  pub static_values_are : UseIsAt b 1 (encoded_array_bytes K.pools) (values_unless_empty d.1.static_values) (static_values_off b r)

module _ {K : Ordered} {b : List ℕ} (h : Laid K b) where
  -- a table has at most as many rows as the file has bytes
  rows_few : (t : Table) → table_count K t ≤ length b
  rows_few t = omega (arith, table_few K t, data_before_map K, h.size)

  -- an index of a text is at most the length of the file
  pub text_index_few : (s : Text) → text_index K.pools s ≤ length b
  text_index_few s = omega (arith, count_by-le-length (λ t. is_lt (text_cmp t s)) K.pools.texts, rows_few StringIds)

  -- an index of a type
  pub type_index_few : (t : Text) → type_index K.pools t ≤ length b
  type_index_few t = omega (arith, count_by-le-length (λ s. is_lt (text_cmp s t)) K.pools.types, rows_few TypeIds)

  -- an optional index fits four bytes
  optional_small : (f : Text → ℕ) → ((s : Text) → f s ≤ length b) → (s : Option Text) → option_map_or f s no_index < 2 ^ 32
  optional_small f few None = omega arith
  optional_small f few (Some s) = omega (arith, few s, h.small)

  -- ---- strings and types

  -- the offset in a string's row
  pub text_off : (i : ℕ) → i < length K.pools.texts → uint_at b (row_at b StringIds i) ≡ slice_index (offsets (string_section K)) i
  unfolding string_section
  text_off i lt =
      let item = h.strings i [] (omega (arith, lt, length-map K.pools.texts string_data)) in
      uint_at-encodes (omega (arith, item.in_data.within, h.small)) (h.string_row i lt)

  -- its string_data_item
  pub text_encoded : (i : ℕ) (d : Text) → i < length K.pools.texts → ItemIsAt b 1 (uint_at b (row_at b StringIds i)) (string_data (get_or K.pools.texts i d))
  unfolding string_section
  text_encoded i d lt =
      let item = h.strings i [] (omega (arith, lt, length-map K.pools.texts string_data)) in
      subst (λ o. ItemIsAt b 1 o (string_data (get_or K.pools.texts i d))) (sym (text_off i lt))
      (subst (λ x. ItemIsAt b 1 (slice_index (offsets (string_section K)) i) x) (get_or-map string_data K.pools.texts i d [] lt) item)

  -- the index in a type's row
  pub type_read : (i : ℕ) (d : Text) → i < length K.pools.types → uint_at b (row_at b TypeIds i) ≡ text_index K.pools (get_or K.pools.types i d)
  type_read i d lt = uint_at-encodes (omega (arith, text_index_few (get_or K.pools.types i d), h.small)) (h.type_row i d lt)

  -- ---- protos

  -- a proto's row, as it is read
  pub proto_read : (i : ℕ) (d : Proto) → i < length K.pools.protos → ProtoRead K b i (get_or K.pools.protos i d)
  proto_read i d lt =
      let p = get_or K.pools.protos i d in
      let o = row_at b ProtoIds i in
      let off = slice_index (uses_offsets (type_list_section K)) i in
      let n0 = text_index K.pools (shorty p.return_type p.parameters) in
      let n1 = type_index K.pools p.return_type in
      let s0 = h.proto_row i d lt in
      let s1 : BytesAt b (o + 4) (uint n1 ++ uint off) = is_at_next n0 (uint n1 ++ uint off) s0 in
      let s2 : BytesAt b (o + 8) (uint off) = is_at (omega arith) (is_at_next n1 (uint off) s1) in
      let list = parameters_encoded h i d lt in
      record {
        shorty_is = uint_at-encodes (omega (arith, text_index_few (shorty p.return_type p.parameters), h.small)) (is_at_here (uint n0) (uint n1 ++ uint off) s0);
        return_is = uint_at-encodes (omega (arith, type_index_few p.return_type, h.small)) (is_at_here (uint n1) (uint off) s1);
        parameters_are = subst (λ o. UseIsAt b 4 (type_list_bytes K.pools) (unless_empty p.parameters) o) (sym (uint_at-encodes (use_small b 4 (type_list_bytes K.pools) (unless_empty p.parameters) off h.small list) s2)) list;
      }

  -- ---- classes

  -- a class's row, as it is read
  pub class_read : (r : ℕ) (d : Definition) → r < length K.classes → ClassRead K b r (get_or K.classes r d)
  class_read r d lt =
      let c = get_or K.classes r d in
      let o = row_at b ClassDefs r in
      let offs = class_places K r in
      let n0 = type_index K.pools c.0 in
      let n1 = c.1.flags in
      let n2 = option_map_or (type_index K.pools) c.1.superclass no_index in
      let n4 = option_map_or (text_index K.pools) c.1.source no_index in
      let r7 = uint offs.3 in
      let r6 = uint offs.2 ++ r7 in
      let r5 = uint offs.1 ++ r6 in
      let r4 = uint n4 ++ r5 in
      let r3 = uint offs.0 ++ r4 in
      let r2 = uint n2 ++ r3 in
      let r1 = uint n1 ++ r2 in
      let s0 : BytesAt b o (uint n0 ++ r1) = h.class_row r d lt in
      let s1 : BytesAt b (o + 4) r1 = is_at_next n0 r1 s0 in
      let s2 : BytesAt b (o + 8) r2 = is_at (omega arith) (is_at_next n1 r2 s1) in
      let s3 : BytesAt b (o + 12) r3 = is_at (omega arith) (is_at_next n2 r3 s2) in
      let s4 : BytesAt b (o + 16) r4 = is_at (omega arith) (is_at_next offs.0 r4 s3) in
      let s5 : BytesAt b (o + 20) r5 = is_at (omega arith) (is_at_next n4 r5 s4) in
      let s6 : BytesAt b (o + 24) r6 = is_at (omega arith) (is_at_next offs.1 r6 s5) in
      let s7 : BytesAt b (o + 28) r7 = is_at (omega arith) (is_at_next offs.2 r7 s6) in
      let g1 = type_list_bytes K.pools in
      let u1 = unless_empty c.1.interfaces in
      let list = interfaces_encoded h r d lt in
      let g2 : List ℕ → List ℕ = λ x. x in
      let u2 = directory_bytes K.pools c (class_set_offsets K r) (get_or (by_class K (uses_offsets (ref_list_section K))) r []) in
      let directory = directory_encoded h r d lt in
      let g3 : Definition × List ℕ → List ℕ = λ p. class_data_bytes K.pools p.0 p.1 in
      let u3 = class_data_of c (get_or (by_class K (uses_offsets (code_section K))) r []) in
      let data_item = class_data_encoded h r d lt in
      let g4 = encoded_array_bytes K.pools in
      let u4 = values_unless_empty c.1.static_values in
      let values = static_values_encoded h r d lt in
      record {
        name_is = uint_at-encodes (omega (arith, type_index_few c.0, h.small)) (is_at_here (uint n0) r1 s0);
        flags_are = λ small. uint_at-encodes small (is_at_here (uint n1) r2 s1);
        superclass_is = uint_at-encodes (optional_small (type_index K.pools) type_index_few c.1.superclass) (is_at_here (uint n2) r3 s2);
        source_is = uint_at-encodes (optional_small (text_index K.pools) text_index_few c.1.source) (is_at_here (uint n4) r5 s4);
        interfaces_are = subst (λ o. UseIsAt b 4 g1 u1 o) (sym (uint_at-encodes (use_small b 4 g1 u1 offs.0 h.small list) (is_at_here (uint offs.0) r4 s3))) list;
        directory_is = subst (λ o. UseIsAt b 4 g2 u2 o) (sym (uint_at-encodes (use_small b 4 g2 u2 offs.1 h.small directory) (is_at_here (uint offs.1) r6 s5))) directory;
        class_data_is = subst (λ o. UseIsAt b 1 g3 u3 o) (sym (uint_at-encodes (use_small b 1 g3 u3 offs.2 h.small data_item) (is_at_here (uint offs.2) r7 s6))) data_item;
        static_values_are = subst (λ o. UseIsAt b 1 g4 u4 o) (sym (uint_at-encodes (use_small b 1 g4 u4 offs.3 h.small values) s7)) values;
      }

  -- ---- rows with indices of two bytes

  module _ (few : AreFew K) where
    -- an index of a type has two bytes
    pub type_index_small : (t : Text) → type_index K.pools t < 2 ^ 16
    type_index_small t = omega (arith, count_by-le-length (λ s. is_lt (text_cmp s t)) K.pools.types, few TypeIds)

    -- an index of a proto has two bytes
    pub proto_index_small : (p : Proto) → proto_index K.pools p < 2 ^ 16
    proto_index_small p = omega (arith, count_by-le-length (λ q. is_lt (proto_cmp q p)) K.pools.protos, few ProtoIds)

    -- a field's row, as it is read
    pub field_read : (i : ℕ) (d : Field) → i < length K.pools.fields → FieldRead K b i (get_or K.pools.fields i d)
    field_read i d lt =
        let f = get_or K.pools.fields i d in
        let o = row_at b FieldIds i in
        let n0 = type_index K.pools f.class in
        let n1 = type_index K.pools f.type in
        let n2 = text_index K.pools f.name in
        let s0 = h.field_row i d lt in
        let s1 : BytesAt b (o + 2) (ushort n1 ++ uint n2) = is_at_end (ushort n0) (ushort n1 ++ uint n2) 2 (length-ushort n0) s0 in
        let s2 : BytesAt b (o + 4) (uint n2) = is_at (omega arith) (is_at_end (ushort n1) (uint n2) 2 (length-ushort n1) s1) in
        record {
          class_is = ushort_at-encodes (type_index_small f.class) (is_at_here (ushort n0) (ushort n1 ++ uint n2) s0);
          type_is = ushort_at-encodes (type_index_small f.type) (is_at_here (ushort n1) (uint n2) s1);
          name_is = uint_at-encodes (omega (arith, text_index_few f.name, h.small)) s2;
        }

    -- a method's row, as it is read
    pub method_read : (i : ℕ) (d : Method) → i < length K.pools.methods → MethodRead K b i (get_or K.pools.methods i d)
    method_read i d lt =
        let x = get_or K.pools.methods i d in
        let o = row_at b MethodIds i in
        let n0 = type_index K.pools x.class in
        let n1 = proto_index K.pools x.proto in
        let n2 = text_index K.pools x.name in
        let s0 = h.method_row i d lt in
        let s1 : BytesAt b (o + 2) (ushort n1 ++ uint n2) = is_at_end (ushort n0) (ushort n1 ++ uint n2) 2 (length-ushort n0) s0 in
        let s2 : BytesAt b (o + 4) (uint n2) = is_at (omega arith) (is_at_end (ushort n1) (uint n2) 2 (length-ushort n1) s1) in
        record {
          class_is = ushort_at-encodes (type_index_small x.class) (is_at_here (ushort n0) (ushort n1 ++ uint n2) s0);
          proto_is = ushort_at-encodes (proto_index_small x.proto) (is_at_here (ushort n1) (uint n2) s1);
          name_is = uint_at-encodes (omega (arith, text_index_few x.name, h.small)) s2;
        }

    -- ---- lists of types

    -- the number of types
    pub type_list_count : {o : ℕ} (ts : List Text) → ItemIsAt b 4 o (type_list_bytes K.pools ts) → uint_at b o ≡ length ts
    type_list_count {o} ts s =
        let rest = flat_map (λ t. ushort (type_index K.pools t)) ts in
        let size : length rest ≡ 2 * length ts = length_rows (λ t. ushort (type_index K.pools t)) 2 (λ t. length-ushort (type_index K.pools t)) ts in
        uint_at-encodes (omega (arith, s.in_data.within, length-append (uint (length ts)) rest, size, h.small)) (is_at_here (uint (length ts)) rest s.encodes)

    -- their indices
    pub type_list_indices : {o : ℕ} (ts : List Text) → ItemIsAt b 4 o (type_list_bytes K.pools ts) → type_indices b o ≡ map (type_index K.pools) ts
    type_list_indices {o} ts s =
        let rest = flat_map (λ t. ushort (type_index K.pools t)) ts in
        ap (ushorts_at b (o + 4)) (type_list_count ts s) ∙ ushorts_at-encodes (type_index K.pools) type_index_small (o + 4) ts (is_at_next (length ts) rest s.encodes)

    -- it is in the data
    pub type_list_within : {o : ℕ} (ts : List Text) → ItemIsAt b 4 o (type_list_bytes K.pools ts) → IsInData b o (4 + 2 * uint_at b o)
    type_list_within {o} ts s =
        let rest = flat_map (λ t. ushort (type_index K.pools t)) ts in
        let size : length rest ≡ 2 * length ts = length_rows (λ t. ushort (type_index K.pools t)) 2 (λ t. length-ushort (type_index K.pools t)) ts in
        record {
          following = s.in_data.following;
          within = omega (arith, s.in_data.within, length-append (uint (length ts)) rest, length-uint (length ts), size, type_list_count ts s);
        }
