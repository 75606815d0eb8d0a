-- The items of a class in the file of definitions are at the offsets of its row: class data, code, debug programs,
-- static values and directory; and all items that the row refers to can be read.
use Rattle.dexspec.proofs.Common.{◌≡◌, ℕ, ◌+◌, ◌<◌, ◌≤◌, ◌^◌, List, [], ◌∷◌, ◌++◌, length, get_or, map, take, drop, slice_index, refl, sym, ap, subst, arith, inl, inr, All, Option, Some, None, ◌==◌, IfSome, option_to_list, option_map_or, Contains, AllZip, flat_map, cases_lt, cond-true, cond-false, eq-eqb, ne_eqb, length-append, get_or_default, nil_from_length, All-contains, Contains-get_or, Contains-append_left, Contains-append_right, Debug, Code, Values, ClassData, Mentions}
use Rattle.dexspec.specs.{OrNone, SomeAt, zip_with, Text, field_cmp, method_cmp, data_off, BytesAt, DebugAt, CodeAt, handlers_of, NoValues, ThenValue, values_depth, most_depth, count_values, Directory, annotated, ClassDataAt, no_class_data, FieldDef, MethodDef, Body, Definition, MakesMethod, field_def, StaticValuesAt, declared_fields, declared_methods, class_data_off, static_values_off, mentions, symbols_of, field_of, method_of, debug_symbols, code_symbols, handler_symbols, piece_symbols, values_symbols, code_bytes, debug_bytes, encoded_array_bytes, class_data_bytes, IsDebug, IsCodeItem, IsMethodDef, IsWellFormed, AreValues, values_unless_empty, by_class, Ordered, uses_offsets, ordered, debug_section, code_section, in_class_order, greatest_caps, Fits}
use Rattle.dexspec.proofs.layout.SectionPlaces.{ItemIsAt}
use Rattle.dexspec.specs.internal.IndexPlaces.{IndexFits}
use Rattle.dexspec.specs.internal.OwnDirectories.{own_directory}
use Rattle.dexspec.proofs.lists.Members.{Contains-first, Contains-later}
use Rattle.dexspec.proofs.layout.Uses as uses
use Rattle.dexspec.proofs.layout.Uses.{UseIsAt, method_place, debug_of, code_of_method, debug_encoded, code_encoded, length-class_part, length-code_offsets}
use Rattle.dexspec.proofs.layout.RowsRead.{use_small, class_read}
use Rattle.dexspec.proofs.written.{AreInRows, back_in_rows, array_written, debug_written, code_written, class_data_of, class_data_written, encoded_field, encoded_method}
use Rattle.dexspec.proofs.normal.MemberRanks.{symbols_in_rows, indices_rise, code_occurs, static_values_occur}
use Rattle.dexspec.proofs.wellformed.ShortIndices.{indices_fit}
use Rattle.dexspec.proofs.normal.NormalClasses.{AreNormal, BelongsAt, class_member}
use Rattle.dexspec.proofs.normal.ClassDirectory.{zip_from_places, directory_there, own_field, own_method_set, own_parameter_sets}

-- ---- values, debug programs and code

module _ (b : List ℕ) (m : Mentions) (short : length b < 2 ^ 32) where
  -- static values are at their offset, or there are none
  values_use : (o : ℕ) (vs : Values) → AreValues vs → values_depth vs ≤ most_depth → count_values vs < 2 ^ 32 → AreInRows b m (values_symbols vs) → UseIsAt b 1 (encoded_array_bytes m) (values_unless_empty vs) o → OrNone StaticValuesAt NoValues b o vs
  values_use o NoValues are shallow few rows h = inl (h, refl)
  values_use o (ThenValue v vs) are shallow few rows h =
      inr (h.some, (length (encoded_array_bytes m (ThenValue v vs)), record { in_data = h.in_data.following; array = array_written b m o (ThenValue v vs) are few rows h.encodes; shallow = shallow }))

  -- a debug program is at its offset, or there is none
  debug_use : (o : ℕ) (d : Option Debug) → IfSome d IsDebug → ((x : Debug) → d ≡ Some x → AreInRows b m (debug_symbols x)) → UseIsAt b 1 (debug_bytes m) d o → OrNone (SomeAt DebugAt) None b o d
  debug_use o None is rows h = inl (h, refl)
  debug_use o (Some x) is rows h = inr (h.some, debug_written b m o x is (rows x refl) h.in_data.following h.encodes)

  -- the debug symbols of code
  code_debug_rows : (c : Code) (x : Debug) → c.debug ≡ Some x → AreInRows b m (code_symbols c) → AreInRows b m (debug_symbols x)
  code_debug_rows c x e rows =
      let following = back_in_rows b m (flat_map handler_symbols (handlers_of c.tries)) (flat_map debug_symbols (option_to_list c.debug)) (back_in_rows b m (flat_map piece_symbols c.pieces) (flat_map handler_symbols (handlers_of c.tries) ++ flat_map debug_symbols (option_to_list c.debug)) rows) in
      λ s k. following s (subst (λ (o : Option Debug). Contains (flat_map debug_symbols (option_to_list o)) s) (sym e) (Contains-append_left (debug_symbols x) [] s k))

  -- code is at its offset, or there is none
  code_use : (o debug_off : ℕ) (c : Option Code) → length m.types ≤ 65536 → IfSome c IsCodeItem → ((k : Code) → c ≡ Some k → AreInRows b m (code_symbols k) × All (IndexFits m) k.pieces)
      → UseIsAt b 1 (debug_bytes m) (option_map_or (λ k. k.debug) c None) debug_off → UseIsAt b 4 (λ (p : Code × ℕ). code_bytes m p.1 p.0) (option_map_or (λ k. Some (k, debug_off)) c None) o → OrNone (SomeAt CodeAt) None b o c
  code_use o debug_off None few is rows d h = inl (h, refl)
  code_use o debug_off (Some k) few is rows d h =
      let own = rows k refl in
      inr (h.some, code_written b m o debug_off k short few is own.0 own.1 h.in_data.following h.multiple (debug_use debug_off k.debug is.debug (λ x e. code_debug_rows k x e own.0) d) h.encodes)

-- ---- members

-- fields are made of class data and directory
fields_back : (name : Text) (d : Directory) (fs : List FieldDef) → ((f : FieldDef) → Contains fs f → annotated field_cmp d.fields (field_of name f) ≡ f.annotations) → fs ≡ map (field_def d) (map (encoded_field name) fs)
fields_back name d [] h = refl
fields_back name d (f ∷ fs) h =
    let own = h f (Contains-first f fs) in
    let rest = fields_back name d fs (λ g k. h g (Contains-later f g fs k)) in
    λ i. record { name = f.name; type = f.type; flags = f.flags; annotations = sym own i } ∷ rest i

-- what the directory has for a method
abbrev HasOwn : Text → Directory → MethodDef → Type 0
HasOwn name d x = (annotated method_cmp d.methods (method_of name x) ≡ x.annotations) × (annotated method_cmp d.parameters (method_of name x) ≡ x.parameter_annotations)

-- methods are made of class data and directory, with their code
methods_back : (b : List ℕ) (name : Text) (d : Directory) (xs : List MethodDef) (offs : List ℕ) → ((x : MethodDef) → Contains xs x → HasOwn name d x) → AllZip (λ o (x : MethodDef). OrNone (SomeAt CodeAt) None b o x.code) offs xs
    → AllZip (MakesMethod b d) (zip_with (encoded_method name) xs offs) xs
methods_back b name d [] [] own are = tt
methods_back b name d [] (o ∷ offs) own are = absurd are
methods_back b name d (x ∷ xs) [] own are = absurd are
methods_back b name d (x ∷ xs) (o ∷ offs) own are =
    let one = own x (Contains-first x xs) in (
      record { name = refl; proto = refl; flags = refl; code = are.0; annotations = sym one.0; parameter_annotations = sym one.1 },
      methods_back b name d xs offs (λ y k. own y (Contains-later x y xs k)) are.1,
    )

-- a list that is related to joined lists has parts that are related to each
pub zip_split : {X : Type 0} (P : ℕ → X → Type 0) (offs : List ℕ) (xs ys : List X) → AllZip P offs (xs ++ ys) → AllZip P (take (length xs) offs) xs × AllZip P (drop (length xs) offs) ys
zip_split P offs [] ys h = (tt, h)
zip_split P [] (x ∷ xs) ys h = absurd h
zip_split P (o ∷ offs) (x ∷ xs) ys h = let rest = zip_split P offs xs ys h.1 in ((h.0, rest.0), rest.1)

-- without members there is no class data
zip_with-none : {X Y Z : Type 0} (f : X → Y → Z) (xs : List X) (ys : List Y) → xs ≡ [] → zip_with f xs ys ≡ []
zip_with-none f xs ys e = ap (λ l. zip_with f l ys) e

-- class data is at its offset, or the class has no members
class_data_use : (b : List ℕ) (m : Mentions) (o : ℕ) (name : Text) (c : Body) (offs : List ℕ) → (0 < length (declared_fields c) + length (declared_methods c) → data_off b ≤ o → BytesAt b o (class_data_bytes m (name, c) offs) → ClassDataAt b o (class_data_of name c offs))
    → UseIsAt b 1 (λ (p : Definition × List ℕ). class_data_bytes m p.0 p.1) (uses.class_data_of (name, c) offs) o → OrNone ClassDataAt no_class_data b o (class_data_of name c offs)
class_data_use b m o name c offs written h =
    let n = length (declared_fields c) + length (declared_methods c) in
    let maps_to = UseIsAt b 1 (λ (p : Definition × List ℕ). class_data_bytes m p.0 p.1) in
    elim (cases_lt 0 n) [
      | inl some ↦
          let item : ItemIsAt b 1 o (class_data_bytes m (name, c) offs) = subst (λ u. maps_to u o) (cond-false (n == 0) None (Some ((name, c), offs)) (ne_eqb n 0 (λ e. omega (arith, e, some)))) h in
          inr (item.some, written some item.in_data.following item.encodes)
      | inr none ↦
          let zero_is : o ≡ 0 = subst (λ u. maps_to u o) (cond-true (n == 0) None (Some ((name, c), offs)) (eq-eqb n 0 (omega (arith, none)))) h in
          let fields = length-append c.static_fields c.instance_fields in
          let methods = length-append c.direct_methods c.virtual_methods in
          let e0 : c.static_fields ≡ [] = nil_from_length c.static_fields (omega (arith, none, fields)) in
          let e1 : c.instance_fields ≡ [] = nil_from_length c.instance_fields (omega (arith, none, fields)) in
          let e2 : c.direct_methods ≡ [] = nil_from_length c.direct_methods (omega (arith, none, methods)) in
          let e3 : c.virtual_methods ≡ [] = nil_from_length c.virtual_methods (omega (arith, none, methods)) in
          let d0 = ap (map (encoded_field name)) e0 in
          let d1 = ap (map (encoded_field name)) e1 in
          let d2 = zip_with-none (encoded_method name) c.direct_methods (take (length c.direct_methods) offs) e2 in
          let d3 = zip_with-none (encoded_method name) c.virtual_methods (drop (length c.direct_methods) offs) e3 in
          inl (zero_is, λ i. record { static_fields = d0 i; instance_fields = d1 i; direct_methods = d2 i; virtual_methods = d3 i })
    ]

-- ---- a class row

module _ (D : List Definition) (b : List ℕ) (n : AreNormal D b) (fits : Fits greatest_caps D) (r : ℕ) (e : Definition) (lt : r < length (in_class_order D)) where
  abbrev K : Ordered
  K = ordered D

  -- the class
  abbrev name : Text
  name = (get_or (in_class_order D) r e).0

  abbrev body : Body
  body = (get_or (in_class_order D) r e).1

  -- the offsets of the code of its methods
  abbrev codes : List ℕ
  codes = get_or (by_class K (uses_offsets (code_section K))) r []

  -- its members as class data has them
  abbrev pub own_members : ClassData
  own_members = class_data_of name body codes

  -- it is in the file, and well formed
  in_file : Contains D (name, body)
  in_file = class_member D b n r e lt

  formed : IsWellFormed (name, body)
  formed = n.formed (name, body) in_file

  rows : AreInRows b (mentions D) (symbols_of (name, body))
  rows = symbols_in_rows D b n.file (name, body) in_file

  -- there is an offset of code for each method
  codes_count : length codes ≡ length (declared_methods body)
  codes_count = length-class_part K (uses_offsets (code_section K)) r e lt (length-code_offsets K)

  -- the code of each method is at its offset
  pub code_there : AllZip (λ o (x : MethodDef). OrNone (SomeAt CodeAt) None b o x.code) codes (declared_methods body)
  code_there =
      let xs = declared_methods body in
      zip_from_places (λ o (x : MethodDef). OrNone (SomeAt CodeAt) None b o x.code) codes xs codes_count (λ j d less.
      let x = get_or xs j d in
      let k = Contains-get_or xs j d less in
      let is = (All-contains IsMethodDef xs x formed.methods k).code in
      code_use b (mentions D) n.file.laid.small (slice_index codes j) (slice_index (uses_offsets (debug_section K)) (method_place K r j)) x.code (omega (arith, fits.types)) is
      (λ c has. (
        (λ s l. rows s (code_occurs name body x c s k has l)),
        indices_fit D fits (name, body) x c in_file k has (subst (λ (o : Option Code). IfSome o IsCodeItem) has is),
      ))
      (debug_encoded n.file.laid r e j d lt less) (code_encoded n.file.laid r e j d lt less))

  -- each offset has 32 bits
  codes_small : All (λ p. p < 2 ^ 32) codes
  codes_small = λ j d less.
      let within : j < length (declared_methods body) = omega (arith, less, codes_count) in
      let small = small_at j within in
      subst (λ (p : ℕ). p < 2 ^ 32) (get_or_default codes j 0 d less) small
    where
      small_at : (j : ℕ) → j < length (declared_methods body) → slice_index codes j < 2 ^ 32
      small_at j within = by (declared_methods body) refl
        where
          by : (xs : List MethodDef) → declared_methods body ≡ xs → slice_index codes j < 2 ^ 32
          by [] same = absurd (omega (arith, within, ap (λ (l : List MethodDef). length l) same))
          by (x ∷ xs) same = use_small b 4 (λ (p : Code × ℕ). code_bytes (mentions D) p.1 p.0) (code_of_method (slice_index (uses_offsets (debug_section K)) (method_place K r j)) (get_or (declared_methods body) j x)) (slice_index codes j) n.file.laid.small (code_encoded n.file.laid r e j x lt within)

  -- its class data is at the offset of its row
  pub members_there : OrNone ClassDataAt no_class_data b (class_data_off b r) own_members
  members_there =
      class_data_use b (mentions D) (class_data_off b r) name body codes
      (λ some following s. class_data_written b (mentions D) (class_data_off b r) name body codes formed (indices_rise D name body in_file formed) rows codes_count codes_small following s)
      (class_read n.file.laid r e lt).class_data_is

  -- its static values are at the offset of its row
  pub values_there : OrNone StaticValuesAt NoValues b (static_values_off b r) body.static_values
  values_there =
      values_use b (mentions D) n.file.laid.small (static_values_off b r) body.static_values formed.static_values formed.shallow (omega (arith, formed.few_values, formed.static_fields_count)) (λ s k. rows s (static_values_occur name body s k))
      (class_read n.file.laid r e lt).static_values_are

  -- all items of the class are at their offsets
  pub belongs : BelongsAt b r body
  belongs =
      let dir = own_directory name body in
      let parts = zip_split (λ o (x : MethodDef). OrNone (SomeAt CodeAt) None b o x.code) codes body.direct_methods body.virtual_methods code_there in
      let own : (x : MethodDef) → Contains (declared_methods body) x → HasOwn name dir x = λ x k. (own_method_set name body formed x k, own_parameter_sets name body formed x k) in
      record {
        directory = dir;
        directory_is = directory_there D b n r e lt;
        members = own_members;
        members_are = members_there;
        annotations = refl;
        static_fields = fields_back name dir body.static_fields (λ f k. own_field name body formed f (Contains-append_left body.static_fields body.instance_fields f k));
        instance_fields = fields_back name dir body.instance_fields (λ f k. own_field name body formed f (Contains-append_right body.static_fields body.instance_fields f k));
        direct_methods = methods_back b name dir body.direct_methods (take (length body.direct_methods) codes) (λ x k. own x (Contains-append_left body.direct_methods body.virtual_methods x k)) parts.0;
        virtual_methods = methods_back b name dir body.virtual_methods (drop (length body.direct_methods) codes) (λ x k. own x (Contains-append_right body.direct_methods body.virtual_methods x k)) parts.1;
        static_values = values_there;
      }
