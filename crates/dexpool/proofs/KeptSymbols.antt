-- The closed marks of tables: they are closed, and keep what the marked symbols mention.
use Rattle.dexpool.proofs.Common.{◌≡◌, ℕ, ◌<◌, List, [], ◌∷◌, ◌++◌, length, get_or, map, refl, sym, ap, ◌∙◌, subst, arith, inl, inr, All, Contains, flat_map, length-map, get_or-map, map-append, All-weaker, All-contains, All-head, All-tail, Contains-get_or, Contains-append_left, Contains-append_right, Contains-append_cases, Text, text_cmp, IsValueType, shorty, Proto, Field, Method, proto_cmp, field_cmp, method_cmp, proto_types, Contains-first, Contains-later, Contains-cons_cases, Contains-flat_map, Contains-flat_map_source, Contains-map, Contains-map_source, Rises-from_rises, text_total, proto_total, field_total, method_total, FieldRow, MethodRow, kept, text_of, type_of, span_of, proto_of, field_of, method_of, AreMarksOf, AllMapTo, marked, symbols_in, IsTypeNumber, IsTypeOf, IsProtoEntry, IsFieldRow, IsMethodRow, AreTables, ProtoEntry, Tables, Marks, IsMarked, mark_all, field_types, entry_types, AreClosure, AreClosed, HasMarkedEntry, HasMarkedField, HasMarkedMethod, kept_symbols, kept_places}
use Rattle.dexspec.specs.Mentions as mentions
use Rattle.dexpool.proofs.KeptRows.{kept_all, kept-map, kept_rises, kept_maps, length-mark_all, mark_comes, mark_all-append}
use Rattle.dexpool.proofs.ClosedMarks.{Same, kept_grown, named, named_flat, mentioned}
use Rattle.dexpool.proofs.TablesAreAt.{are_rising}

-- ---- any lists

-- what holds of each member
all_of : {X : Type 0} (P : X → Type 0) (xs : List X) → ((x : X) → Contains xs x → P x) → All P xs
all_of P xs h = λ k d lt. h (get_or xs k d) (Contains-get_or xs k d lt)

-- functions that agree on the members
map_agree : {X Y : Type 0} (f g : X → Y) (xs : List X) → All (λ x. f x ≡ g x) xs → map f xs ≡ map g xs
map_agree f g [] h = refl
map_agree f g (x ∷ xs) h = λ i. (All-head (λ x. f x ≡ g x) x xs h) i ∷ (map_agree f g xs (All-tail (λ x. f x ≡ g x) x xs h)) i

module _ (t : Tables) (ok : AreTables t) (marks : Marks) (count : AreMarksOf (symbols_in t) marks) (c : Marks) (is : AreClosure t marks c) where
  -- ---- the rows that are marked

  abbrev methods : List MethodRow
  methods = kept marks.methods.items t.methods.items

  abbrev fields : List FieldRow
  fields = kept marks.fields.items t.fields.items

  abbrev protos : List ProtoEntry
  protos = kept c.protos.items t.protos.items

  abbrev types : List ℕ
  types = kept c.types.items t.types.items

  are_methods : All (IsMethodRow t) methods
  are_methods = kept_all (IsMethodRow t) marks.methods.items t.methods.items ok.methods_at_ranks

  are_fields : All (IsFieldRow t) fields
  are_fields = kept_all (IsFieldRow t) marks.fields.items t.fields.items ok.fields_at_ranks

  are_entries : All (IsProtoEntry t) protos
  are_entries = kept_all (IsProtoEntry t) c.protos.items t.protos.items ok.protos_at_ranks

  are_types : All (IsTypeNumber t) types
  are_types = kept_all (IsTypeNumber t) c.types.items t.types.items ok.types_at_ranks

  -- ---- protos

  abbrev proto_numbers : List ℕ
  proto_numbers = map (λ (m : MethodRow). m.proto) methods

  protos_counted : length (symbols_in t).protos ≡ length t.protos.items
  protos_counted = length-map t.protos.items (proto_of t.strings.items t.types.items t.parameters)

  proto_within : (n : ℕ) → Contains proto_numbers n → n < length (symbols_in t).protos
  proto_within n d = let z = Contains-map_source (λ (m : MethodRow). m.proto) methods n d in omega (arith, (All-contains (IsMethodRow t) methods z.0 are_methods z.1).proto_in, z.2, protos_counted)

  protos_grown : Same (kept c.protos.items (symbols_in t).protos) (kept marks.protos.items (symbols_in t).protos ++ map (λ (x : Method). x.proto) (kept marks.methods.items (symbols_in t).methods))
  protos_grown =
      let none : Proto = record { return_type = []; parameters = [] } in
      let of_row = method_of t.strings.items t.types.items t.parameters t.protos.items in
      kept_grown c.protos.items marks.protos.items proto_numbers (symbols_in t).protos (map (λ (x : Method). x.proto) (kept marks.methods.items (symbols_in t).methods)) none count.protos_count proto_within is.protos_are
      (named (λ (m : MethodRow). m.proto) (λ n. get_or (symbols_in t).protos n none) of_row (λ (x : Method). x.proto) methods
      (All-weaker (IsMethodRow t) (λ (m : MethodRow). get_or (symbols_in t).protos m.proto none ≡ (of_row m).proto) (λ m k. get_or-map (proto_of t.strings.items t.types.items t.parameters) t.protos.items m.proto _ none k.proto_in) methods are_methods)
      ∙ ap (map (λ (x : Method). x.proto)) (sym (kept-map of_row marks.methods.items t.methods.items)))

  -- ---- types

  abbrev class_numbers : List ℕ
  class_numbers = map (λ (m : MethodRow). m.class) methods

  abbrev field_numbers : List ℕ
  field_numbers = flat_map field_types fields

  abbrev entry_numbers : List ℕ
  entry_numbers = flat_map (entry_types t.parameters) protos

  abbrev type_numbers : List ℕ
  type_numbers = (class_numbers ++ field_numbers) ++ entry_numbers

  types_marked : c.types.items ≡ mark_all marks.types.items type_numbers
  types_marked = is.types_are ∙ sym (mark_all-append marks.types.items (class_numbers ++ field_numbers) entry_numbers ∙ ap (λ l. mark_all l entry_numbers) (mark_all-append marks.types.items class_numbers field_numbers))

  types_counted : length (symbols_in t).types ≡ length t.types.items
  types_counted = length-map t.types.items (text_of t.strings.items)

  type_within : (n : ℕ) → Contains type_numbers n → n < length t.types.items
  type_within n d = elim (Contains-append_cases (class_numbers ++ field_numbers) entry_numbers n d) [
    | inl d ↦ elim (Contains-append_cases class_numbers field_numbers n d) [
      | inl d ↦ let z = Contains-map_source (λ (m : MethodRow). m.class) methods n d in
          omega (arith, (All-contains (IsMethodRow t) methods z.0 are_methods z.1).class_is.type_in, z.2)
      | inr d ↦ let z = Contains-flat_map_source field_types fields n d in
          let k = All-contains (IsFieldRow t) fields z.0 are_fields z.1 in
          elim (Contains-cons_cases z.0.class n (z.0.typ ∷ []) z.2) [
            | inl e ↦ omega (arith, k.class_is.type_in, e)
            | inr l ↦ elim (Contains-cons_cases z.0.typ n [] l) [ inl e ↦ omega (arith, k.type_is.type_in, e) | inr l ↦ absurd (omega (arith, l.1)) ]
          ]
    ]
    | inr d ↦ let z = Contains-flat_map_source (entry_types t.parameters) protos n d in
        let k = All-contains (IsProtoEntry t) protos z.0 are_entries z.1 in
        elim (Contains-cons_cases z.0.return_type n (span_of t.parameters z.0.parameters) z.2) [
          | inl e ↦ omega (arith, k.return_in, e)
          | inr l ↦ (All-contains (IsTypeOf IsValueType t) (span_of t.parameters z.0.parameters) n k.parameters_in l).type_in
        ]
  ]

  type_is : (n : ℕ) → n < length t.types.items → get_or (symbols_in t).types n [] ≡ type_of t.strings.items t.types.items n
  type_is n lt = get_or-map (text_of t.strings.items) t.types.items n 0 [] lt

  abbrev named_types : List Text
  named_types = (map (λ (x : Method). x.class) (kept marks.methods.items (symbols_in t).methods) ++ flat_map (λ (f : Field). f.class ∷ f.type ∷ []) (kept marks.fields.items (symbols_in t).fields)) ++ flat_map proto_types (kept c.protos.items (symbols_in t).protos)

  types_named : map (λ n. get_or (symbols_in t).types n []) type_numbers ≡ named_types
  types_named =
      let at = λ (n : ℕ). get_or (symbols_in t).types n [] in
      let of_method = method_of t.strings.items t.types.items t.parameters t.protos.items in
      let of_field = field_of t.strings.items t.types.items in
      let of_entry = proto_of t.strings.items t.types.items t.parameters in
      let classes : map at class_numbers ≡ map (λ (x : Method). x.class) (kept marks.methods.items (symbols_in t).methods) =
      named (λ (m : MethodRow). m.class) at of_method (λ (x : Method). x.class) methods (All-weaker (IsMethodRow t) (λ (m : MethodRow). at m.class ≡ (of_method m).class) (λ m k. type_is m.class k.class_is.type_in) methods are_methods)
      ∙ ap (map (λ (x : Method). x.class)) (sym (kept-map of_method marks.methods.items t.methods.items)) in
      let members : map at field_numbers ≡ flat_map (λ (f : Field). f.class ∷ f.type ∷ []) (kept marks.fields.items (symbols_in t).fields) =
      named_flat field_types at of_field (λ (f : Field). f.class ∷ f.type ∷ []) fields
      (All-weaker (IsFieldRow t) (λ (f : FieldRow). map at (field_types f) ≡ (of_field f).class ∷ (of_field f).type ∷ []) (λ f k. λ i. type_is f.class k.class_is.type_in i ∷ type_is f.typ k.type_is.type_in i ∷ []) fields are_fields)
      ∙ ap (flat_map (λ (f : Field). f.class ∷ f.type ∷ [])) (sym (kept-map of_field marks.fields.items t.fields.items)) in
      let entries : map at entry_numbers ≡ flat_map proto_types (kept c.protos.items (symbols_in t).protos) =
      named_flat (entry_types t.parameters) at of_entry proto_types protos
      (All-weaker (IsProtoEntry t) (λ (p : ProtoEntry). map at (entry_types t.parameters p) ≡ proto_types (of_entry p))
      (λ p k. let span = span_of t.parameters p.parameters in
      λ i. type_is p.return_type k.return_in i ∷ (map_agree at (type_of t.strings.items t.types.items) span (All-weaker (IsTypeOf IsValueType t) (λ n. at n ≡ type_of t.strings.items t.types.items n) (λ n j. type_is n j.type_in) span k.parameters_in)) i) protos are_entries)
      ∙ ap (flat_map proto_types) (sym (kept-map of_entry c.protos.items t.protos.items)) in
      map-append at (class_numbers ++ field_numbers) entry_numbers ∙ ap (λ l. l ++ map at entry_numbers) (map-append at class_numbers field_numbers) ∙ (λ i. (classes i ++ members i) ++ entries i)

  types_grown : Same (kept c.types.items (symbols_in t).types) (kept marks.types.items (symbols_in t).types ++ named_types)
  types_grown = kept_grown c.types.items marks.types.items type_numbers (symbols_in t).types named_types [] count.types_count (λ n d. let lt = type_within n d in omega (arith, lt, types_counted)) types_marked types_named

  -- ---- texts

  abbrev name_numbers : List ℕ
  name_numbers = map (λ (m : MethodRow). m.name) methods ++ map (λ (f : FieldRow). f.name) fields

  abbrev shorty_numbers : List ℕ
  shorty_numbers = map (λ (p : ProtoEntry). p.shorty) protos

  abbrev text_numbers : List ℕ
  text_numbers = (name_numbers ++ shorty_numbers) ++ types

  texts_marked : c.strings.items ≡ mark_all marks.strings.items text_numbers
  texts_marked =
      is.strings_are
      ∙ sym (mark_all-append marks.strings.items (name_numbers ++ shorty_numbers) types
      ∙ ap (λ l. mark_all l types) (mark_all-append marks.strings.items name_numbers shorty_numbers
      ∙ ap (λ l. mark_all l shorty_numbers) (mark_all-append marks.strings.items (map (λ (m : MethodRow). m.name) methods) (map (λ (f : FieldRow). f.name) fields))))

  text_within : (n : ℕ) → Contains text_numbers n → n < length t.strings.items
  text_within n d = elim (Contains-append_cases (name_numbers ++ shorty_numbers) types n d) [
    | inl d ↦ elim (Contains-append_cases name_numbers shorty_numbers n d) [
      | inl d ↦ elim (Contains-append_cases (map (λ (m : MethodRow). m.name) methods) (map (λ (f : FieldRow). f.name) fields) n d) [
        | inl d ↦ let z = Contains-map_source (λ (m : MethodRow). m.name) methods n d in
            omega (arith, (All-contains (IsMethodRow t) methods z.0 are_methods z.1).name_in, z.2)
        | inr d ↦ let z = Contains-map_source (λ (f : FieldRow). f.name) fields n d in
            omega (arith, (All-contains (IsFieldRow t) fields z.0 are_fields z.1).name_in, z.2)
      ]
      | inr d ↦ let z = Contains-map_source (λ (p : ProtoEntry). p.shorty) protos n d in
          omega (arith, (All-contains (IsProtoEntry t) protos z.0 are_entries z.1).shorty_in, z.2)
    ]
    | inr d ↦ (All-contains (IsTypeNumber t) types n are_types d).text_in
  ]

  abbrev named_texts : List Text
  named_texts = ((map (λ (x : Method). x.name) (kept marks.methods.items (symbols_in t).methods) ++ map (λ (f : Field). f.name) (kept marks.fields.items (symbols_in t).fields)) ++ map (λ (p : Proto). shorty p.return_type p.parameters) (kept c.protos.items (symbols_in t).protos)) ++ kept c.types.items (symbols_in t).types

  texts_named : map (λ n. get_or t.strings.items n []) text_numbers ≡ named_texts
  texts_named =
      let at = text_of t.strings.items in
      let of_method = method_of t.strings.items t.types.items t.parameters t.protos.items in
      let of_field = field_of t.strings.items t.types.items in
      let of_entry = proto_of t.strings.items t.types.items t.parameters in
      let a = map (λ (m : MethodRow). m.name) methods in
      let b = map (λ (f : FieldRow). f.name) fields in
      let of_methods : map at a ≡ map (λ (x : Method). x.name) (kept marks.methods.items (symbols_in t).methods) =
      named (λ (m : MethodRow). m.name) at of_method (λ (x : Method). x.name) methods (λ k d lt. refl) ∙ ap (map (λ (x : Method). x.name)) (sym (kept-map of_method marks.methods.items t.methods.items)) in
      let of_fields : map at b ≡ map (λ (f : Field). f.name) (kept marks.fields.items (symbols_in t).fields) =
      named (λ (f : FieldRow). f.name) at of_field (λ (f : Field). f.name) fields (λ k d lt. refl) ∙ ap (map (λ (f : Field). f.name)) (sym (kept-map of_field marks.fields.items t.fields.items)) in
      let shorties : map at shorty_numbers ≡ map (λ (p : Proto). shorty p.return_type p.parameters) (kept c.protos.items (symbols_in t).protos) =
      named (λ (p : ProtoEntry). p.shorty) at of_entry (λ (p : Proto). shorty p.return_type p.parameters) protos
      (All-weaker (IsProtoEntry t) (λ (p : ProtoEntry). at p.shorty ≡ shorty (of_entry p).return_type (of_entry p).parameters) (λ p k. k.shorty_is) protos are_entries)
      ∙ ap (map (λ (p : Proto). shorty p.return_type p.parameters)) (sym (kept-map of_entry c.protos.items t.protos.items)) in
      map-append at (name_numbers ++ shorty_numbers) types ∙ ap (λ l. l ++ map at types) (map-append at name_numbers shorty_numbers ∙ ap (λ l. l ++ map at shorty_numbers) (map-append at a b))
      ∙ (λ i. ((of_methods i ++ of_fields i) ++ shorties i) ++ (sym (kept-map at c.types.items t.types.items)) i)

  texts_grown : Same (kept c.strings.items t.strings.items) (kept marks.strings.items t.strings.items ++ named_texts)
  texts_grown = kept_grown c.strings.items marks.strings.items text_numbers t.strings.items named_texts [] count.strings_count text_within texts_marked texts_named

  -- ---- they are closed

  text_marked : (n : ℕ) → Contains text_numbers n → IsMarked c.strings.items n
  text_marked n d = subst (λ bs. IsMarked bs n) (sym texts_marked) (mark_comes marks.strings.items text_numbers n (let lt = text_within n d in omega (arith, lt, count.strings_count)) d)

  type_marked : (n : ℕ) → Contains type_numbers n → IsMarked c.types.items n
  type_marked n d = subst (λ bs. IsMarked bs n) (sym types_marked) (mark_comes marks.types.items type_numbers n (let lt = type_within n d in omega (arith, lt, count.types_count, types_counted)) d)

  proto_marked : (n : ℕ) → Contains proto_numbers n → IsMarked c.protos.items n
  proto_marked n d = subst (λ bs. IsMarked bs n) (sym is.protos_are) (mark_comes marks.protos.items proto_numbers n (let lt = proto_within n d in omega (arith, lt, count.protos_count)) d)

  name_marked : (n : ℕ) → Contains name_numbers n → IsMarked c.strings.items n
  name_marked n d = text_marked n (Contains-append_left (name_numbers ++ shorty_numbers) types n (Contains-append_left name_numbers shorty_numbers n d))

  entry_marked : (p : ProtoEntry) → Contains protos p → (n : ℕ) → Contains (entry_types t.parameters p) n → IsMarked c.types.items n
  entry_marked p h n d = type_marked n (Contains-append_right (class_numbers ++ field_numbers) entry_numbers n (Contains-flat_map (entry_types t.parameters) protos p n h d))

  field_marked : (f : FieldRow) → Contains fields f → (n : ℕ) → Contains (field_types f) n → IsMarked c.types.items n
  field_marked f h n d = type_marked n (Contains-append_left (class_numbers ++ field_numbers) entry_numbers n (Contains-append_right class_numbers field_numbers n (Contains-flat_map field_types fields f n h d)))

  pub are_closed : AreClosed t c
  are_closed = record {
    types_closed = all_of (IsMarked c.strings.items) types (λ n d. text_marked n (Contains-append_right (name_numbers ++ shorty_numbers) types n d));
    protos_closed = all_of (HasMarkedEntry t c) protos (λ p h. record {
      shorty_marked = text_marked p.shorty (Contains-append_left (name_numbers ++ shorty_numbers) types p.shorty (Contains-append_right name_numbers shorty_numbers p.shorty (Contains-map (λ (q : ProtoEntry). q.shorty) protos p h)));
      return_marked = entry_marked p h p.return_type (Contains-first p.return_type (span_of t.parameters p.parameters));
      parameters_marked = all_of (IsMarked c.types.items) (span_of t.parameters p.parameters) (λ n d. entry_marked p h n (Contains-later p.return_type n (span_of t.parameters p.parameters) d));
    });
    fields_closed = subst (λ bs. All (HasMarkedField c) (kept bs t.fields.items)) (sym is.fields_are) (all_of (HasMarkedField c) fields (λ f h. record {
      class_marked = field_marked f h f.class (Contains-first f.class (f.typ ∷ []));
      name_marked = name_marked f.name (Contains-append_right (map (λ (m : MethodRow). m.name) methods) (map (λ (g : FieldRow). g.name) fields) f.name (Contains-map (λ (g : FieldRow). g.name) fields f h));
      type_marked = field_marked f h f.typ (Contains-later f.class f.typ (f.typ ∷ []) (Contains-first f.typ []));
    }));
    methods_closed = subst (λ bs. All (HasMarkedMethod c) (kept bs t.methods.items)) (sym is.methods_are) (all_of (HasMarkedMethod c) methods (λ m h. record {
      class_marked = type_marked m.class (Contains-append_left (class_numbers ++ field_numbers) entry_numbers m.class (Contains-append_left class_numbers field_numbers m.class (Contains-map (λ (x : MethodRow). x.class) methods m h)));
      name_marked = name_marked m.name (Contains-append_left (map (λ (x : MethodRow). x.name) methods) (map (λ (g : FieldRow). g.name) fields) m.name (Contains-map (λ (x : MethodRow). x.name) methods m h));
      proto_marked = proto_marked m.proto (Contains-map (λ (x : MethodRow). x.proto) methods m h);
    }));
  }

  -- there is one for each symbol
  pub closed_count : AreMarksOf (symbols_in t) c
  closed_count = record {
    strings_count = ap length texts_marked ∙ length-mark_all marks.strings.items text_numbers ∙ count.strings_count;
    types_count = ap length types_marked ∙ length-mark_all marks.types.items type_numbers ∙ count.types_count;
    protos_count = ap length is.protos_are ∙ length-mark_all marks.protos.items proto_numbers ∙ count.protos_count;
    fields_count = ap length is.fields_are ∙ count.fields_count;
    methods_count = ap length is.methods_are ∙ count.methods_count;
  }

  -- ---- what they keep

  -- what the marked symbols mention
  pub kept_mentioned : kept_symbols c (symbols_in t) ≡ mentions.closed (marked (symbols_in t) marks)
  kept_mentioned =
      let m = symbols_in t in
      let r = are_rising t ok in
      (λ i. record { texts = kept c.strings.items m.texts; types = kept c.types.items m.types; protos = kept c.protos.items m.protos; fields = kept (is.fields_are i) m.fields; methods = kept (is.methods_are i) m.methods })
      ∙ mentioned (kept marks.strings.items m.texts) (kept marks.types.items m.types) (kept marks.protos.items m.protos) (kept marks.fields.items m.fields) (kept marks.methods.items m.methods)
      (kept c.protos.items m.protos) protos_grown (kept c.types.items m.types) types_grown (kept c.strings.items m.texts) texts_grown
      (kept_rises text_cmp c.strings.items m.texts (Rises-from_rises text_cmp text_total m.texts r.texts_rise))
      (kept_rises text_cmp c.types.items m.types (Rises-from_rises text_cmp text_total m.types r.types_rise))
      (kept_rises proto_cmp c.protos.items m.protos (Rises-from_rises proto_cmp proto_total m.protos r.protos_rise))
      (kept_rises field_cmp marks.fields.items m.fields (Rises-from_rises field_cmp field_total m.fields r.fields_rise))
      (kept_rises method_cmp marks.methods.items m.methods (Rises-from_rises method_cmp method_total m.methods r.methods_rise))

  -- and the map is from the old numbering to the new one
  pub kept_mapped : AllMapTo (symbols_in t) (kept_symbols c (symbols_in t)) (kept_places c)
  kept_mapped =
      let m = symbols_in t in
      let r = are_rising t ok in
      record {
        texts_mapped = kept_maps text_cmp text_total c.strings.items m.texts closed_count.strings_count (Rises-from_rises text_cmp text_total m.texts r.texts_rise);
        types_mapped = kept_maps text_cmp text_total c.types.items m.types closed_count.types_count (Rises-from_rises text_cmp text_total m.types r.types_rise);
        protos_mapped = kept_maps proto_cmp proto_total c.protos.items m.protos closed_count.protos_count (Rises-from_rises proto_cmp proto_total m.protos r.protos_rise);
        fields_mapped = kept_maps field_cmp field_total c.fields.items m.fields closed_count.fields_count (Rises-from_rises field_cmp field_total m.fields r.fields_rise);
        methods_mapped = kept_maps method_cmp method_total c.methods.items m.methods closed_count.methods_count (Rises-from_rises method_cmp method_total m.methods r.methods_rise);
      }
