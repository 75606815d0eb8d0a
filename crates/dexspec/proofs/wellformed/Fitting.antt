-- Definitions whose symbols have rows fit the greatest caps.
use Rattle.dexspec.proofs.Common.{◌≡◌, ℕ, zero, suc, ◌+◌, ◌<◌, ◌≤◌, Bool, true, false, cond, List, [], ◌∷◌, length, count_by, refl, ap, ◌∙◌, subst, arith, inl, inr, is_lt, Contains, AllZip, range_with_len, cases_eq, sum_by-cons}
use Rattle.dexspec.specs.{AreDistinct, rank, OrNone, uint_at, ushort_at, Text, text_cmp, shorty, Proto, Field, Method, Symbol, TextSymbol, TypeSymbol, ProtoSymbol, FieldSymbol, MethodSymbol, proto_cmp, field_cmp, method_cmp, TypeIds, ProtoIds, FieldIds, MethodIds, table_size, HasLayout, row_at, StringRow, TypeRow, type_indices, TypeListAt, ProtoRow, FieldRow, MethodRow, SymbolRow, Definition, AreWithin, symbols_of, mentions, texts_in, types_in, protos_in, fields_in, methods_in, proto_types, proto_texts, weight, most_weight, Fits, greatest_caps, HasShortString}
use Rattle.dexspec.proofs.lists.{Contains-nil, Contains-first, Contains-later, Contains-cons_cases, AreDistinct-first, AreDistinct-rest, length-among, less_is, AreDistinct-from_Rises, AreDistinct-cons}
use Rattle.dexspec.proofs.merge.{mentions-rising, text_total, proto_total, field_total, method_total, Occurs, texts-source, types-source, protos-source, fields-source, methods-source}
use Rattle.dexspec.proofs.determined.OneRow.{one_string, one_type, one_proto, one_field, one_method}
use Rattle.dexspec.proofs.wellformed.PoolRows.{AreStrings, string_before}

-- ---- as many values as rows

-- a range has the numbers from its start on
range_has : (n a i : ℕ) → a ≤ i → i < a + n → Contains (range_with_len a n) i
range_has zero a i le lt = absurd (omega arith)
range_has (suc n) a i le lt = elim (cases_eq a i) [
  | inl e ↦ (0, omega arith, e)
  | inr d ↦ Contains-later a i (range_with_len (a + 1) n) (range_has n (a + 1) i (omega arith) (omega arith))
]

-- and its length is the given number
length_range : (n a : ℕ) → length (range_with_len a n) ≡ n
length_range zero a = refl
length_range (suc n) a = omega (arith, length_range n (a + 1))

module _ {X : Type 0} (Row : ℕ → X → Type 0) (one : (i : ℕ) (x y : X) → Row i x → Row i y → x ≡ y) (n : ℕ) (p : X → Bool) where
  -- rows of the members that pass, each once
  record Places (xs : List X) : Type 0 where
    rows : List ℕ
    size : length rows ≡ count_by p xs
    below : (i : ℕ) → Contains rows i → i < n
    distinct : AreDistinct rows
    source : (i : ℕ) → Contains rows i → (x : X) × Contains xs x × Row i x

  -- each member that passes has one of the first n rows
  abbrev HavePlaces : List X → Type 0
  HavePlaces xs = (x : X) → Contains xs x → p x ≡ true → (i : ℕ) × (i < n) × Row i x

  -- the count of passing members, with one more member
  count_next : (x : X) (xs : List X) (b : Bool) → p x ≡ b → count_by p (x ∷ xs) ≡ cond b 1 0 + count_by p xs
  count_next x xs b e = sum_by-cons (λ y. cond (p y) 1 0) x xs ∙ ap (λ c. cond c 1 0 + count_by p xs) e

  -- case split on whether one more member passes
  places_by : (x : X) (xs : List X) (b : Bool) → p x ≡ b → AreDistinct (x ∷ xs) → HavePlaces (x ∷ xs) → Places xs → Places (x ∷ xs)
  places_by x xs true e d h r =
      let w = h x (Contains-first x xs) e in record {
        rows = w.0 ∷ r.rows;
        size = omega (arith, count_next x xs true e, r.size);
        below = λ i c. elim (Contains-cons_cases w.0 i r.rows c) [ inl s ↦ omega (arith, s, w.1) | inr l ↦ r.below i l ];
        distinct = AreDistinct-cons w.0 r.rows (λ c. let s = r.source w.0 c in AreDistinct-first x xs d s.0 s.1 (one w.0 s.0 x s.2 w.2)) r.distinct;
        source = λ i c. elim (Contains-cons_cases w.0 i r.rows c) [
          | inl s ↦ (x, Contains-first x xs, subst (λ (k : ℕ). Row k x) s w.2)
          | inr l ↦ let s = r.source i l in (s.0, Contains-later x s.0 xs s.1, s.2)
        ];
      }
  places_by x xs false e d h r = record {
    rows = r.rows;
    size = omega (arith, count_next x xs false e, r.size);
    below = r.below;
    distinct = r.distinct;
    source = λ i c. let s = r.source i c in (s.0, Contains-later x s.0 xs s.1, s.2);
  }

  -- members that pass have different rows
  places : (xs : List X) → AreDistinct xs → HavePlaces xs → Places xs
  places [] d h = record {
    rows = [];
    size = refl;
    below = λ i c. absurd (Contains-nil i c);
    distinct = λ i j z lt le e. omega (arith, lt, le);
    source = λ i c. absurd (Contains-nil i c);
  }
  places (x ∷ xs) d h = places_by x xs (p x) refl d h (places xs (AreDistinct-rest x xs d) (λ y c e. h y (Contains-later x y xs c) e))

  -- at most as many members pass as there are rows
  passing : (xs : List X) → AreDistinct xs → HavePlaces xs → count_by p xs ≤ n
  passing xs d h =
      let r = places xs d h in
      omega (arith, r.size, length-among r.rows (range_with_len 0 n) r.distinct (λ i c. range_has n 0 i (omega arith) (omega (arith, r.below i c))), length_range n 0)

-- the count of all members is the length
count_all : {X : Type 0} (xs : List X) → count_by (λ _. true) xs ≡ length xs
count_all {X} [] = refl
count_all {X} (x ∷ xs) = omega (arith, sum_by-cons (λ (y : X). 1) x xs, count_all xs)

-- there are at most as many values as rows
pub no_more : {X : Type 0} (Row : ℕ → X → Type 0) → ((i : ℕ) (x y : X) → Row i x → Row i y → x ≡ y) → (n : ℕ) (xs : List X) → AreDistinct xs → ((x : X) → Contains xs x → (i : ℕ) × (i < n) × Row i x) → length xs ≤ n
no_more Row one n xs d h = omega (arith, passing Row one n (λ _. true) xs d (λ x c e. h x c), count_all xs)

-- ---- rows of the parts of a symbol

-- a row of its pool is the symbol
abbrev pub HasRow : List ℕ → Symbol → Type 0
HasRow b s = (i : ℕ) × SymbolRow b i s

-- each symbol of the list has a row
abbrev pub HaveRows : List ℕ → List Symbol → Type 0
HaveRows b ss = (s : Symbol) → Contains ss s → HasRow b s

-- each symbol of the definitions has a row
abbrev pub DefinitionsHaveRows : List ℕ → List Definition → Type 0
DefinitionsHaveRows b D = (d : Definition) → Contains D d → HaveRows b (symbols_of d)

-- a member is related to a member of the other list
pub zip_source : {A X : Type 0} (R : A → X → Type 0) (keys : List A) (xs : List X) (x : X) → AllZip R keys xs → Contains xs x → (a : A) × Contains keys a × R a x
zip_source R [] [] x h c = absurd (Contains-nil x c)
zip_source R [] (y ∷ ys) x h c = absurd h
zip_source R (a ∷ keys) [] x h c = absurd h
zip_source {A} R (a ∷ keys) (y ∷ ys) x h c = elim (Contains-cons_cases y x ys c) [
  | inl e ↦ (a, Contains-first a keys, subst (R a) e h.0)
  | inr l ↦ let s = zip_source R keys ys x h.1 l in (s.0, Contains-later a s.0 keys s.1, s.2)
]

module _ (b : List ℕ) where
  -- the types of a list have rows
  list_rows : (o : ℕ) (ts : List Text) → OrNone TypeListAt [] b o ts → (t : Text) → Contains ts t → (i : ℕ) × TypeRow b i t
  list_rows o ts (inl h) t c = absurd (Contains-nil t (subst (λ (us : List Text). Contains us t) h.1 c))
  list_rows o ts (inr h) t c = let s = zip_source (TypeRow b) (type_indices b o) ts t h.1.types c in (s.0, s.2)

  -- the types of a proto have rows
  proto_type_rows : (i : ℕ) (p : Proto) → ProtoRow b i p → (t : Text) → Contains (proto_types p) t → (i : ℕ) × TypeRow b i t
  proto_type_rows i p h t c = elim (Contains-cons_cases p.return_type t p.parameters c) [
    | inl e ↦ (uint_at b (row_at b ProtoIds i + 4), subst (TypeRow b (uint_at b (row_at b ProtoIds i + 4))) e h.return_type)
    | inr l ↦ list_rows (uint_at b (row_at b ProtoIds i + 8)) p.parameters h.parameters t l
  ]

  -- a type that a symbol with a row names has a row
  pub type_rows : (s : Symbol) → HasRow b s → (t : Text) → Contains (types_in s) t → (i : ℕ) × TypeRow b i t
  type_rows (TextSymbol s) h t c = absurd (Contains-nil t c)
  type_rows (TypeSymbol s) (i, h) t c = elim (Contains-cons_cases s t [] c) [ inl e ↦ (i, subst (TypeRow b i) e h) | inr l ↦ absurd (Contains-nil t l) ]
  type_rows (ProtoSymbol p) (i, h) t c = proto_type_rows i p h t c
  type_rows (FieldSymbol f) (i, h) t c = elim (Contains-cons_cases f.class t (f.type ∷ []) c) [
    | inl e ↦ (ushort_at b (row_at b FieldIds i), subst (TypeRow b (ushort_at b (row_at b FieldIds i))) e h.class)
    | inr l ↦ elim (Contains-cons_cases f.type t [] l) [
      | inl e ↦ (ushort_at b (row_at b FieldIds i + 2), subst (TypeRow b (ushort_at b (row_at b FieldIds i + 2))) e h.type)
      | inr m ↦ absurd (Contains-nil t m)
    ]
  ]
  type_rows (MethodSymbol m) (i, h) t c = elim (Contains-cons_cases m.class t (proto_types m.proto) c) [
    | inl e ↦ (ushort_at b (row_at b MethodIds i), subst (TypeRow b (ushort_at b (row_at b MethodIds i))) e h.class)
    | inr l ↦ proto_type_rows (ushort_at b (row_at b MethodIds i + 2)) m.proto h.proto t l
  ]

  -- the row of a type has the row of its text
  text_of_type : (t : Text) → (i : ℕ) × TypeRow b i t → (i : ℕ) × StringRow b i t
  text_of_type t (i, h) = (uint_at b (row_at b TypeIds i), h.text)

  -- the texts of a proto have rows
  proto_text_rows : (i : ℕ) (p : Proto) → ProtoRow b i p → (t : Text) → Contains (proto_texts p) t → (i : ℕ) × StringRow b i t
  proto_text_rows i p h t c = elim (Contains-cons_cases (shorty p.return_type p.parameters) t (proto_types p) c) [
    | inl e ↦ (uint_at b (row_at b ProtoIds i), subst (StringRow b (uint_at b (row_at b ProtoIds i))) e h.shorty)
    | inr l ↦ text_of_type t (proto_type_rows i p h t l)
  ]

  -- a text that a symbol with a row mentions has a row
  pub text_rows : (s : Symbol) → HasRow b s → (t : Text) → Contains (texts_in s) t → (i : ℕ) × StringRow b i t
  text_rows (TextSymbol s) (i, h) t c = elim (Contains-cons_cases s t [] c) [ inl e ↦ (i, subst (StringRow b i) e h) | inr l ↦ absurd (Contains-nil t l) ]
  text_rows (TypeSymbol s) h t c = text_of_type t (type_rows (TypeSymbol s) h t c)
  text_rows (ProtoSymbol p) (i, h) t c = proto_text_rows i p h t c
  text_rows (FieldSymbol f) (i, h) t c = elim (Contains-cons_cases f.class t (f.name ∷ f.type ∷ []) c) [
    | inl e ↦ text_of_type t (type_rows (FieldSymbol f) (i, h) t (subst (Contains (f.class ∷ f.type ∷ [])) e (Contains-first f.class (f.type ∷ []))))
    | inr l ↦ elim (Contains-cons_cases f.name t (f.type ∷ []) l) [
      | inl e ↦ (uint_at b (row_at b FieldIds i + 4), subst (StringRow b (uint_at b (row_at b FieldIds i + 4))) e h.name)
      | inr m ↦ text_of_type t (type_rows (FieldSymbol f) (i, h) t (Contains-later f.class t (f.type ∷ []) m))
    ]
  ]
  text_rows (MethodSymbol m) (i, h) t c = elim (Contains-cons_cases m.class t (m.name ∷ proto_texts m.proto) c) [
    | inl e ↦ text_of_type t (ushort_at b (row_at b MethodIds i), subst (TypeRow b (ushort_at b (row_at b MethodIds i))) e h.class)
    | inr l ↦ elim (Contains-cons_cases m.name t (proto_texts m.proto) l) [
      | inl e ↦ (uint_at b (row_at b MethodIds i + 4), subst (StringRow b (uint_at b (row_at b MethodIds i + 4))) e h.name)
      | inr k ↦ proto_text_rows (ushort_at b (row_at b MethodIds i + 2)) m.proto h.proto t k
    ]
  ]

  -- the proto of a symbol with a row has a row
  proto_rows : (s : Symbol) → HasRow b s → (p : Proto) → Contains (protos_in s) p → (i : ℕ) × ProtoRow b i p
  proto_rows (ProtoSymbol q) (i, h) p c = elim (Contains-cons_cases q p [] c) [ inl e ↦ (i, subst (ProtoRow b i) e h) | inr l ↦ absurd (Contains-nil p l) ]
  proto_rows (MethodSymbol m) (i, h) p c = elim (Contains-cons_cases m.proto p [] c) [
    | inl e ↦ (ushort_at b (row_at b MethodIds i + 2), subst (ProtoRow b (ushort_at b (row_at b MethodIds i + 2))) e h.proto)
    | inr l ↦ absurd (Contains-nil p l)
  ]
  proto_rows _ h p c = absurd (Contains-nil p c)

  -- the field of a symbol with a row has a row
  field_rows : (s : Symbol) → HasRow b s → (f : Field) → Contains (fields_in s) f → (i : ℕ) × FieldRow b i f
  field_rows (FieldSymbol g) (i, h) f c = elim (Contains-cons_cases g f [] c) [ inl e ↦ (i, subst (FieldRow b i) e h) | inr l ↦ absurd (Contains-nil f l) ]
  field_rows _ h f c = absurd (Contains-nil f c)

  -- the method of a symbol with a row has a row
  method_rows : (s : Symbol) → HasRow b s → (m : Method) → Contains (methods_in s) m → (i : ℕ) × MethodRow b i m
  method_rows (MethodSymbol n) (i, h) m c = elim (Contains-cons_cases n m [] c) [ inl e ↦ (i, subst (MethodRow b i) e h) | inr l ↦ absurd (Contains-nil m l) ]
  method_rows _ h m c = absurd (Contains-nil m c)

  -- ---- mentioned symbols

  module _ (D : List Definition) (rows : DefinitionsHaveRows b D) where
    -- a symbol that occurs has a row
    occurring : {X : Type 0} (parts : Symbol → List X) (x : X) (w : Occurs parts D x) → HasRow b w.symbol
    occurring parts x w = rows w.definition w.member w.symbol w.occurs

    -- a text that is mentioned has a row
    text_mentioned : (t : Text) → Contains (mentions D).texts t → (i : ℕ) × StringRow b i t
    text_mentioned t c = let w = texts-source D t c in text_rows w.symbol (occurring texts_in t w) t w.part

    -- at most as many types are mentioned as there are rows
    few_types : length (mentions D).types ≤ table_size b TypeIds
    few_types =
        no_more (TypeRow b) (one_type b) (table_size b TypeIds) (mentions D).types (AreDistinct-from_Rises text_cmp text_total (mentions D).types (mentions-rising D).types)
        (λ t c. let w = types-source D t c in let r = type_rows w.symbol (occurring types_in t w) t w.part in (r.0, r.1.row, r.1))

    -- at most as many protos
    few_protos : length (mentions D).protos ≤ table_size b ProtoIds
    few_protos =
        no_more (ProtoRow b) (one_proto b) (table_size b ProtoIds) (mentions D).protos (AreDistinct-from_Rises proto_cmp proto_total (mentions D).protos (mentions-rising D).protos)
        (λ p c. let w = protos-source D p c in let r = proto_rows w.symbol (occurring protos_in p w) p w.part in (r.0, r.1.row, r.1))

    -- at most as many fields
    few_fields : length (mentions D).fields ≤ table_size b FieldIds
    few_fields =
        no_more (FieldRow b) (one_field b) (table_size b FieldIds) (mentions D).fields (AreDistinct-from_Rises field_cmp field_total (mentions D).fields (mentions-rising D).fields)
        (λ f c. let w = fields-source D f c in let r = field_rows w.symbol (occurring fields_in f w) f w.part in (r.0, r.1.row, r.1))

    -- at most as many methods
    few_methods : length (mentions D).methods ≤ table_size b MethodIds
    few_methods =
        no_more (MethodRow b) (one_method b) (table_size b MethodIds) (mentions D).methods (AreDistinct-from_Rises method_cmp method_total (mentions D).methods (mentions-rising D).methods)
        (λ m c. let w = methods-source D m c in let r = method_rows w.symbol (occurring methods_in m w) m w.part in (r.0, r.1.row, r.1))

    -- the rank of a text is at most its row
    rank_row : (strings : AreStrings b) (s : Text) (i : ℕ) → StringRow b i s → rank text_cmp s (mentions D).texts ≤ i
    rank_row strings s i h =
        passing (StringRow b) (one_string b) i (λ t. is_lt (text_cmp t s)) (mentions D).texts (AreDistinct-from_Rises text_cmp text_total (mentions D).texts (mentions-rising D).texts)
        (λ t c e. let r = text_mentioned t c in (r.0, string_before b strings r.0 i t s (less_is (text_cmp t s) e) r.1 h, r.1))

    -- definitions that have rows fit
    pub rows_fit : HasLayout b → AreStrings b → ((s : Text) → HasShortString D s → (i : ℕ) × (i < 65536) × StringRow b i s) → ((E : List Definition) → AreDistinct E → AreWithin E D → weight E ≤ most_weight) → Fits greatest_caps D
    rows_fit layout strings short light = record {
      types = omega (arith, few_types, layout.few TypeIds);
      protos = omega (arith, few_protos, layout.few ProtoIds);
      fields = omega (arith, few_fields, layout.few FieldIds);
      methods = omega (arith, few_methods, layout.few MethodIds);
      short_strings = λ s h. let r = short s h in omega (arith, rank_row strings s r.0 r.2, r.1);
      weight = light;
    }
