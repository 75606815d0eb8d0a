-- The rows of protos, fields and methods are in the order of their symbols.
use Rattle.dexspec.proofs.Common.{◌≡◌, ℕ, ◌+◌, ◌<◌, true, List, [], ◌∷◌, refl, ap, subst, inl, inr, Ordering, Less, Equal, Greater, if◌then◌else◌, ◌==◌, AllZip, nat_cmp, ordering_then, IsTotalOrder, slice_cmp, ne_eqb, tied_itself}
use Rattle.std.specs.FinMap.{nat_cmp-IsAntisymmetric}
use Rattle.dexspec.specs.{OrNone, uint_at, ushort_at, Text, text_cmp, Proto, Field, Method, proto_cmp, field_cmp, method_cmp, ProtoIds, FieldIds, MethodIds, table_size, row_at, StringRow, TypeRow, type_indices, TypeListAt, ProtoRow, FieldRow, MethodRow, HasProto, HasField, HasMethod}
use Rattle.dexspec.proofs.merge.SymbolOrders.{text_total, proto_total, field_total, method_total}
use Rattle.dexspec.proofs.determined.OneRow.{one_string, one_type, one_proto, one_field, one_method}
use Rattle.dexspec.proofs.wellformed.PoolRows.{AreStrings, AreTypes, rows_rise, first_less, less_number, strings_rise, types_rise}

-- ---- keys

-- an order that another order implies, if it decides
record Follow (r s : Ordering) : Type 0 where
  less : r ≡ Less → s ≡ Less
  equal : r ≡ Equal → s ≡ Equal

-- the first order decides, or the second
then_less : (r s x y : Ordering) → Follow r x → (s ≡ Less → y ≡ Less) → ordering_then r s ≡ Less → ordering_then x y ≡ Less
then_less Less s x y f g e = rw (f.less refl) refl
then_less Equal s x y f g e = rw (f.equal refl) (g e)
then_less Greater s x y f g e = absurd cc

-- values are in the order of their rows' indices
follow : {X : Type 0} (R : X → X → Ordering) (o : IsTotalOrder R) (Row : ℕ → X → Type 0) → ((i : ℕ) (x y : X) → Row i x → Row i y → x ≡ y) → ((i j : ℕ) (x y : X) → i < j → Row i x → Row j y → R x y ≡ Less)
    → (i j : ℕ) (x y : X) → Row i x → Row j y → Follow (nat_cmp i j) (R x y)
follow {X} R o Row one rise i j x y h g = record {
  less = λ e. rise i j x y (less_number i j e) h g;
  equal = λ e.
      let same : x ≡ y = one j x y (subst (λ (k : ℕ). Row k x) (nat_cmp-IsAntisymmetric i j e) h) g in
      subst (λ (z : X). R x z ≡ Equal) same (tied_itself o x);
}

-- each row of protos denotes a proto, in order
abbrev pub AreProtos : List ℕ → Type 0
AreProtos b = (i : ℕ) → i < table_size b ProtoIds → HasProto b i

-- each row of fields
abbrev pub AreFields : List ℕ → Type 0
AreFields b = (i : ℕ) → i < table_size b FieldIds → HasField b i

-- each row of methods
abbrev pub AreMethods : List ℕ → Type 0
AreMethods b = (i : ℕ) → i < table_size b MethodIds → HasMethod b i

module _ (b : List ℕ) (strings : AreStrings b) (types : AreTypes b) where
  -- texts are in the order of their string indices
  texts_follow : (i j : ℕ) (s t : Text) → StringRow b i s → StringRow b j t → Follow (nat_cmp i j) (text_cmp s t)
  texts_follow = follow text_cmp text_total (StringRow b) (one_string b) (strings_rise b strings)

  -- types are in the order of their type indices
  types_follow : (i j : ℕ) (s t : Text) → TypeRow b i s → TypeRow b j t → Follow (nat_cmp i j) (text_cmp s t)
  types_follow = follow text_cmp text_total (TypeRow b) (one_type b) (types_rise b strings types)

  -- ---- protos

  -- lists of types are in the order of their lists of indices
  lists_less : (is js : List ℕ) (ts us : List Text) → AllZip (TypeRow b) is ts → AllZip (TypeRow b) js us → slice_cmp nat_cmp is js ≡ Less → slice_cmp text_cmp ts us ≡ Less
  lists_less [] [] ts us h g e = absurd cc
  lists_less [] (j ∷ js) [] [] h g e = absurd g
  lists_less [] (j ∷ js) [] (u ∷ us) h g e = refl
  lists_less [] (j ∷ js) (t ∷ ts) us h g e = absurd h
  lists_less (i ∷ is) [] ts us h g e = absurd cc
  lists_less (i ∷ is) (j ∷ js) [] us h g e = absurd h
  lists_less (i ∷ is) (j ∷ js) (t ∷ ts) [] h g e = absurd g
  lists_less (i ∷ is) (j ∷ js) (t ∷ ts) (u ∷ us) h g e =
      then_less (nat_cmp i j) (slice_cmp nat_cmp is js) (text_cmp t u) (slice_cmp text_cmp ts us) (types_follow i j t u h.0 g.0) (lists_less is js ts us h.1 g.1) e

  -- the indices of parameters
  abbrev parameter_indices : ℕ → List ℕ
  parameter_indices o = if o == 0 then [] else type_indices b o

  -- they are those of the parameters
  parameters_are : (o : ℕ) (ts : List Text) → OrNone TypeListAt [] b o ts → AllZip (TypeRow b) (parameter_indices o) ts
  parameters_are o ts (inl h) =
      let e : (o == 0) ≡ true = ap (λ (x : ℕ). x == 0) h.0 in
      rw (e, h.1) tt
  parameters_are o ts (inr h) = rw (ne_eqb o 0 h.0) h.1.types

  -- protos are in the order of their keys
  proto_next : (i j : ℕ) (p q : Proto) → ProtoRow b i p → ProtoRow b j q
      → ordering_then (nat_cmp (uint_at b (row_at b ProtoIds i + 4)) (uint_at b (row_at b ProtoIds j + 4))) (slice_cmp nat_cmp (parameter_indices (uint_at b (row_at b ProtoIds i + 8))) (parameter_indices (uint_at b (row_at b ProtoIds j + 8)))) ≡ Less
      → proto_cmp p q ≡ Less
  proto_next i j p q h g e =
      let x = uint_at b (row_at b ProtoIds i + 4) in
      let y = uint_at b (row_at b ProtoIds j + 4) in
      let xs = parameter_indices (uint_at b (row_at b ProtoIds i + 8)) in
      let ys = parameter_indices (uint_at b (row_at b ProtoIds j + 8)) in
      then_less (nat_cmp x y) (slice_cmp nat_cmp xs ys) (text_cmp p.return_type q.return_type) (slice_cmp text_cmp p.parameters q.parameters)
      (types_follow x y p.return_type q.return_type h.return_type g.return_type)
      (lists_less xs ys p.parameters q.parameters (parameters_are (uint_at b (row_at b ProtoIds i + 8)) p.parameters h.parameters) (parameters_are (uint_at b (row_at b ProtoIds j + 8)) q.parameters g.parameters)) e

  -- a later proto is greater
  pub protos_rise : AreProtos b → (i j : ℕ) (p q : Proto) → i < j → ProtoRow b i p → ProtoRow b j q → proto_cmp p q ≡ Less
  protos_rise protos i j p q lt h g =
      rows_rise proto_cmp proto_total (ProtoRow b) (one_proto b) (table_size b ProtoIds) (λ k less.
      let w = protos k less in record { value = w.item; is = w.is; follows = λ l before e row. proto_next l k before w.item row w.is (w.follows l e) }) j i p q lt g.row h g

  -- protos are in the order of their indices
  protos_follow : AreProtos b → (i j : ℕ) (p q : Proto) → ProtoRow b i p → ProtoRow b j q → Follow (nat_cmp i j) (proto_cmp p q)
  protos_follow protos = follow proto_cmp proto_total (ProtoRow b) (one_proto b) (protos_rise protos)

  -- ---- fields and methods

  -- fields are in the order of their keys
  field_next : (i j : ℕ) (f g : Field) → FieldRow b i f → FieldRow b j g
      → ordering_then (nat_cmp (ushort_at b (row_at b FieldIds i)) (ushort_at b (row_at b FieldIds j)))
      (ordering_then (nat_cmp (uint_at b (row_at b FieldIds i + 4)) (uint_at b (row_at b FieldIds j + 4))) (ordering_then (nat_cmp (ushort_at b (row_at b FieldIds i + 2)) (ushort_at b (row_at b FieldIds j + 2))) Equal)) ≡ Less
      → field_cmp f g ≡ Less
  field_next i j f g h k e =
      let c = ushort_at b (row_at b FieldIds i) in
      let d = ushort_at b (row_at b FieldIds j) in
      let m = uint_at b (row_at b FieldIds i + 4) in
      let n = uint_at b (row_at b FieldIds j + 4) in
      let s = ushort_at b (row_at b FieldIds i + 2) in
      let t = ushort_at b (row_at b FieldIds j + 2) in
      then_less (nat_cmp c d) (ordering_then (nat_cmp m n) (ordering_then (nat_cmp s t) Equal)) (text_cmp f.class g.class) (ordering_then (text_cmp f.name g.name) (text_cmp f.type g.type))
      (types_follow c d f.class g.class h.class k.class)
      (then_less (nat_cmp m n) (ordering_then (nat_cmp s t) Equal) (text_cmp f.name g.name) (text_cmp f.type g.type) (texts_follow m n f.name g.name h.name k.name)
      (λ r. (types_follow s t f.type g.type h.type k.type).less (first_less (nat_cmp s t) r))) e

  -- a later field is greater
  pub fields_rise : AreFields b → (i j : ℕ) (f g : Field) → i < j → FieldRow b i f → FieldRow b j g → field_cmp f g ≡ Less
  fields_rise fields i j f g lt h k =
      rows_rise field_cmp field_total (FieldRow b) (one_field b) (table_size b FieldIds) (λ l less.
      let w = fields l less in record { value = w.item; is = w.is; follows = λ m before e row. field_next m l before w.item row w.is (w.follows m e) }) j i f g lt k.row h k

  -- methods are in the order of their keys
  method_next : AreProtos b → (i j : ℕ) (f g : Method) → MethodRow b i f → MethodRow b j g
      → ordering_then (nat_cmp (ushort_at b (row_at b MethodIds i)) (ushort_at b (row_at b MethodIds j)))
      (ordering_then (nat_cmp (uint_at b (row_at b MethodIds i + 4)) (uint_at b (row_at b MethodIds j + 4))) (ordering_then (nat_cmp (ushort_at b (row_at b MethodIds i + 2)) (ushort_at b (row_at b MethodIds j + 2))) Equal)) ≡ Less
      → method_cmp f g ≡ Less
  method_next protos i j f g h k e =
      let c = ushort_at b (row_at b MethodIds i) in
      let d = ushort_at b (row_at b MethodIds j) in
      let m = uint_at b (row_at b MethodIds i + 4) in
      let n = uint_at b (row_at b MethodIds j + 4) in
      let s = ushort_at b (row_at b MethodIds i + 2) in
      let t = ushort_at b (row_at b MethodIds j + 2) in
      then_less (nat_cmp c d) (ordering_then (nat_cmp m n) (ordering_then (nat_cmp s t) Equal)) (text_cmp f.class g.class) (ordering_then (text_cmp f.name g.name) (proto_cmp f.proto g.proto))
      (types_follow c d f.class g.class h.class k.class)
      (then_less (nat_cmp m n) (ordering_then (nat_cmp s t) Equal) (text_cmp f.name g.name) (proto_cmp f.proto g.proto) (texts_follow m n f.name g.name h.name k.name)
      (λ r. (protos_follow protos s t f.proto g.proto h.proto k.proto).less (first_less (nat_cmp s t) r))) e

  -- a later method is greater
  pub methods_rise : AreProtos b → AreMethods b → (i j : ℕ) (f g : Method) → i < j → MethodRow b i f → MethodRow b j g → method_cmp f g ≡ Less
  methods_rise protos methods i j f g lt h k =
      rows_rise method_cmp method_total (MethodRow b) (one_method b) (table_size b MethodIds) (λ l less.
      let w = methods l less in record { value = w.item; is = w.is; follows = λ m before e row. method_next protos m l before w.item row w.is (w.follows m e) }) j i f g lt k.row h k
