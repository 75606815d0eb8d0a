-- The rows of the five pools in the file of definitions: each denotes the symbol at its place, in order.
use Rattle.dexspec.proofs.Common.{◌≡◌, ℕ, ◌^◌, ◌<◌, List, length, get_or, arith, Contains}
use Rattle.dexspec.specs.{rank, Text, text_cmp, Proto, Field, Method, proto_cmp, field_cmp, method_cmp, Table, StringIds, TypeIds, ProtoIds, FieldIds, MethodIds, table_size, StringRow, TypeRow, ProtoRow, FieldRow, MethodRow, HasString, HasType, HasProto, HasField, HasMethod, Definition, mentions, table_count, ordered}
use Rattle.dexspec.proofs.determined.OneRow.{one_string, one_type, one_proto, one_field, one_method}
use Rattle.dexspec.proofs.merge.{text_total, proto_total, field_total, method_total, mentions-rising}
use Rattle.dexspec.proofs.layout.SectionPlaces.{Laid, table_few}
use Rattle.dexspec.proofs.layout.HeaderLaws.{AreFew}
use Rattle.dexspec.proofs.layout.PoolsAreAt.{ArePools, text_row, type_row, proto_row, field_row, method_row}
use Rattle.dexspec.proofs.layout.PoolsInOrder.{string_holds, type_holds, proto_holds, field_holds, method_holds}
use Rattle.dexspec.proofs.lists.RankOrder.{at_places}

-- the bytes of a file of definitions: with this layout, and with pools whose indices fit
pub record IsNormal (D : List Definition) (b : List ℕ) : Type 0 where
  pub laid : Laid (ordered D) b
  pub few : AreFew (ordered D)
  pub pools : ArePools (mentions D)

module _ (D : List Definition) (b : List ℕ) (n : IsNormal D b) where
  -- a table has at most as many rows as the file has bytes
  pub count_small : (t : Table) → table_count (ordered D) t < 2 ^ 32
  count_small t = omega (arith, table_few (ordered D) t, n.laid.data_from, n.laid.data_to, n.laid.small)

  -- ---- texts

  -- a mentioned text is at its rank
  pub string_ranked : (s : Text) → Contains (mentions D).texts s → StringRow b (rank text_cmp s (mentions D).texts) s
  string_ranked = text_row n.laid n.few n.pools

  -- row i is the i-th text
  pub string_has_row : (i : ℕ) (d : Text) → i < length (mentions D).texts → StringRow b i (get_or (mentions D).texts i d)
  string_has_row = at_places text_cmp text_total (mentions D).texts (mentions-rising D).texts (StringRow b) string_ranked

  -- and no other text
  pub only_string : (i : ℕ) (s : Text) → StringRow b i s → (i < length (mentions D).texts) × (get_or (mentions D).texts i s ≡ s)
  only_string i s h =
      let lt : i < length (mentions D).texts = omega (arith, h.row, n.laid.count StringIds) in
      (lt, one_string b i (get_or (mentions D).texts i s) s (string_has_row i s lt) h)

  -- 11 Strings
  pub has_string : (i : ℕ) → i < table_size b StringIds → HasString b i
  has_string i lt = string_holds n.laid n.few n.pools i (omega (arith, lt, n.laid.count StringIds))

  -- ---- types

  -- a mentioned type is at its rank
  pub type_ranked : (t : Text) → Contains (mentions D).types t → TypeRow b (rank text_cmp t (mentions D).types) t
  type_ranked = type_row n.laid n.few n.pools

  -- row i is the i-th type
  pub type_encoded : (i : ℕ) (d : Text) → i < length (mentions D).types → TypeRow b i (get_or (mentions D).types i d)
  type_encoded = at_places text_cmp text_total (mentions D).types (mentions-rising D).types (TypeRow b) type_ranked

  -- and no other type
  pub only_type : (i : ℕ) (t : Text) → TypeRow b i t → (i < length (mentions D).types) × (get_or (mentions D).types i t ≡ t)
  only_type i t h =
      let lt : i < length (mentions D).types = omega (arith, h.row, n.laid.count TypeIds) in
      (lt, one_type b i (get_or (mentions D).types i t) t (type_encoded i t lt) h)

  -- 12 Types
  pub has_type : (i : ℕ) → i < table_size b TypeIds → HasType b i
  has_type i lt = type_holds n.laid n.few n.pools i (omega (arith, lt, n.laid.count TypeIds))

  -- ---- protos

  -- a mentioned proto is at its rank
  pub proto_ranked : (p : Proto) → Contains (mentions D).protos p → ProtoRow b (rank proto_cmp p (mentions D).protos) p
  proto_ranked = proto_row n.laid n.few n.pools

  -- row i is the i-th proto
  pub proto_has_row : (i : ℕ) (d : Proto) → i < length (mentions D).protos → ProtoRow b i (get_or (mentions D).protos i d)
  proto_has_row = at_places proto_cmp proto_total (mentions D).protos (mentions-rising D).protos (ProtoRow b) proto_ranked

  -- and no other proto
  pub only_proto : (i : ℕ) (p : Proto) → ProtoRow b i p → (i < length (mentions D).protos) × (get_or (mentions D).protos i p ≡ p)
  only_proto i p h =
      let lt : i < length (mentions D).protos = omega (arith, h.row, n.laid.count ProtoIds) in
      (lt, one_proto b i (get_or (mentions D).protos i p) p (proto_has_row i p lt) h)

  -- 13 Protos
  pub has_proto : (i : ℕ) → i < table_size b ProtoIds → HasProto b i
  has_proto i lt = proto_holds n.laid n.few n.pools i (omega (arith, lt, n.laid.count ProtoIds))

  -- ---- fields

  -- a mentioned field is at its rank
  pub field_ranked : (f : Field) → Contains (mentions D).fields f → FieldRow b (rank field_cmp f (mentions D).fields) f
  field_ranked = field_row n.laid n.few n.pools

  -- row i is the i-th field
  pub field_has_row : (i : ℕ) (d : Field) → i < length (mentions D).fields → FieldRow b i (get_or (mentions D).fields i d)
  field_has_row = at_places field_cmp field_total (mentions D).fields (mentions-rising D).fields (FieldRow b) field_ranked

  -- and no other field
  pub only_field : (i : ℕ) (f : Field) → FieldRow b i f → (i < length (mentions D).fields) × (get_or (mentions D).fields i f ≡ f)
  only_field i f h =
      let lt : i < length (mentions D).fields = omega (arith, h.row, n.laid.count FieldIds) in
      (lt, one_field b i (get_or (mentions D).fields i f) f (field_has_row i f lt) h)

  -- 14 Fields
  pub has_field : (i : ℕ) → i < table_size b FieldIds → HasField b i
  has_field i lt = field_holds n.laid n.few n.pools i (omega (arith, lt, n.laid.count FieldIds))

  -- ---- methods

  -- a mentioned method is at its rank
  pub method_ranked : (x : Method) → Contains (mentions D).methods x → MethodRow b (rank method_cmp x (mentions D).methods) x
  method_ranked = method_row n.laid n.few n.pools

  -- row i is the i-th method
  pub method_has_row : (i : ℕ) (d : Method) → i < length (mentions D).methods → MethodRow b i (get_or (mentions D).methods i d)
  method_has_row = at_places method_cmp method_total (mentions D).methods (mentions-rising D).methods (MethodRow b) method_ranked

  -- and no other method
  pub only_method : (i : ℕ) (x : Method) → MethodRow b i x → (i < length (mentions D).methods) × (get_or (mentions D).methods i x ≡ x)
  only_method i x h =
      let lt : i < length (mentions D).methods = omega (arith, h.row, n.laid.count MethodIds) in
      (lt, one_method b i (get_or (mentions D).methods i x) x (method_has_row i x lt) h)

  -- 15 Methods
  pub has_method : (i : ℕ) → i < table_size b MethodIds → HasMethod b i
  has_method i lt = method_holds n.laid n.few n.pools i (omega (arith, lt, n.laid.count MethodIds))
