-- Class rows that were checked, and the file whose rows they are.
use Rattle.dexclass.proofs.Common.{◌≡◌, ℕ, ◌+◌, ◌-◌, ◌*◌, ◌^◌, ◌<◌, ◌≤◌, min, List, [], ◌∷◌, ◌++◌, length, refl, sym, ap, ◌∙◌, arith, length-range_with_len, range_with_len, ClassDefs, table_size, Definition, class_idx, interfaces_off, Collection, definitions, Mentions, mentions_weight, most_weight, Condition, HoldBelow, IsReadable, AreRows, IsRefused, length-among, has_classes, denoted_rows, ArePools, below_more, get_or, subst, Contains, Contains-get_or, ushort_at, Proto, Field, Method, Symbol, ProtoSymbol, FieldSymbol, MethodSymbol, StringIds, TypeIds, ProtoIds, FieldIds, MethodIds, row_at, StringRow, TypeRow, ProtoRow, FieldRow, MethodRow, mentions, texts_in, types_in, protos_in, fields_in, methods_in, Contains-nil, AreMentioned, mentions-rising, mentions_weight-among, one_string, one_type, one_proto, one_field, one_method, row_of, AreReadable, AreAll, type_at}
use Rattle.std.proofs.lemmas.Slice.Zip.{AllZip-long}
use Rattle.dexspec.proofs.merge.Collections.{definitions-distinct}
use Rattle.dexspec.proofs.determined.OneCollection.{one_collection}
use Rattle.dexmembers.specs.Checking.{HasMembersOf}
use Rattle.dexids.specs.Reading.{listed}
use Rattle.dexclass.specs.{IsReadAs, HaveBodiesOf, IsCheckedAs}
use Rattle.dexclass.proofs.RowClasses.{row_body, row_weight, row_encoded}
use Rattle.dexclass.proofs.RowsBelow.{IsRow, weight_is, bodies_more, rows_more, rows_distinct, heavy_row, light_accepted}
use Rattle.dexclass.proofs.RowFaults.{heavy_refused}
use Rattle.dexspec.proofs.merge.MentionMembers.{Occurs, one_member, texts-source, types-source, protos-source, fields-source, methods-source}
use Rattle.dexspec.proofs.wellformed.Fitting.{HasRow, DefinitionsHaveRows, type_rows, text_rows}
use Rattle.dexspec.proofs.wellformed.SymbolRows.{row_symbols}

-- what a row is, is one of a pool
in_pool : {X : Type 0} (Row : List ℕ → ℕ → X → Type 0) (b : List ℕ) (one : (i : ℕ) (x y : X) → Row b i x → Row b i y → x ≡ y) (n : ℕ) (xs : List X) → AreAll Row b n xs → (x : X) (i : ℕ) → i < n → Row b i x → Contains xs x
in_pool Row b one n xs all x i lt row = subst (Contains xs) (one i (get_or xs i x) x (all.each i x lt) row) (Contains-get_or xs i x (omega (arith, lt, all.count)))

module _ (b : List ℕ) (m : Mentions) (pools : ArePools b m) where
  -- the parts of a symbol that has a row
  proto_in_pool : (s : Symbol) → HasRow b s → (p : Proto) → Contains (protos_in s) p → Contains m.protos p
  proto_in_pool (ProtoSymbol q) (i, h) p c = subst (Contains m.protos) (one_member q p c) (in_pool ProtoRow b (one_proto b) (table_size b ProtoIds) m.protos pools.protos_are q i h.row h)
  proto_in_pool (MethodSymbol x) (i, h) p c =
      subst (Contains m.protos) (one_member x.proto p c) (in_pool ProtoRow b (one_proto b) (table_size b ProtoIds) m.protos pools.protos_are x.proto (ushort_at b (row_at b MethodIds i + 2)) h.proto.row h.proto)
  proto_in_pool _ h p c = absurd (Contains-nil p c)

  field_in_pool : (s : Symbol) → HasRow b s → (f : Field) → Contains (fields_in s) f → Contains m.fields f
  field_in_pool (FieldSymbol g) (i, h) f c = subst (Contains m.fields) (one_member g f c) (in_pool FieldRow b (one_field b) (table_size b FieldIds) m.fields pools.fields_are g i h.row h)
  field_in_pool _ h f c = absurd (Contains-nil f c)

  method_in_pool : (s : Symbol) → HasRow b s → (x : Method) → Contains (methods_in s) x → Contains m.methods x
  method_in_pool (MethodSymbol y) (i, h) x c = subst (Contains m.methods) (one_member y x c) (in_pool MethodRow b (one_method b) (table_size b MethodIds) m.methods pools.methods_are y i h.row h)
  method_in_pool _ h x c = absurd (Contains-nil x c)

  module _ (D : List Definition) (have : DefinitionsHaveRows b D) where
    -- a symbol that occurs has a row
    row_for : {X : Type 0} (parts : Symbol → List X) (x : X) (w : Occurs parts D x) → HasRow b w.symbol
    row_for parts x w = have w.definition w.member w.symbol w.occurs

    mentioned_in_pools : AreMentioned (mentions D) m
    mentioned_in_pools = record {
      texts = λ t c. let w = texts-source D t c in let r = text_rows b w.symbol (row_for texts_in t w) t w.part in in_pool StringRow b (one_string b) (table_size b StringIds) m.texts pools.texts_are t r.0 r.1.row r.1;
      types = λ t c. let w = types-source D t c in let r = type_rows b w.symbol (row_for types_in t w) t w.part in in_pool TypeRow b (one_type b) (table_size b TypeIds) m.types pools.types_are t r.0 r.1.row r.1;
      protos = λ p c. let w = protos-source D p c in proto_in_pool w.symbol (row_for protos_in p w) p w.part;
      fields = λ f c. let w = fields-source D f c in field_in_pool w.symbol (row_for fields_in f w) f w.part;
      methods = λ x c. let w = methods-source D x c in method_in_pool w.symbol (row_for methods_in x w) x w.part;
    }

  -- what readable rows mention weighs no more than the pools
  pub mentions_light : HoldBelow 17 b → (D : List Definition) → AreReadable b → AreRows b (table_size b ClassDefs) D → mentions_weight (mentions D) ≤ mentions_weight m
  mentions_light h D readable rows =
      let have : DefinitionsHaveRows b D = λ d c. let s = row_of (IsRow b) (table_size b ClassDefs) 0 D rows d c in row_symbols b (has_classes b h).few s.0 d.0 d.1 s.3 (readable s.0 (omega (arith, s.2))).members in
      mentions_weight-among (mentions D) m (mentions-rising D) (mentioned_in_pools D have)

-- no row yet
pub no_bodies : (b : List ℕ) → HaveBodiesOf b 0 0
no_bodies b = record { definitions = []; readable = λ k lt. absurd (omega (arith, lt)); rows = tt; weighs = refl; light = omega arith }

module _ (b : List ℕ) (m : Mentions) (pools : ArePools b m) (h : HoldBelow 17 b) (r : ℕ) (lt : r < table_size b ClassDefs) (before members new : ℕ) (old : HaveBodiesOf b r before) (is : HasMembersOf b r members)
    (more : new ≡ min (2 ^ 64 - 1) (min (2 ^ 64 - 1) (before + (96 + 2 * length (listed b (interfaces_off b r)))) + members)) where
  -- the definition of the row
  abbrev here : Definition
  here = (type_at m (class_idx b r), row_body b m r is.members)

  row_here : IsRow b r here
  row_here = row_encoded b m pools r is.members lt (h Condition.Classes (omega arith) r lt) is.row

  -- with it they weigh too much
  pub checked_heavy : most_weight < new → IsRefused b 23 r
  checked_heavy heavy =
      heavy_refused b r (heavy_row b h r old.definitions here lt old.readable old.rows is.readable row_here
      (omega (arith, heavy, more, old.weighs, is.weight_is, row_weight b m r is.members)))

  -- they do not
  pub checked_more : new ≤ most_weight → HaveBodiesOf b (r + 1) new
  checked_more light = record {
    definitions = old.definitions ++ here ∷ [];
    readable = below_more (IsReadable b) r old.readable is.readable;
    rows = rows_more b r old.definitions here old.rows row_here;
    weighs = omega (arith, light, more, old.weighs, is.weight_is, row_weight b m r is.members, bodies_more old.definitions here);
    light = light;
  }

-- a file of which all rows were checked
pub all_checked : (b : List ℕ) (m : Mentions) → ArePools b m → HoldBelow 17 b → (bodies : ℕ) → HaveBodiesOf b (table_size b ClassDefs) bodies → 1024 + mentions_weight m + bodies ≤ most_weight → IsCheckedAs b (table_size b ClassDefs)
all_checked b m pools h bodies are light =
    let D = are.definitions in
    let classes = has_classes b h in
    record {
      accepted = light_accepted b h D are.readable are.rows (omega (arith, light, are.weighs, weight_is D, mentions_light b m pools h D are.readable are.rows));
      counted = λ K denotes.
          let same = denoted_rows b classes D are.rows K denotes in
          omega (arith, length-among (definitions K) D (definitions-distinct K) (λ d c. (same d).0 c), length-among D (definitions K) (rows_distinct b classes (table_size b ClassDefs) D are.rows) (λ d c. (same d).1 c), AllZip-long (IsRow b) (range_with_len 0 (table_size b ClassDefs)) D are.rows, length-range_with_len 0 (table_size b ClassDefs));
    }

-- a file that was read
pub read_checked : (b : List ℕ) (K : Collection) (count : ℕ) → IsReadAs b K → count ≡ length (definitions K) → IsCheckedAs b count
read_checked b K count is many = record { accepted = is.accepted; counted = λ L denotes. ap (λ (J : Collection). length (definitions J)) (one_collection b L K denotes is.denotes) ∙ sym many }
