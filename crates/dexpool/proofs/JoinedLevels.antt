-- The rows of all parts, renumbered and joined, one kind of symbol after the other.
use Rattle.dexpool.proofs.Common.{◌≡◌, ℕ, ◌<◌, true, List, [], ◌∷◌, length, map, refl, sym, ap, ◌∙◌, subst, All, AllZip, flat_map, ordering_then, nat_cmp, IsTotalOrder, slice_cmp, IsAntisymmetric, Ordering, map-id, All-map, rises, Text, text_cmp, Mentions, rises-in_order, text_total, text_exact, proto_total, proto_exact, field_total, field_exact, method_total, method_exact, row_cmp, IsJoin, ProtoNumbers, FieldRow, MethodRow, ProtoEntry, text_of, type_of, proto_of, field_of, method_of, type_cmp, field_key, method_key, IsNumbering, numbers_of, numbers_in, HasSpans, IsFieldWithin, IsMethodWithin, IsUnion, Denote, AreJoinedTexts, AreJoinedTypes, AreJoinedProtos, AreJoinedFields, AreJoinedMethods, proto_of_row, IsRowOf}
use Rattle.dexspec.specs.Symbols as symbols
use Rattle.dexrows.specs.declared.types.TypeRow.{TypeRow}
use Rattle.dexpool.specs.declared.renumbering.Protos.{Protos}
use Rattle.dexids.specs.Tables.{proto_cmp}
use Rattle.dexpool.proofs.Moved.{entries_of}
use Rattle.dexpool.proofs.NumberOrder as order
use Rattle.dexpool.proofs.NumberOrder.{slices-map}
use Rattle.dexpool.proofs.Pairs.{map_both}
use Rattle.dexpool.proofs.Unions.{joined_within, union}

-- a union rises
pub union_rises : {P X : Type 0} (of : P → List X) (R : X → X → Ordering) (o : IsTotalOrder R) (exact : IsAntisymmetric R) (parts : List P) (joined : List X) (images : List (List ℕ)) → IsUnion of R parts joined images → rises R joined ≡ true
union_rises of R o exact parts joined images u = ap (rises R) u.all ∙ rises-in_order R o exact (flat_map of parts)

-- a table of the same symbols
same_union : {P X : Type 0} (of : P → List X) (R : X → X → Ordering) (parts : List P) (xs ys : List X) (images : List (List ℕ)) → xs ≡ ys → IsUnion of R parts xs images → IsUnion of R parts ys images
same_union of R parts xs ys images e u = subst (λ zs. IsUnion of R parts zs images) e u

module _ (parts : List Mentions) (numberings : All IsNumbering parts) where
  -- ---- texts

  texts_of_parts : (ms : List Mentions) → AllZip (λ (part : Mentions) rows. Denote (λ (t : Text). t) (λ (t : Text). Unit {0}) part.texts rows) ms (map (λ (m : Mentions). m.texts) ms)
  texts_of_parts [] = tt
  texts_of_parts (m ∷ ms) = (record { same = map-id m.texts; within = λ k d lt. tt }, texts_of_parts ms)

  pub texts_joined : (joined : List Text) (images : List (List ℕ)) → IsJoin (λ (t : Text). t) (map (λ (m : Mentions). m.texts) parts) joined images → AreJoinedTexts parts joined images
  texts_joined joined images j = same_union (λ (m : Mentions). m.texts) text_cmp parts (map (λ (t : Text). t) joined) joined images (map-id joined)
      (union (λ (t : Text). t) (λ (t : Text). t) (λ (t : Text). Unit {0}) text_cmp text_total text_exact (λ x y p q. refl) (λ (m : Mentions). m.texts) parts (map (λ (m : Mentions). m.texts) parts) (texts_of_parts parts) joined images j)

  module _ (texts : List Text) (strings : List (List ℕ)) (jt : AreJoinedTexts parts texts strings) where
    pub texts_rise : rises text_cmp texts ≡ true
    texts_rise = union_rises (λ (m : Mentions). m.texts) text_cmp text_total text_exact parts texts strings jt

    -- ---- types

    module _ (rows : List (List TypeRow)) (are_encoded : AllZip (λ (part : Mentions) xs. Denote (λ (row : TypeRow). text_of texts row.descriptor) (λ (row : TypeRow). row.descriptor < length texts) part.types xs) parts rows) where
      pub types_joined : (joined : List TypeRow) (images : List (List ℕ)) (numbers : List ℕ) → IsJoin (λ (row : TypeRow). row.descriptor ∷ []) rows joined images → numbers ≡ map (λ (row : TypeRow). row.descriptor) joined → AreJoinedTypes parts texts numbers images
      types_joined joined images numbers j is =
          let u = union (λ (row : TypeRow). row.descriptor ∷ []) (λ (row : TypeRow). text_of texts row.descriptor) (λ (row : TypeRow). row.descriptor < length texts) text_cmp text_total text_exact
          (λ x y p q. order.type_rows_agree texts texts_rise x.descriptor y.descriptor p q) (λ (m : Mentions). m.types) parts rows are_encoded joined images j in
          let w = joined_within (λ (row : TypeRow). row.descriptor ∷ []) (λ (row : TypeRow). text_of texts row.descriptor) (λ (row : TypeRow). row.descriptor < length texts) text_cmp text_total text_exact
          (λ x y p q. order.type_rows_agree texts texts_rise x.descriptor y.descriptor p q) (λ (m : Mentions). m.types) parts rows are_encoded joined images j in
          record {
            union = same_union (λ (m : Mentions). m.types) text_cmp parts (map (λ (row : TypeRow). text_of texts row.descriptor) joined) (map (text_of texts) numbers) images
                (sym (ap (map (text_of texts)) is ∙ map_both (λ (row : TypeRow). row.descriptor) (text_of texts) (λ (row : TypeRow). text_of texts row.descriptor) joined (λ k d lt. refl))) u;
            within = subst (All (λ n. n < length texts)) (sym is) (All-map (λ n. n < length texts) (λ (row : TypeRow). row.descriptor) joined w);
          }

    module _ (types : List ℕ) (type_images : List (List ℕ)) (jy : AreJoinedTypes parts texts types type_images) where
      pub type_texts_rise : rises text_cmp (map (text_of texts) types) ≡ true
      type_texts_rise = union_rises (λ (m : Mentions). m.types) text_cmp text_total text_exact parts (map (text_of texts) types) type_images jy.union

      pub types_rise : rises type_cmp types ≡ true
      types_rise = order.types_rise_equally texts texts_rise types jy.within ∙ type_texts_rise

      types_agree : (m n : ℕ) → m < length types → n < length types → nat_cmp m n ≡ text_cmp (type_of texts types m) (type_of texts types n)
      types_agree = order.types_agree texts texts_rise types jy.within types_rise

      -- ---- protos

      rows_agree : (x y : ProtoNumbers) → IsRowOf texts types x → IsRowOf texts types y → row_cmp (λ (row : ProtoNumbers). row.return_type ∷ row.parameters) x y ≡ symbols.proto_cmp (proto_of_row texts types x) (proto_of_row texts types y)
      rows_agree x y p q =
          let r : slice_cmp nat_cmp x.parameters y.parameters ≡ slice_cmp text_cmp (map (type_of texts types) x.parameters) (map (type_of texts types) y.parameters) =
          slices-map nat_cmp text_cmp (type_of texts types) (λ n. n < length types) types_agree x.parameters y.parameters p.parameters_in q.parameters_in in
          λ i. ordering_then ((types_agree x.return_type y.return_type p.return_in q.return_in) i) (r i)

      module _ (rows : List (List ProtoNumbers)) (are_encoded : AllZip (λ (part : Mentions) xs. Denote (proto_of_row texts types) (IsRowOf texts types) part.protos xs) parts rows) where
        pub protos_joined : (joined : List ProtoNumbers) (images : List (List ℕ)) (table : Protos) → IsJoin (λ (row : ProtoNumbers). row.return_type ∷ row.parameters) rows joined images → HasSpans table → numbers_in table ≡ joined
            → AreJoinedProtos parts texts types table.parameters.items table.rows.items images
        protos_joined joined images table j spans is =
            let ps = table.parameters.items in
            let u = union (λ (row : ProtoNumbers). row.return_type ∷ row.parameters) (proto_of_row texts types) (IsRowOf texts types) symbols.proto_cmp proto_total proto_exact rows_agree (λ (m : Mentions). m.protos) parts rows are_encoded joined images j in
            let w = joined_within (λ (row : ProtoNumbers). row.return_type ∷ row.parameters) (proto_of_row texts types) (IsRowOf texts types) symbols.proto_cmp proto_total proto_exact rows_agree (λ (m : Mentions). m.protos) parts rows are_encoded joined images j in
            let parts_of = entries_of texts types ps table.rows.items spans (rw is w) in
            record {
              union = same_union (λ (m : Mentions). m.protos) symbols.proto_cmp parts (map (proto_of_row texts types) joined) (map (proto_of texts types ps) table.rows.items) images
                  (ap (map (proto_of_row texts types)) (sym is) ∙ map_both (numbers_of ps) (proto_of_row texts types) (proto_of texts types ps) table.rows.items (λ k d lt. refl)) u;
              within = parts_of.0;
              shorties = parts_of.1;
            }

      -- ---- fields

      fields_agree : (f g : FieldRow) → IsFieldWithin (length texts) (length types) f → IsFieldWithin (length texts) (length types) g → row_cmp field_key f g ≡ symbols.field_cmp (field_of texts types f) (field_of texts types g)
      fields_agree f g h k = order.field_rows_agree texts texts_rise types jy.within types_rise f g h k

      module _ (rows : List (List FieldRow)) (are_encoded : AllZip (λ (part : Mentions) xs. Denote (field_of texts types) (IsFieldWithin (length texts) (length types)) part.fields xs) parts rows) where
        pub fields_joined : (joined : List FieldRow) (images : List (List ℕ)) → IsJoin field_key rows joined images → AreJoinedFields parts texts types joined images
        fields_joined joined images j = record {
          union = union field_key (field_of texts types) (IsFieldWithin (length texts) (length types)) symbols.field_cmp field_total field_exact fields_agree (λ (m : Mentions). m.fields) parts rows are_encoded joined images j;
          within = joined_within field_key (field_of texts types) (IsFieldWithin (length texts) (length types)) symbols.field_cmp field_total field_exact fields_agree (λ (m : Mentions). m.fields) parts rows are_encoded joined images j;
        }

      -- ---- methods

      module _ (ps : List ℕ) (protos : List ProtoEntry) (proto_images : List (List ℕ)) (jp : AreJoinedProtos parts texts types ps protos proto_images) where
        pub proto_symbols_rise : rises symbols.proto_cmp (map (proto_of texts types ps) protos) ≡ true
        proto_symbols_rise = union_rises (λ (m : Mentions). m.protos) symbols.proto_cmp proto_total proto_exact parts (map (proto_of texts types ps) protos) proto_images jp.union

        pub protos_rise : rises (proto_cmp ps) protos ≡ true
        protos_rise = order.protos_rise_equally texts texts_rise types jy.within types_rise ps protos jp.within ∙ proto_symbols_rise

        methods_agree : (m n : MethodRow) → IsMethodWithin (length texts) (length types) (length protos) m → IsMethodWithin (length texts) (length types) (length protos) n
            → row_cmp method_key m n ≡ symbols.method_cmp (method_of texts types ps protos m) (method_of texts types ps protos n)
        methods_agree m n h k = order.method_rows_agree texts texts_rise types jy.within types_rise ps protos jp.within protos_rise m n h k

        module _ (rows : List (List MethodRow)) (are_encoded : AllZip (λ (part : Mentions) xs. Denote (method_of texts types ps protos) (IsMethodWithin (length texts) (length types) (length protos)) part.methods xs) parts rows) where
          pub methods_joined : (joined : List MethodRow) (images : List (List ℕ)) → IsJoin method_key rows joined images → AreJoinedMethods parts texts types ps protos joined images
          methods_joined joined images j = record {
            union = union method_key (method_of texts types ps protos) (IsMethodWithin (length texts) (length types) (length protos)) symbols.method_cmp method_total method_exact methods_agree (λ (m : Mentions). m.methods) parts rows are_encoded joined images j;
            within = joined_within method_key (method_of texts types ps protos) (IsMethodWithin (length texts) (length types) (length protos)) symbols.method_cmp method_total method_exact methods_agree (λ (m : Mentions). m.methods) parts rows are_encoded joined images j;
          }

        pub method_rows_rise : (methods : List MethodRow) (method_images : List (List ℕ)) → AreJoinedMethods parts texts types ps protos methods method_images → rises (row_cmp method_key) methods ≡ true
        method_rows_rise methods method_images jm = order.methods_rise_equally texts texts_rise types jy.within types_rise ps protos jp.within protos_rise methods jm.within
            ∙ union_rises (λ (m : Mentions). m.methods) symbols.method_cmp method_total method_exact parts (map (method_of texts types ps protos) methods) method_images jm.union

      pub field_rows_rise : (fields : List FieldRow) (field_images : List (List ℕ)) → AreJoinedFields parts texts types fields field_images → rises (row_cmp field_key) fields ≡ true
      field_rows_rise fields field_images jf = order.fields_rise_equally texts texts_rise types jy.within types_rise fields jf.within
          ∙ union_rises (λ (m : Mentions). m.fields) symbols.field_cmp field_total field_exact parts (map (field_of texts types) fields) field_images jf.union
