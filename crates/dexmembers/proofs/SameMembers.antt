-- Numbers are the ranks of what they mean, so members of one class are the same just where they denote the same.
use Rattle.dexmembers.proofs.Common.{◌≡◌, map, sym, ap, ◌∙◌, ◌↔◌, all_prefix, all_back, option_map, Text, Mentions, AreRising, code_in, IsKnownCode, NumberedSet, field_at, method_at, set_in, IsKnownSet}
use Rattle.dexspec.specs.Annotations.{AnnotationSet}
use Rattle.dexspec.specs.Classes.{FieldDef, MethodDef}
use Rattle.dexspec.specs.Spellings.{field_index, method_index}
use Rattle.dexpool.specs.declared.symbols.SymbolKind.TheVariants as kinds
use Rattle.dexpool.proofs.Numbers.{number_ranked, one_back}
use Rattle.dexpool.proofs.Numbers as numbers
use Rattle.dexcode.proofs.MeaningRanked.{ranked_code, code_back}
use Rattle.dexval.proofs.Ranked.{ranked_annotation, ranked_values, set_ranked, values_ranked}
use Rattle.dexmembers.specs.{NumberedField, NumberedMethod, NumberedMembers, Members, field_in, method_in, members_in, IsKnownField, IsKnownMethod, AreKnownMembers, AreOfClass}
use Rattle.dexmembers.proofs.RenumberingKept.{FieldIsOf, MethodIsOf}

-- ---- ranks instead of symbols

module _ (m : Mentions) (class : Text) where
  abbrev ranked_set : AnnotationSet → NumberedSet
  ranked_set s = map (ranked_annotation m) s

  abbrev ranked_field : FieldDef → NumberedField
  ranked_field f = record { number = field_index m (record { class = class; name = f.name; type = f.type }); flags = f.flags; annotations = ranked_set f.annotations }

  abbrev ranked_method : MethodDef → NumberedMethod
  ranked_method x = record {
    number = method_index m (record { class = class; name = x.name; proto = x.proto });
    flags = x.flags;
    code = option_map (ranked_code m) x.code;
    annotations = ranked_set x.annotations;
    parameter_annotations = map ranked_set x.parameter_annotations;
  }

  abbrev pub ranked_members : Members → NumberedMembers
  ranked_members z = record {
    annotations = ranked_set z.annotations;
    static_fields = map ranked_field z.static_fields;
    instance_fields = map ranked_field z.instance_fields;
    direct_methods = map ranked_method z.direct_methods;
    virtual_methods = map ranked_method z.virtual_methods;
    static_values = ranked_values m z.static_values;
  }

-- ---- the ranks are the numbers

module _ (m : Mentions) (rising : AreRising m) (class : Text) where
  field_back : (f : NumberedField) → IsKnownField m f × FieldIsOf m class f → ranked_field m class (field_in m f) ≡ f
  field_back f h =
      let number = ap (λ (c : Text). field_index m (record { class = c; name = (field_at m f.number).name; type = (field_at m f.number).type })) (sym h.1) ∙ number_ranked m rising kinds.Field f.number h.0.number_in in
      let set = set_ranked m rising f.annotations h.0.annotations_known in
      λ i. record { number = number i; flags = f.flags; annotations = set i }

  method_back : (x : NumberedMethod) → IsKnownMethod m x × MethodIsOf m class x → ranked_method m class (method_in m x) ≡ x
  method_back x h =
      let number = ap (λ (c : Text). method_index m (record { class = c; name = (method_at m x.number).name; proto = (method_at m x.number).proto })) (sym h.1) ∙ number_ranked m rising kinds.Method x.number h.0.number_in in
      let code = one_back (IsKnownCode m) (code_in m) (ranked_code m) (code_back m rising) x.code h.0.code_known in
      let set = set_ranked m rising x.annotations h.0.annotations_known in
      let parameters = numbers.all_back (IsKnownSet m) (set_in m) (ranked_set m class) (set_ranked m rising) x.parameter_annotations h.0.parameters_known in
      λ i. record { number = number i; flags = x.flags; code = code i; annotations = set i; parameter_annotations = parameters i }

  pub members_back : (x : NumberedMembers) → AreKnownMembers m x → AreOfClass m class x → ranked_members m class (members_in m x) ≡ x
  members_back x known own =
      let fields = numbers.all_back (λ f. IsKnownField m f × FieldIsOf m class f) (field_in m) (ranked_field m class) field_back in
      let methods = numbers.all_back (λ y. IsKnownMethod m y × MethodIsOf m class y) (method_in m) (ranked_method m class) method_back in
      let static_own = all_prefix (FieldIsOf m class) x.static_fields x.instance_fields own.fields_of_class in
      let instance_own = all_back (FieldIsOf m class) x.static_fields x.instance_fields own.fields_of_class in
      let direct_own = all_prefix (MethodIsOf m class) x.direct_methods x.virtual_methods own.methods_of_class in
      let virtual_own = all_back (MethodIsOf m class) x.direct_methods x.virtual_methods own.methods_of_class in
      let set = set_ranked m rising x.annotations known.annotations_known in
      let statics = fields x.static_fields (λ i d lt. (known.static_fields_known i d lt, static_own i d lt)) in
      let instances = fields x.instance_fields (λ i d lt. (known.instance_fields_known i d lt, instance_own i d lt)) in
      let directs = methods x.direct_methods (λ i d lt. (known.direct_methods_known i d lt, direct_own i d lt)) in
      let virtuals = methods x.virtual_methods (λ i d lt. (known.virtual_methods_known i d lt, virtual_own i d lt)) in
      let values = values_ranked m rising x.static_values known.values_known in
      λ i. record { annotations = set i; static_fields = statics i; instance_fields = instances i; direct_methods = directs i; virtual_methods = virtuals i; static_values = values i }

  -- ---- members that denote the same

  pub members_same : (x y : NumberedMembers) (v w : Members) → AreKnownMembers m x × (members_in m x ≡ v) → AreOfClass m class x → AreKnownMembers m y × (members_in m y ≡ w) → AreOfClass m class y → (x ≡ y) ↔ (v ≡ w)
  members_same x y v w mine own theirs own' = (
    λ same. sym mine.1 ∙ ap (members_in m) same ∙ theirs.1,
    λ same. sym (members_back x mine.0 own) ∙ ap (ranked_members m class) (mine.1 ∙ same ∙ sym theirs.1) ∙ members_back y theirs.0 own',
  )
