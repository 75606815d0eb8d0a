-- What members denote stays the same once they are renumbered, and so do their order and their class.
use Rattle.dexmembers.proofs.Common.{◌≡◌, ℕ, ◌<◌, List, [], length, map, get_or, refl, ap, ◌∙◌, subst, All, All-append, All-map, map-append, Text, Field, Method, ShareNone, Mentions, Maps, image, AllMapTo, IsMappedUse, NumberedItem, code_in, IsKnownCode, renumbered_item, HasImages, NumberedSet, NumberedValues, field_at, method_at, set_in, values_in, IsKnownSet, AreKnown, remapped, renumbered_set, renumbered_values}
use Rattle.dexpool.specs.declared.symbols.SymbolKind.TheVariants as kinds
use Rattle.dexmembers.specs.{NumberedField, NumberedMethod, NumberedMembers, fields_of, methods_of, field_in, method_in, members_in, IsKnownField, IsKnownMethod, AreKnownMembers, AreOrdered, AreOfClass, NumbersRise, renumbered_field, renumbered_method, renumbered_members}
use Rattle.dexmembers.proofs.Images.{field_use, method_use, SetHasImages, HaveImages, FieldHasImages, MethodHasImages, MembersHaveImages}
use Rattle.dexpool.proofs.Numbers.{some_of, number_remapped}
use Rattle.dexmembers.proofs.RenumberingLists.{both_ways, all_mapped, maps_keep, options_keep}
use Rattle.dexmembers.proofs.RenumberingOrder.{Goes, end, rise_kept, apart_kept}

abbrev pub no_field : Field
no_field = record { class = []; name = []; type = [] }

abbrev pub no_method : Method
no_method = record { class = []; name = []; proto = record { return_type = []; parameters = [] } }

-- ---- numbers

module _ (m n : Mentions) (r : Maps) (maps_to : AllMapTo m n r) where
  pub field_remapped : (i : ℕ) → IsMappedUse r (field_use i) → (remapped r kinds.Field i < length n.fields) × (field_at n (remapped r kinds.Field i) ≡ field_at m i)
  field_remapped i h = number_remapped m n r maps_to kinds.Field i h

  pub method_remapped : (i : ℕ) → IsMappedUse r (method_use i) → (remapped r kinds.Method i < length n.methods) × (method_at n (remapped r kinds.Method i) ≡ method_at m i)
  method_remapped i h = number_remapped m n r maps_to kinds.Method i h

-- ---- meaning

-- sets denote what they denoted before
abbrev pub SetsKeep : Mentions → Mentions → Maps → Type 0
SetsKeep m n r = (xs : NumberedSet) → SetHasImages r xs → IsKnownSet m xs → IsKnownSet n (renumbered_set r xs) × (set_in n (renumbered_set r xs) ≡ set_in m xs)

-- values
abbrev pub ValuesKeep : Mentions → Mentions → Maps → Type 0
ValuesKeep m n r = (xs : NumberedValues) → HaveImages r xs → AreKnown m xs → AreKnown n (renumbered_values r xs) × (values_in n (renumbered_values r xs) ≡ values_in m xs)

-- code
abbrev pub CodesKeep : Mentions → Mentions → Maps → Type 0
CodesKeep m n r = (c : NumberedItem) → HasImages r c → IsKnownCode m c → IsKnownCode n (renumbered_item r c) × (code_in n (renumbered_item r c) ≡ code_in m c)

field_keeps : (m n : Mentions) (r : Maps) → AllMapTo m n r → SetsKeep m n r → (f : NumberedField) → FieldHasImages r f → IsKnownField m f → IsKnownField n (renumbered_field r f) × (field_in n (renumbered_field r f) ≡ field_in m f)
field_keeps m n r maps_to sets f places known =
    let at = field_remapped m n r maps_to f.number places.number_mapped in
    let set = sets f.annotations places.annotations_mapped known.annotations_known in (
      record { number_in = at.0; annotations_known = set.0 },
      λ i. record { name = (at.1 i).name; type = (at.1 i).type; flags = f.flags; annotations = set.1 i },
    )

method_keeps : (m n : Mentions) (r : Maps) → AllMapTo m n r → SetsKeep m n r → CodesKeep m n r → (x : NumberedMethod) → MethodHasImages r x → IsKnownMethod m x → IsKnownMethod n (renumbered_method r x) × (method_in n (renumbered_method r x) ≡ method_in m x)
method_keeps m n r maps_to sets codes x places known =
    let at = method_remapped m n r maps_to x.number places.number_mapped in
    let code = options_keep (renumbered_item r) (code_in m) (code_in n) (HasImages r) (IsKnownCode m) (IsKnownCode n) codes x.code places.code_mapped known.code_known in
    let set = sets x.annotations places.annotations_mapped known.annotations_known in
    let parameters = maps_keep (renumbered_set r) (set_in m) (set_in n) (SetHasImages r) (IsKnownSet m) (IsKnownSet n) sets x.parameter_annotations places.parameters_mapped known.parameters_known in (
      record { number_in = at.0; code_known = code.0; annotations_known = set.0; parameters_known = parameters.0 },
      λ i. record { name = (at.1 i).name; proto = (at.1 i).proto; flags = x.flags; code = code.1 i; annotations = set.1 i; parameter_annotations = parameters.1 i },
    )

pub members_keep : (m n : Mentions) (r : Maps) (x : NumberedMembers) → AllMapTo m n r → SetsKeep m n r → CodesKeep m n r → ValuesKeep m n r → MembersHaveImages r x → AreKnownMembers m x
    → AreKnownMembers n (renumbered_members r x) × (members_in n (renumbered_members r x) ≡ members_in m x)
members_keep m n r x maps_to sets codes values places known =
    let set = sets x.annotations places.annotations_mapped known.annotations_known in
    let fields = maps_keep (renumbered_field r) (field_in m) (field_in n) (FieldHasImages r) (IsKnownField m) (IsKnownField n) (field_keeps m n r maps_to sets) in
    let methods = maps_keep (renumbered_method r) (method_in m) (method_in n) (MethodHasImages r) (IsKnownMethod m) (IsKnownMethod n) (method_keeps m n r maps_to sets codes) in
    let statics = fields x.static_fields places.static_fields_mapped known.static_fields_known in
    let instances = fields x.instance_fields places.instance_fields_mapped known.instance_fields_known in
    let directs = methods x.direct_methods places.direct_methods_mapped known.direct_methods_known in
    let virtuals = methods x.virtual_methods places.virtual_methods_mapped known.virtual_methods_known in
    let beginnings = values x.static_values places.values_mapped known.values_known in (
      record {
        annotations_known = set.0;
        static_fields_known = statics.0;
        instance_fields_known = instances.0;
        direct_methods_known = directs.0;
        virtual_methods_known = virtuals.0;
        values_known = beginnings.0;
      },
      λ i. record {
        annotations = set.1 i;
        static_fields = statics.1 i;
        instance_fields = instances.1 i;
        direct_methods = directs.1 i;
        virtual_methods = virtuals.1 i;
        static_values = beginnings.1 i;
      },
    )

-- ---- order

field_numbers : (r : Maps) (fs : List NumberedField) → map (end r.fields) (map (λ f. f.number) fs) ≡ map (λ f. f.number) (map (renumbered_field r) fs)
field_numbers r = both_ways (λ (f : NumberedField). f.number) (end r.fields) (renumbered_field r) (λ (f : NumberedField). f.number) (λ f. refl)

method_numbers : (r : Maps) (xs : List NumberedMethod) → map (end r.methods) (map (λ x. x.number) xs) ≡ map (λ x. x.number) (map (renumbered_method r) xs)
method_numbers r = both_ways (λ (x : NumberedMethod). x.number) (end r.methods) (renumbered_method r) (λ (x : NumberedMethod). x.number) (λ x. refl)

fields_go : (r : Maps) (fs : List NumberedField) → All (FieldHasImages r) fs → All (Goes r.fields) (map (λ f. f.number) fs)
fields_go r fs h = All-map (Goes r.fields) (λ (f : NumberedField). f.number) fs (λ k d lt. some_of (image r.fields (get_or fs k d).number) (h k d lt).number_mapped)

methods_go : (r : Maps) (xs : List NumberedMethod) → All (MethodHasImages r) xs → All (Goes r.methods) (map (λ x. x.number) xs)
methods_go r xs h = All-map (Goes r.methods) (λ (x : NumberedMethod). x.number) xs (λ k d lt. some_of (image r.methods (get_or xs k d).number) (h k d lt).number_mapped)

pub order_kept : (m n : Mentions) (r : Maps) (x : NumberedMembers) → AllMapTo m n r → MembersHaveImages r x → AreOrdered x → AreOrdered (renumbered_members r x)
order_kept m n r x maps_to places h =
    let fields = maps_to.fields_mapped.rising in
    let methods = maps_to.methods_mapped.rising in
    let fields_rise = λ (fs : List NumberedField) (go : All (FieldHasImages r) fs) (rise : NumbersRise (map (λ f. f.number) fs)).
    subst NumbersRise (field_numbers r fs) (rise_kept r.fields fields (map (λ f. f.number) fs) (fields_go r fs go) rise) in
    let methods_rise = λ (xs : List NumberedMethod) (go : All (MethodHasImages r) xs) (rise : NumbersRise (map (λ x. x.number) xs)).
    subst NumbersRise (method_numbers r xs) (rise_kept r.methods methods (map (λ x. x.number) xs) (methods_go r xs go) rise) in
    let fields_apart : ShareNone (map (end r.fields) (map (λ f. f.number) x.static_fields)) (map (end r.fields) (map (λ f. f.number) x.instance_fields))
    = apart_kept r.fields fields (map (λ f. f.number) x.static_fields) (map (λ f. f.number) x.instance_fields) (fields_go r x.static_fields places.static_fields_mapped) (fields_go r x.instance_fields places.instance_fields_mapped) h.fields_apart in
    let methods_apart : ShareNone (map (end r.methods) (map (λ y. y.number) x.direct_methods)) (map (end r.methods) (map (λ y. y.number) x.virtual_methods))
    = apart_kept r.methods methods (map (λ y. y.number) x.direct_methods) (map (λ y. y.number) x.virtual_methods) (methods_go r x.direct_methods places.direct_methods_mapped) (methods_go r x.virtual_methods places.virtual_methods_mapped) h.methods_apart in
    record {
      static_fields_rise = fields_rise x.static_fields places.static_fields_mapped h.static_fields_rise;
      instance_fields_rise = fields_rise x.instance_fields places.instance_fields_mapped h.instance_fields_rise;
      direct_methods_rise = methods_rise x.direct_methods places.direct_methods_mapped h.direct_methods_rise;
      virtual_methods_rise = methods_rise x.virtual_methods places.virtual_methods_mapped h.virtual_methods_rise;
      fields_apart = subst (λ is. ShareNone is (map (λ f. f.number) (map (renumbered_field r) x.instance_fields))) (field_numbers r x.static_fields)
          (subst (λ js. ShareNone (map (end r.fields) (map (λ f. f.number) x.static_fields)) js) (field_numbers r x.instance_fields) fields_apart);
      methods_apart = subst (λ is. ShareNone is (map (λ y. y.number) (map (renumbered_method r) x.virtual_methods))) (method_numbers r x.direct_methods)
          (subst (λ js. ShareNone (map (end r.methods) (map (λ y. y.number) x.direct_methods)) js) (method_numbers r x.virtual_methods) methods_apart);
    }

-- ---- class

-- the field is one of the class of this name
abbrev pub FieldIsOf : Mentions → Text → NumberedField → Type 0
FieldIsOf m class f = (field_at m f.number).class ≡ class

-- the method is
abbrev pub MethodIsOf : Mentions → Text → NumberedMethod → Type 0
MethodIsOf m class x = (method_at m x.number).class ≡ class

pub class_kept : (m n : Mentions) (r : Maps) (class : Text) (x : NumberedMembers) → AllMapTo m n r → MembersHaveImages r x → AreOfClass m class x → AreOfClass n class (renumbered_members r x)
class_kept m n r class x maps_to places h =
    let fields = all_mapped (renumbered_field r) (FieldHasImages r) (FieldIsOf m class) (FieldIsOf n class) (λ f go is. ap (λ k. k.class) (field_remapped m n r maps_to f.number go.number_mapped).1 ∙ is) in
    let methods = all_mapped (renumbered_method r) (MethodHasImages r) (MethodIsOf m class) (MethodIsOf n class) (λ y go is. ap (λ k. k.class) (method_remapped m n r maps_to y.number go.number_mapped).1 ∙ is) in
    record {
      fields_of_class = subst (All (FieldIsOf n class)) (map-append (renumbered_field r) x.static_fields x.instance_fields)
          (fields (fields_of x) (All-append (FieldHasImages r) x.static_fields x.instance_fields places.static_fields_mapped places.instance_fields_mapped) h.fields_of_class);
      methods_of_class = subst (All (MethodIsOf n class)) (map-append (renumbered_method r) x.direct_methods x.virtual_methods)
          (methods (methods_of x) (All-append (MethodHasImages r) x.direct_methods x.virtual_methods places.direct_methods_mapped places.virtual_methods_mapped) h.methods_of_class);
    }
