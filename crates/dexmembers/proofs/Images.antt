-- The images of the numbers of what a class declares, part by part.
use Rattle.dexmembers.proofs.Common.{ℕ, List, [], ◌++◌, Option, Some, None, IfSome, option_to_list, All, flat_map, All-head, All-tail, Maps, Use, IsMappedUse, NumberedItem, item_uses, HasImages, NumberedSet, NumberedValues, set_uses, values_uses, all_prefix, all_back, all_parts, all_of}
use Rattle.dexpool.specs.declared.symbols.SymbolKind.TheVariants as kinds
use Rattle.dexmembers.specs.{NumberedField, NumberedMethod, NumberedMembers, fields_of, methods_of, field_uses, method_uses, members_uses}

-- the field of a number
abbrev pub field_use : ℕ → Use
field_use i = record { kind = kinds.Field; number = i }

-- the method
abbrev pub method_use : ℕ → Use
method_use i = record { kind = kinds.Method; number = i }

-- each number of the set has an image
abbrev pub SetHasImages : Maps → NumberedSet → Type 0
SetHasImages r s = All (IsMappedUse r) (set_uses s)

-- of these values
abbrev pub HaveImages : Maps → NumberedValues → Type 0
HaveImages r xs = All (IsMappedUse r) (values_uses xs)

-- of the field
pub record FieldHasImages (r : Maps) (f : NumberedField) : Type 0 where
  pub number_mapped : IsMappedUse r (field_use f.number)
  pub annotations_mapped : SetHasImages r f.annotations

-- of the method
pub record MethodHasImages (r : Maps) (x : NumberedMethod) : Type 0 where
  pub number_mapped : IsMappedUse r (method_use x.number)
  pub code_mapped : IfSome x.code (HasImages r)
  pub annotations_mapped : SetHasImages r x.annotations
  pub parameters_mapped : All (SetHasImages r) x.parameter_annotations

-- of all of them
pub record MembersHaveImages (r : Maps) (x : NumberedMembers) : Type 0 where
  pub annotations_mapped : SetHasImages r x.annotations
  pub static_fields_mapped : All (FieldHasImages r) x.static_fields
  pub instance_fields_mapped : All (FieldHasImages r) x.instance_fields
  pub direct_methods_mapped : All (MethodHasImages r) x.direct_methods
  pub virtual_methods_mapped : All (MethodHasImages r) x.virtual_methods
  pub values_mapped : HaveImages r x.static_values

-- what holds of the uses of one or none
one : {X : Type 0} (P : Use → Type 0) (u : X → List Use) (Q : X → Type 0) → ((x : X) → All P (u x) → Q x) → (o : Option X) → All P (flat_map u (option_to_list o)) → IfSome o Q
one P u Q step None h = tt
one P u Q step (Some x) h = step x (all_prefix P (u x) [] h)

module _ (r : Maps) (code_images : (c : NumberedItem) → All (IsMappedUse r) (item_uses c) → HasImages r c) where
  field_images : (f : NumberedField) → All (IsMappedUse r) (field_uses f) → FieldHasImages r f
  field_images f h = record {
    number_mapped = All-head (IsMappedUse r) (field_use f.number) (set_uses f.annotations) h;
    annotations_mapped = All-tail (IsMappedUse r) (field_use f.number) (set_uses f.annotations) h;
  }

  method_images : (x : NumberedMethod) → All (IsMappedUse r) (method_uses x) → MethodHasImages r x
  method_images x h =
      let coded = flat_map item_uses (option_to_list x.code) in
      let own = set_uses x.annotations in
      let parameters = flat_map set_uses x.parameter_annotations in
      let following = All-tail (IsMappedUse r) (method_use x.number) (coded ++ (own ++ parameters)) h in
      let sets = all_back (IsMappedUse r) coded (own ++ parameters) following in
      record {
        number_mapped = All-head (IsMappedUse r) (method_use x.number) (coded ++ (own ++ parameters)) h;
        code_mapped = one (IsMappedUse r) item_uses (HasImages r) code_images x.code (all_prefix (IsMappedUse r) coded (own ++ parameters) following);
        annotations_mapped = all_prefix (IsMappedUse r) own parameters sets;
        parameters_mapped = all_parts (IsMappedUse r) set_uses x.parameter_annotations (all_back (IsMappedUse r) own parameters sets);
      }

  -- all of them
  pub members_images : (x : NumberedMembers) → All (IsMappedUse r) (members_uses x) → MembersHaveImages r x
  members_images x h =
      let own = set_uses x.annotations in
      let fs = flat_map field_uses (fields_of x) in
      let ms = flat_map method_uses (methods_of x) in
      let vs = values_uses x.static_values in
      let following = all_back (IsMappedUse r) own (fs ++ (ms ++ vs)) h in
      let rest = all_back (IsMappedUse r) fs (ms ++ vs) following in
      let fields = all_of (λ f. All (IsMappedUse r) (field_uses f)) (FieldHasImages r) (fields_of x) field_images (all_parts (IsMappedUse r) field_uses (fields_of x) (all_prefix (IsMappedUse r) fs (ms ++ vs) following)) in
      let methods = all_of (λ y. All (IsMappedUse r) (method_uses y)) (MethodHasImages r) (methods_of x) method_images (all_parts (IsMappedUse r) method_uses (methods_of x) (all_prefix (IsMappedUse r) ms vs rest)) in
      record {
        annotations_mapped = all_prefix (IsMappedUse r) own (fs ++ (ms ++ vs)) h;
        static_fields_mapped = all_prefix (FieldHasImages r) x.static_fields x.instance_fields fields;
        instance_fields_mapped = all_back (FieldHasImages r) x.static_fields x.instance_fields fields;
        direct_methods_mapped = all_prefix (MethodHasImages r) x.direct_methods x.virtual_methods methods;
        virtual_methods_mapped = all_back (MethodHasImages r) x.direct_methods x.virtual_methods methods;
        values_mapped = all_back (IsMappedUse r) ms vs rest;
      }
