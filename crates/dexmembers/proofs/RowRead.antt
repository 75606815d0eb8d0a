-- What is returned for a row that was read.
use Rattle.dexmembers.proofs.Common.{◌≡◌, ℕ, ◌+◌, ◌-◌, ◌^◌, ◌<◌, ◌≤◌, min, List, length, refl, sym, ap, ◌∙◌, subst, inl, inr, Option, map, Result, Ok, Err, IfOk, IfErr, AllZip, BothOrNone, rises, Code, IsReadable, zip_length, Mentions, ItemFault, Refused, Memory, AreRising, NumberedItem, DenotesCode, code_in, IsKnownCode, shared_directory_of, NumberedValues, directory_in, values_in, NumberedDirectory, SharedDirectory, nat_cmp, ShareNone}
use Rattle.dexmembers.specs.{NumberedMembers, members_in, AreKnownMembers, NumberedField, NumberedMethod, AreOrdered, members_weight, codes_weight, codes_of, MembersRow, AreReadWithin, IsMembersFault, IsMembersFaultWithin}
use Rattle.dexmembers.specs.internal.ClassData.{IsDataOf, class_data_in}
use Rattle.dexmembers.specs.internal.MethodCodes.{AreCodesAt}
use Rattle.dexmembers.specs.internal.RowParts.{ArePartsOf, HaveCodes, IsPartFault, attached}
use Rattle.dexmembers.specs.internal.Weighed.{AreWithin, IsWeighedWithin}
use Rattle.dexmembers.specs.declared.class_data.EncodedMethod.{EncodedMethod as MethodRead}
use Rattle.dexmembers.specs.declared.class_data.ClassData.{ClassData as DataRead}
use Rattle.dexmembers.proofs.CodesApart.{attached_codes}
use Rattle.dexmembers.proofs.OfClass.{attached_of_class, field_numbers, method_numbers}
use Rattle.dexmembers.proofs.RowsAreAt.{row_readable}
use Rattle.dexmembers.specs.declared.class_data.EncodedField.{EncodedField as FieldRead}
use Rattle.dexmembers.proofs.Meant.{fields_meant, fields_known, methods_meant, methods_known}

-- there is code or none for each method
codes_many : (b : List ℕ) (m : Mentions) (xs : List MethodRead) (codes : List (Option NumberedItem)) (symbolic : List (Option Code)) → AreCodesAt b xs symbolic → AllZip (BothOrNone (DenotesCode m)) codes symbolic → length codes ≡ length xs
codes_many b m xs codes symbolic at are_encoded = zip_length (BothOrNone (DenotesCode m)) codes symbolic are_encoded ∙ sym (zip_length _ xs symbolic at)

module _ (b : List ℕ) (r : ℕ) (m : Mentions) (rising : AreRising m) (read : DataRead) (is : IsDataOf b r m read) (most : ℕ) (a : SharedDirectory) (direct virtual : List (Option NumberedItem)) (vs : NumberedValues) (parts : ArePartsOf b r m read most a direct virtual vs) where
  -- and so there is for each of a row
  have_codes : HaveCodes read direct virtual
  have_codes = record {
    direct_many = codes_many b m read.direct_methods.items direct parts.direct_codes.symbolic parts.direct_codes.at parts.direct_codes.are_encoded;
    virtual_many = codes_many b m read.virtual_methods.items virtual parts.virtual_codes.symbolic parts.virtual_codes.at parts.virtual_codes.are_encoded;
  }

  module _ (is_known : (c : NumberedItem) (x : Code) → DenotesCode m c x → IsKnownCode m c) (is_meant : (c : NumberedItem) (x : Code) → DenotesCode m c x → x ≡ code_in m c) where
    abbrev d : NumberedDirectory
    d = shared_directory_of a

    abbrev put : NumberedMembers
    put = attached read d direct virtual vs

    -- the row declares what they mean
    parts_row : MembersRow b r (members_in m put)
    parts_row = record {
      directory = directory_in m d;
      directory_is = parts.annotations.at;
      declared = class_data_in m read;
      declared_is = is.declared.is;
      annotations = refl;
      static_fields = fields_meant m rising d parts.annotations.known read.static_fields.items is.static_fields_are.fields_in;
      instance_fields = fields_meant m rising d parts.annotations.known read.instance_fields.items is.instance_fields_are.fields_in;
      direct_methods = methods_meant m rising d parts.annotations.known b is_known is_meant read.direct_methods.items direct parts.direct_codes.symbolic is.direct_methods_are.methods_in parts.direct_codes.at parts.direct_codes.are_encoded;
      virtual_methods = methods_meant m rising d parts.annotations.known b is_known is_meant read.virtual_methods.items virtual parts.virtual_codes.symbolic is.virtual_methods_are.methods_in parts.virtual_codes.at parts.virtual_codes.are_encoded;
      static_values = parts.values.are.at;
    }

    -- their numbers are those of symbols
    parts_known : AreKnownMembers m put
    parts_known = record {
      annotations_known = parts.annotations.known.own_known;
      static_fields_known = fields_known m rising d parts.annotations.known read.static_fields.items is.static_fields_are.fields_in;
      instance_fields_known = fields_known m rising d parts.annotations.known read.instance_fields.items is.instance_fields_are.fields_in;
      direct_methods_known = methods_known m rising d parts.annotations.known b is_known is_meant read.direct_methods.items direct parts.direct_codes.symbolic is.direct_methods_are.methods_in parts.direct_codes.at parts.direct_codes.are_encoded;
      virtual_methods_known = methods_known m rising d parts.annotations.known b is_known is_meant read.virtual_methods.items virtual parts.virtual_codes.symbolic is.virtual_methods_are.methods_in parts.virtual_codes.at parts.virtual_codes.are_encoded;
      values_known = parts.values.known;
    }

    -- and in order
    parts_ordered : AreOrdered put
    parts_ordered =
        let statics = field_numbers d.fields read.static_fields.items in
        let instances = field_numbers d.fields read.instance_fields.items in
        let directs = method_numbers b m d.methods d.parameters read.direct_methods.items direct parts.direct_codes.symbolic parts.direct_codes.at parts.direct_codes.are_encoded in
        let virtuals = method_numbers b m d.methods d.parameters read.virtual_methods.items virtual parts.virtual_codes.symbolic parts.virtual_codes.at parts.virtual_codes.are_encoded in
        record {
          static_fields_rise = ap (rises nat_cmp) statics ∙ is.static_fields_are.fields_rise;
          instance_fields_rise = ap (rises nat_cmp) instances ∙ is.instance_fields_are.fields_rise;
          direct_methods_rise = ap (rises nat_cmp) directs ∙ is.direct_methods_are.methods_rise;
          virtual_methods_rise = ap (rises nat_cmp) virtuals ∙ is.virtual_methods_are.methods_rise;
          fields_apart = subst (λ (l : List ℕ). ShareNone l (map (λ (f : NumberedField). f.number) put.instance_fields)) (sym statics) (subst (λ (l : List ℕ). ShareNone (map (λ (x : FieldRead). x.index) read.static_fields.items) l) (sym instances) is.fields_apart);
          methods_apart = subst (λ (l : List ℕ). ShareNone l (map (λ (y : NumberedMethod). y.number) put.virtual_methods)) (sym directs) (subst (λ (l : List ℕ). ShareNone (map (λ (x : MethodRead). x.index) read.direct_methods.items) l) (sym virtuals) is.methods_apart);
        }

    parts_readable : IsReadable b r
    parts_readable = row_readable b r m read is (directory_in m d) (record { at = parts.annotations.at; named = parts.annotations.named }) (parts.direct_codes.symbolic, parts.direct_codes.at) (parts.virtual_codes.symbolic, parts.virtual_codes.at) (values_in m vs, parts.values.are)

    module _ (made : NumberedMembers) (same : made ≡ put) where
      weighs : members_weight (members_in m made) ≡ members_weight (members_in m put)
      weighs = ap (λ (x : NumberedMembers). members_weight (members_in m x)) same

      -- what is returned for them, by what they weigh
      returned : (found : Result (NumberedMembers × ℕ) ItemFault) → AreWithin made (members_weight (members_in m made)) most found → IfOk found (AreReadWithin b r m most) × IfErr found (IsPartFault b r most)
      returned (Err fault) h = (tt, subst (IsPartFault b r most) (sym h.0) (inr (refl, λ readable. record { readable = parts_readable; members = members_in m (put); row = parts_row; heavy = subst (λ (n : ℕ). most < n) weighs h.1 })))
      returned (Ok y) h = (
        subst (λ (x : NumberedMembers). AreReadWithin b r m most (x, y.1)) (sym (h.0 ∙ same)) (
          record {
            readable = parts_readable;
            known = parts_known;
            row = parts_row;
            ordered = parts_ordered;
            of_class = λ name at. attached_of_class b r m read is name at d direct virtual vs parts.direct_codes.symbolic parts.virtual_codes.symbolic parts.direct_codes.at parts.direct_codes.are_encoded parts.virtual_codes.at parts.virtual_codes.are_encoded;
            light = subst (λ (n : ℕ). n ≤ most) (h.1 ∙ weighs) h.2;
          },
          h.1 ∙ weighs,
        ),
        tt,
      )

      -- by what their code weighs
      pub parts_returned : (codes : ℕ) → codes ≡ min (2 ^ 64 - 1) (codes_weight direct + codes_weight virtual) → (found : Result (NumberedMembers × ℕ) ItemFault) → IsWeighedWithin made codes most found → IfOk found (AreReadWithin b r m most) × IfErr found (IsPartFault b r most)
      parts_returned codes codes_are found weighed =
          let apart = attached_codes read d direct virtual vs have_codes.direct_many have_codes.virtual_many in
          let whole : codes ≡ min (2 ^ 64 - 1) (codes_weight (codes_of made)) = codes_are ∙ ap (λ (n : ℕ). min (2 ^ 64 - 1) n) (sym (ap (λ (x : NumberedMembers). codes_weight (codes_of x)) same ∙ apart)) in
          returned found (weighed m rising (subst (AreKnownMembers m) (sym same) parts_known) whole)

-- a fault of a part of the row
pub part_fault : (b : List ℕ) (r most : ℕ) (fault : ItemFault) → IsMembersFault b r fault → IsPartFault b r most fault
part_fault b r most Memory h = tt
part_fault b r most (Refused n) h = inl h

-- a row that is too heavy is so if all of it is there
pub fault_within : (b : List ℕ) (r most number : ℕ) → IsPartFault b r most (Refused number) → (number ≡ 23 → IsReadable b r) → IsMembersFaultWithin b r most (Refused number)
fault_within b r most number (inl h) readable = inl h
fault_within b r most number (inr h) readable = inr (h.0, h.1 (readable h.0))
